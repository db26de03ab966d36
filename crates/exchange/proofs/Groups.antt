-- M-108: groups are put in another order, and every question is answered as before. Assumes nothing.
use Prim.Native.Nat.{ℕ}
use mathlib.Core.Path.{◌≡◌, refl, sym, ◌∙◌}
use mathlib.Core.Bool.{true, false, or-false, false≢true}
use mathlib.Core.List.{List, [], ◌∷◌, ◌++◌, map, flatten, append_assoc, Permᴰ}
use native.Mathlib.Omega.{arith}
use mathlib.Core.Option.{Option, none, some}
use borrow.Author.Tests.{not-true}
use Rattle.lists.specs.Each.{Each}
use Rattle.lists.specs.Lists.{total, empty, all, any, from, same}
use Rattle.lists.proofs.Bools.{split, and_left, and_right}
use Rattle.lists.proofs.Members.{each_map}
use Rattle.lists.proofs.Orders.{total_ordered, each_ordered}
use Rattle.lists.proofs.Tests.{empty_known}
use Rattle.protocol.specs.Lines.{Line, line_text, lines_from, has_leading_mark, ended}
use Rattle.protocol.specs.declared.Kind.{Kind}
use Rattle.protocol.specs.Kinds.{kind_of}
use Rattle.protocol.specs.Entries.{Role, Entry, role_of, entry_of, entries_from}
use Rattle.protocol.specs.Answers.{decide}
use Rattle.exchange.specs.Exchange.{roles_in, is_rule, some_agent, is_agent_line, opens, closes, group_tests, part_tests, leading_mark, is_mark, Parts, file_of, exchanged, around_tests, groups_tests, Pass, file_with, Alike}
use Rattle.exchange.proofs.Parts.{parts_in_order, two_parts}
use Rattle.exchange.proofs.Marks.{agent_unmarked, ended_marks}

-- rule lines only, or no line at all, close
rules_close : (rs : List Role) → all is_rule rs ≡ true → closes rs ≡ true
unfolding all closes
rules_close [] h = refl
rules_close (r ∷ []) h = and_left (is_rule r) true h
rules_close (r ∷ s ∷ rs) h = rules_close (s ∷ rs) (and_right (is_rule r) (all is_rule (s ∷ rs)) h)

-- a group closes
group_closes : (rs : List Role) → any is_rule rs ≡ true → all is_rule (from is_rule rs) ≡ true → closes rs ≡ true
unfolding any from closes
group_closes [] h k = absurd (false≢true h)
group_closes (r ∷ []) h k = sym (or-false (is_rule r)) ∙ h
group_closes (r ∷ s ∷ rs) h k =
    split (is_rule r) (λ e. rules_close (r ∷ s ∷ rs) (rw e at k)) (λ e. group_closes (s ∷ rs) (rw e at h) (rw e at k))

-- an agent line in front opens
agent_opens : (ro : Option Role) (g : ℕ) (l : Line) (k : Kind) (es : List Entry) → some_agent ro ≡ true
    → opens (map (λ e. e.role) (entry_of g l k ro ++ es)) ≡ true
unfolding entry_of
agent_opens none g l k es h = absurd (false≢true h)
agent_opens (some r) g l k es h = h

pub group_opens : (text : List ℕ) → is_agent_line (line_text text) ≡ true → opens (roles_in text) ≡ true
unfolding roles_in lines_from entries_from
group_opens [] h = refl
group_opens (c ∷ l) h = agent_opens (role_of (kind_of (line_text (c ∷ l)))) _ _ _ _ h

-- A group is a part of whole groups.
pub group_part : (text : List ℕ) → Pass (group_tests text) → Pass (part_tests text)
group_part text (first, (ruled, (ordered, (end, t)))) = (group_opens text first, (group_closes (roles_in text) ruled ordered, (end, tt)))

-- no groups in no order
none_ordered : (gs : List (List ℕ)) → Permᴰ gs [] → gs ≡ []
unfolding total
none_ordered [] d = refl
none_ordered (g ∷ gs) d = absurd (omega (arith, total_ordered (λ (x : List ℕ). 1) d))

module _ (rest : List ℕ) where
  -- where a file doesn't begin with EF BB BF, it doesn't with its groups in another order
  still_unmarked : (front : List ℕ) (gs hs : List (List ℕ)) → Permᴰ gs hs → ended front ≡ true → Each (λ g. Pass (group_tests g)) hs
      → has_leading_mark (front ++ (flatten gs ++ rest)) ≡ false → has_leading_mark (front ++ (flatten hs ++ rest)) ≡ false
  unfolding flatten
  still_unmarked (c ∷ l) gs hs d e groups h = sym (ended_marks c l (flatten gs ++ rest) (flatten hs ++ rest) e) ∙ h
  still_unmarked [] gs [] d e groups h = rw (none_ordered gs d) at h
  still_unmarked [] gs (g ∷ hs) d e ((first, t), groups) h =
      rw (append_assoc g (flatten hs) rest) (agent_unmarked g (flatten hs ++ rest) first)

  still_marked : (mark front : List ℕ) (gs hs : List (List ℕ)) → Permᴰ gs hs → ended front ≡ true → Each (λ g. Pass (group_tests g)) hs
      → is_mark mark (file_with mark front gs rest) ≡ true → is_mark mark (file_with mark front hs rest) ≡ true
  unfolding is_mark file_with
  still_marked mark front gs hs d e groups h =
      split (same mark leading_mark) (λ m. rw m)
      (λ m.
      let k = rw m at h in
      let none : mark ≡ [] = empty_known mark (and_left (empty mark) _ k) in
      let unmarked : has_leading_mark (front ++ (flatten gs ++ rest)) ≡ false
      = rw none at (not-true (has_leading_mark (mark ++ (front ++ (flatten gs ++ rest)))) (and_right (empty mark) _ k)) in
      rw (m, none, still_unmarked front gs hs d e groups unmarked))

-- "Groups in any order": any number of them.
pub any_order : (mark front rest : List ℕ) (gs hs : List (List ℕ)) → Permᴰ gs hs
    → Pass (is_mark mark (file_with mark front gs rest) ∷ around_tests front rest) → Each (λ g. Pass (group_tests g)) gs → (name path : List ℕ)
    → Alike (decide 0 (file_with mark front gs rest) name path) (decide 0 (file_with mark front hs rest) name path)
any_order mark front rest gs hs d (m, (e, around)) groups name path =
    let n = still_marked rest mark front gs hs d e (each_ordered (λ g. Pass (group_tests g)) d groups) m in
    parts_in_order mark front rest gs hs d (m, (n, (e, around)))
    (each_map (λ g. Pass (group_tests g)) (λ g. Pass (part_tests g)) gs group_part groups)
    name
    path

-- "exchanging two neighbouring groups, each with at least one rule line, of any readability, and each line ended, leaves allow or disallow as it
-- was for every name and path."
pub groups_exchanged : (p : Parts) → Pass (groups_tests p) → (name path : List ℕ)
    → Alike (decide 0 (file_of p) name path) (decide 0 (file_of (exchanged p)) name path)
groups_exchanged p (m, (e, (c, (o, (i, (j, (k, (l, two)))))))) name path =
    let before = two_parts p in
    rw (before, two_parts (exchanged p)) at
    (any_order p.mark p.front p.rest (p.one ∷ p.two ∷ []) (p.two ∷ p.one ∷ []) (Permᴰ.swap refl refl)
    (rw before m, (e, (c, (o, tt))))
    ((i, (j, (k, (l, tt)))), (two, tt))
    name
    path)
