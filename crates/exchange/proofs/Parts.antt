-- M-108: parts of whole groups are put in another order, and every question is answered as before. Assumes nothing.
use Rattle.std.specs.Prelude.{if◌then◌else◌}
use Prim.Native.Nat.{ℕ}
use mathlib.Core.Path.{◌≡◌, refl, sym, ap, ◌∙◌}
use mathlib.Core.Bool.{Bool, true, false}
use mathlib.Core.List.Permᴰ
use mathlib.Core.List.{List, [], ◌∷◌, ◌++◌, map, flatten, append_assoc, Permᴰ}
use native.Mathlib.Omega.{arith}
use lib.ListN.{length, drop, length-append}
use borrow.Author.Tests.{not-true}
use Rattle.lists.specs.Each.{Each}
use Rattle.lists.specs.Lists.{empty, any, total, same}
use Rattle.lists.proofs.Bools.{split, and_left, and_right}
use Rattle.lists.proofs.Tests.{empty_known, same_equal}
use Rattle.lists.proofs.Appends.{any_map}
use Rattle.lists.proofs.Members.{each_map}
use Rattle.lists.proofs.Orders.{total_ordered, any_ordered, each_ordered, flatten_ordered}
use Rattle.protocol.specs.Lines.{has_leading_mark, skipped, ended}
use Rattle.protocol.specs.Readable.{everyone}
use Rattle.protocol.specs.Entries.{Role, entries}
use Rattle.protocol.specs.Rules.{some_group_names}
use Rattle.protocol.specs.Answers.{decide}
use Rattle.protocol.proofs.Applying.{addressee, applying_addressee}
use Rattle.protocol.proofs.Said.{Said, entry_says, said, said_append, file_says}
use Rattle.protocol.proofs.Groups.{agent_names, some_named, file_grouped, said_for, rules_say}
use Rattle.exchange.specs.Exchange.{roles_in, opens, closes, part_tests, leading_mark, is_mark, Parts, file_of, exchanged, around_tests, parts_tests, Pass, file_with, Alike}
use Rattle.exchange.proofs.Apart.{roles, roles_said, apart, opens_append}
use Rattle.exchange.proofs.Answers.{rules_said, lines_said, alike}

-- of a crawler's name and "*", the one whose groups apply, by what the lines say
abbrev whose : List ℕ → List Said → List ℕ
whose name ss = if any (λ s. agent_names name s.role s.value) ss then name else everyone

-- the rules that apply, by what the lines say
rules_said_lem : (file name : List ℕ) → rules_said file name ≡ said_for (whose name (lines_said file)) false false (lines_said file)
rules_said_lem file name =
    let es = entries file in
    let named : some_group_names file es name ≡ any (λ s. agent_names name s.role s.value) (lines_said file)
    = some_named file name 0 false es (file_grouped file) ∙ sym (any_map (entry_says file) (λ s. agent_names name s.role s.value) es) in
    rw (applying_addressee file es name, rules_say (addressee file es name) file, named)

-- a file behind its mark
behind_mark : (mark body : List ℕ) → is_mark mark (mark ++ body) ≡ true → drop (skipped (mark ++ body)) (mark ++ body) ≡ body
unfolding is_mark has_leading_mark
behind_mark mark body h =
    split (same mark leading_mark)
    (λ e. let m : mark ≡ leading_mark = (same_equal mark leading_mark).0 e in rw m)
    (λ e.
    let k = rw e at h in
    let m : mark ≡ [] = empty_known mark (and_left (empty mark) _ k) in
    let n = not-true (has_leading_mark (mark ++ body)) (and_right (empty mark) _ k) in
    rw (n, m))

-- the tests of a part, by what it says
record Part (text : List ℕ) : Type 0 where
  opens : opens (roles (said text)) ≡ true
  closes : closes (roles (said text)) ≡ true
  ended : ended text ≡ true

-- a test of roles, of what is said
said_test : (test : List Role → Bool) (text : List ℕ) → test (roles_in text) ≡ true → test (roles (said text)) ≡ true
said_test test text k = rw (← roles_said text) k

part : (text : List ℕ) → Pass (part_tests text) → Part text
part text (o, (c, (e, t))) = record { opens = said_test opens text o; closes = said_test closes text c; ended = e }

abbrev rules_of : List ℕ → List ℕ → List Said
rules_of who text = said_for who false false (said text)

-- parts, one behind the other, in front of a rest
module _ (rest : List ℕ) (rest-opens : opens (roles (said rest)) ≡ true) where
  -- what they say
  abbrev said_on : List (List ℕ) → List Said
  said_on ps = flatten (map said ps) ++ said rest

  parts_say : (ps : List (List ℕ)) → Each Part ps → said (flatten ps ++ rest) ≡ said_on ps
  unfolding flatten
  parts_say [] h = refl
  parts_say (t ∷ ps) (k, h) =
      rw (append_assoc t (flatten ps) rest, said_append t (flatten ps ++ rest) k.ended, parts_say ps h)
      (sym (append_assoc (said t) (flatten (map said ps)) (said rest)))

  parts_open : (ps : List (List ℕ)) → Each Part ps → opens (roles (said_on ps)) ≡ true
  unfolding flatten
  parts_open [] h = rest-opens
  parts_open (t ∷ ps) (k, h) =
      rw (append_assoc (said t) (flatten (map said ps)) (said rest)) (opens_append (said t) (said_on ps) k.opens (parts_open ps h))

  -- the rules of their groups are those of each
  parts_apart : (who : List ℕ) (ps : List (List ℕ)) → Each Part ps
      → said_for who false false (said_on ps) ≡ flatten (map (rules_of who) ps) ++ rules_of who rest
  unfolding flatten
  parts_apart who [] h = refl
  parts_apart who (t ∷ ps) (k, h) =
      rw (append_assoc (said t) (flatten (map said ps)) (said rest), apart who (said t) (said_on ps) k.closes (parts_open ps h), parts_apart who ps h)
      (sym (append_assoc (rules_of who t) (flatten (map (rules_of who) ps)) (rules_of who rest)))

  -- behind a front
  module _ (front : List ℕ) (front-ended : ended front ≡ true) (front-closes : closes (roles (said front)) ≡ true) where
    abbrev said_all : List (List ℕ) → List Said
    said_all ps = said front ++ said_on ps

    all_apart : (who : List ℕ) (ps : List (List ℕ)) → Each Part ps
        → said_for who false false (said_all ps) ≡ rules_of who front ++ (flatten (map (rules_of who) ps) ++ rules_of who rest)
    all_apart who ps h = apart who (said front) (said_on ps) front-closes (parts_open ps h) ∙ rw (parts_apart who ps h)

    file_lines : (mark : List ℕ) (ps : List (List ℕ)) → is_mark mark (file_with mark front ps rest) ≡ true → Each Part ps
        → lines_said (file_with mark front ps rest) ≡ said_all ps
    unfolding file_with
    file_lines mark ps m h =
        file_says (mark ++ (front ++ (flatten ps ++ rest)))
        ∙ rw (behind_mark mark (front ++ (flatten ps ++ rest)) m, said_append front (flatten ps ++ rest) front-ended, parts_say ps h)

    -- in another order
    module _ (mark : List ℕ) (ps qs : List (List ℕ)) (d : Permᴰ ps qs) (h : Each Part ps)
        (m : is_mark mark (file_with mark front ps rest) ≡ true) (n : is_mark mark (file_with mark front qs rest) ≡ true) where
      abbrev file : List ℕ
      file = file_with mark front ps rest

      abbrev other : List ℕ
      other = file_with mark front qs rest

      -- what is made of each part, between that of the front and that of the rest
      around : (f : List ℕ → List Said) → Permᴰ (f front ++ (flatten (map f ps) ++ f rest)) (f front ++ (flatten (map f qs) ++ f rest))
      around f = Permᴰ.append_left (f front) (Permᴰ.append_right (f rest) (flatten_ordered f d))

      lines_ordered : Permᴰ (lines_said file) (lines_said other)
      lines_ordered = rw (file_lines mark ps m h, file_lines mark qs n (each_ordered Part d h)) (around said)

      rules_ordered : (name : List ℕ) → Permᴰ (rules_said file name) (rules_said other name)
      rules_ordered name =
          let who : List ℕ = whose name (said_all ps) in
          let same-who : whose name (said_all qs) ≡ who
          = ap (λ (b : Bool). if b then name else everyone) (sym (any_ordered (λ s. agent_names name s.role s.value) (around said))) in
          let before : rules_said file name ≡ rules_of who front ++ (flatten (map (rules_of who) ps) ++ rules_of who rest)
          = rules_said_lem file name ∙ rw (file_lines mark ps m h) (all_apart who ps h) in
          let after : rules_said other name ≡ rules_of who front ++ (flatten (map (rules_of who) qs) ++ rules_of who rest)
          = rules_said_lem other name ∙ rw (file_lines mark qs n (each_ordered Part d h), same-who) (all_apart who qs (each_ordered Part d h)) in
          rw (before, after) (around (rules_of who))

-- parts one behind the other are as long as they are together
flatten_length : (ps : List (List ℕ)) → length (flatten ps) ≡ total length ps
unfolding flatten total
flatten_length [] = refl
flatten_length (t ∷ ps) = length-append t (flatten ps) ∙ rw (flatten_length ps)

same_length : (mark front rest : List ℕ) (ps qs : List (List ℕ)) → Permᴰ ps qs
    → length (file_with mark front ps rest) ≡ length (file_with mark front qs rest)
unfolding file_with
same_length mark front rest ps qs d =
    let e : length (flatten ps) ≡ length (flatten qs) = flatten_length ps ∙ total_ordered length d ∙ sym (flatten_length qs) in
    simp length-append (omega (arith, e))

-- Parts of whole groups may be put in any other order: every name and path is answered alike.
pub parts_in_order : (mark front rest : List ℕ) (ps qs : List (List ℕ)) → Permᴰ ps qs
    → Pass (is_mark mark (file_with mark front ps rest) ∷ is_mark mark (file_with mark front qs rest) ∷ around_tests front rest)
    → Each (λ t. Pass (part_tests t)) ps → (name path : List ℕ)
    → Alike (decide 0 (file_with mark front ps rest) name path) (decide 0 (file_with mark front qs rest) name path)
parts_in_order mark front rest ps qs d (m, (n, (e, (c, (o, t))))) tests name path =
    let opened : opens (roles (said rest)) ≡ true = said_test opens rest o in
    let closed : closes (roles (said front)) ≡ true = said_test closes front c in
    let parts : Each Part ps = each_map (λ x. Pass (part_tests x)) Part ps part tests in
    alike (file_with mark front ps rest) (file_with mark front qs rest) name path (same_length mark front rest ps qs d)
    (lines_ordered rest opened front e closed mark ps qs d parts m n)
    (rules_ordered rest opened front e closed mark ps qs d parts m n name)

-- a file of two parts
pub two_parts : (p : Parts) → file_with p.mark p.front (p.one ∷ p.two ∷ []) p.rest ≡ file_of p
unfolding file_with file_of flatten
two_parts p =
    ap (λ (l : List ℕ). p.mark ++ (p.front ++ l))
    (append_assoc p.one (p.two ++ []) p.rest ∙ ap (λ (l : List ℕ). p.one ++ l) (append_assoc p.two [] p.rest))

-- Two neighbouring ones may be exchanged.
pub parts_exchanged : (p : Parts) → Pass (parts_tests p) → (name path : List ℕ)
    → Alike (decide 0 (file_of p) name path) (decide 0 (file_of (exchanged p)) name path)
parts_exchanged p (m, (n, (e, (c, (o, (i, (j, (k, two)))))))) name path =
    let before = two_parts p in
    let after = two_parts (exchanged p) in
    rw (before, after) at
    (parts_in_order p.mark p.front p.rest (p.one ∷ p.two ∷ []) (p.two ∷ p.one ∷ []) (Permᴰ.swap refl refl)
    (rw before m, (rw after n, (e, (c, (o, tt)))))
    ((i, (j, (k, tt))), (two, tt))
    name
    path)
