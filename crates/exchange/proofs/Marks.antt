-- A text that begins with an agent line doesn't begin with EF BB BF; and what stands behind a line ending is no part of a leading mark. Assumes
-- nothing.
use Prim.Native.Nat.{ℕ}
use mathlib.Core.Path.{◌≡◌, refl, sym, ◌∙◌}
use mathlib.Core.Bool.{true, false, and-false, false≢true}
use mathlib.Core.List.{List, [], ◌∷◌, ◌++◌}
use lib.Dec.{eqb}
use borrow.Author.Tests.{ne_eqb}
use Rattle.lists.specs.Lists.{any, up_to, from, same}
use Rattle.lists.proofs.Bools.{split}
use Rattle.protocol.specs.declared.Place.{Place}
use Rattle.protocol.specs.Octets.{is, upper, blank, line_end, lower_case}
use Rattle.protocol.specs.Text.{octets, same_ignoring_case, unless_at_end, trim_end, trim, ends}
use Rattle.protocol.specs.Lines.{line_text, has_leading_mark, ended}
use Rattle.protocol.specs.Kinds.{field_kind, record_kind, rest_kind, uncommented, kind_of}
use Rattle.protocol.specs.Entries.{role_of}
use Rattle.protocol.proofs.Said.{blank_line}
use Rattle.exchange.specs.Exchange.{some_agent, is_agent_line}

-- a text that begins with EF, trimmed, does
marked_trim : (l : List ℕ) → (m : List ℕ) × (trim (0xEF ∷ l) ≡ 0xEF ∷ m)
unfolding trim trim_end from unless_at_end blank
marked_trim l = go (trim_end l)
  where
    go : (t : List ℕ) → (m : List ℕ) × (unless_at_end 0xEF t ≡ 0xEF ∷ m)
    go [] = ([], refl)
    go (y ∷ t) = (y ∷ t, refl)

-- no field does
marked_field : (l : List ℕ) (p : Place) (v : List ℕ) → some_agent (role_of (field_kind (trim (0xEF ∷ l)) p v)) ≡ false
unfolding field_kind same_ignoring_case same octets lower_case upper role_of
marked_field l p v = let (m, e) = marked_trim l in rw e

marked_rest : (p : Place) (l : List ℕ) → some_agent (role_of (rest_kind p (0xEF ∷ l))) ≡ false
unfolding rest_kind record_kind any up_to from role_of
marked_rest p l = split (any (is ":") l) (λ c. rw c (marked_field (up_to (is ":") l) _ _)) (λ c. rw c)

-- A line that begins with EF is no agent line.
marked_line : (l : List ℕ) → is_agent_line (0xEF ∷ l) ≡ false
unfolding kind_of uncommented up_to
marked_line l = let (m, e) = marked_trim (up_to (is "#") l) in rw e (marked_rest _ m)

-- a text whose first octet isn't EF, or whose second isn't BB
other_first : (c : ℕ) (l : List ℕ) → eqb c 0xEF ≡ false → has_leading_mark (c ∷ l) ≡ false
unfolding has_leading_mark
other_first c [] e = refl
other_first c (d ∷ []) e = refl
other_first c (d ∷ x ∷ l) e = rw e

other_second : (c d : ℕ) (l : List ℕ) → eqb d 0xBB ≡ false → has_leading_mark (c ∷ d ∷ l) ≡ false
unfolding has_leading_mark
other_second c d [] e = refl
other_second c d (x ∷ l) e = rw (e, and-false (eqb c 0xEF))

-- Nor does a text that begins with an agent line begin with the mark,
pub agent_unmarked : (l back : List ℕ) → is_agent_line (line_text l) ≡ true → has_leading_mark (l ++ back) ≡ false
unfolding up_to line_end role_of
agent_unmarked [] back h = absurd (false≢true (rw blank_line at h))
agent_unmarked (c ∷ l) back h = other_first c (l ++ back) (ne_eqb c 0xEF (λ z. false≢true (sym (marked_line (up_to line_end l)) ∙ rw z at h)))

-- and behind an ended text it is no matter what follows.
pub ended_marks : (c : ℕ) (l back other : List ℕ) → ended (c ∷ l) ≡ true → has_leading_mark ((c ∷ l) ++ back) ≡ has_leading_mark ((c ∷ l) ++ other)
unfolding ended ends has_leading_mark
ended_marks c [] back other h =
    let e : eqb c 0xEF ≡ false = ne_eqb c 0xEF (λ z. false≢true (rw z at h)) in
    other_first c back e ∙ sym (other_first c other e)
ended_marks c (d ∷ []) back other h =
    let e : eqb d 0xBB ≡ false = ne_eqb d 0xBB (λ z. false≢true (rw z at h)) in
    other_second c d back e ∙ sym (other_second c d other e)
ended_marks c (d ∷ x ∷ l) back other h = refl
