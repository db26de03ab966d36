-- The field of a line is a name exactly where the line begins with the name, and then with a colon: spaces and tabs may stand before both.
-- Assumes nothing.
use Prim.Native.Nat.{ℕ, suc, ◌+◌}
use mathlib.Core.Path.{◌≡◌, refl, sym, ap, ◌∙◌}
use mathlib.Core.Bool.{Bool, true, false, ◌&&◌, and-false, false≢true}
use mathlib.Core.List.{List, [], ◌∷◌}
use native.Mathlib.Omega.{arith}
use lib.Dec.{eqb}
use lib.ListN.{length, take, drop, get_or}
use borrow.Author.Tests.{eqb-true, ne_eqb}
use Rattle.lists.specs.Lists.{all, any, up_to, from, same}
use Rattle.lists.proofs.Bools.{split, and_left, and_right}
use Rattle.protocol.specs.Octets.{is, blank, lower_case}
use Rattle.protocol.specs.Text.{begins, same_ignoring_case, solid, lead, unless_at_end, trim_end, trim}
use Rattle.protocol.specs.Classes.{stop}
use Rattle.lists.proofs.Cuts.{up_to_past, any_past}
use Rattle.fields.proofs.Ends.{solid_stays}
use Rattle.fields.proofs.Sorts.{stop_solid, colon_solid, colon_on, plain, plain_same}

-- the text t begins with the name w, and then with a colon
abbrev pub begun : List ℕ → List ℕ → Bool
begun w t = same_ignoring_case (take (length w) t) w && begins ":" (from solid (drop (length w) t))

-- the name w is what stands before the first colon
abbrev pub named : List ℕ → List ℕ → Bool
named w t = any (is ":") (up_to stop t) && same_ignoring_case (trim_end (up_to (is ":") t)) w

blank_none : (x : ℕ) (t : List ℕ) → blank x ≡ true → same_ignoring_case (unless_at_end x t) [] ≡ same_ignoring_case t []
unfolding same_ignoring_case same unless_at_end
blank_none x [] e = rw e
blank_none x (y ∷ t) e = refl

solid_none : (x : ℕ) (t : List ℕ) → blank x ≡ false → same_ignoring_case (unless_at_end x t) [] ≡ false
unfolding same_ignoring_case same
solid_none x t e = rw (solid_stays x t e)

other_start : (x y : ℕ) (t w : List ℕ) → eqb (lower_case x) (lower_case y) ≡ false → same_ignoring_case (unless_at_end x t) (y ∷ w) ≡ false
unfolding same_ignoring_case same unless_at_end
other_start x y [] w e = split (blank x) (λ d. rw d) (λ d. rw (d, e))
other_start x y (z ∷ t) w e = rw e

blank_on : (x : ℕ) → blank x ≡ true → stop x ≡ false
blank_on x e = split (stop x) (λ d. absurd (false≢true (rw e at (stop_solid x d)))) (λ d. d)

no_name : (t : List ℕ) → begins ":" (from solid t) ≡ named [] t
unfolding begins from any up_to trim_end same_ignoring_case same
no_name [] = refl
no_name (x ∷ t) =
    split (is ":" x) (λ e. rw (colon_on x e, e, colon_solid x e, e) refl)
    (λ e.
    split (blank x)
    (λ d. rw (d, blank_on x d, e, blank_none x (trim_end (up_to (is ":") t)) d) (no_name t))
    (λ d.
    split (stop x) (λ s. rw (d, s, e))
    (λ s. rw (d, s, e, solid_none x (trim_end (up_to (is ":") t)) d) (sym (and-false (any (is ":") (up_to stop t)))))))

pub begun_named : (w t : List ℕ) → all plain w ≡ true → begun w t ≡ named w t
unfolding all any up_to trim_end same_ignoring_case same
begun_named [] t h = no_name t
begun_named (y ∷ w) [] h = refl
begun_named (y ∷ w) (x ∷ t) h =
    split (eqb (lower_case x) (lower_case y))
    (λ e.
    let p = plain_same x y e (and_left (plain y) (all plain w) h) in
    rw (p.stops, p.colon, solid_stays x (trim_end (up_to (is ":") t)) p.blanks, e) (begun_named w t (and_right (plain y) (all plain w) h)))
    (λ e.
    rw e
    (split (is ":" x) (λ d. rw (colon_on x d, d))
    (λ d.
    split (stop x) (λ s. rw s)
    (λ s. rw (s, d, other_start x y (trim_end (up_to (is ":") t)) w e) (sym (and-false (any (is ":") (up_to stop t))))))))

-- the place of the colon
no_name_place : (t : List ℕ) → begins ":" (from solid t) ≡ true → length (up_to (is ":") t) ≡ lead t
unfolding begins from up_to lead
no_name_place [] h = refl
no_name_place (x ∷ t) h =
    split (is ":" x) (λ e. rw (e, colon_solid x e))
    (λ e.
    split (blank x) (λ d. rw (e, d) (ap suc (no_name_place t (rw d at h))))
    (λ d. absurd (false≢true (rw (d, e) at h))))

pub begun_place : (w t : List ℕ) → all plain w ≡ true → begun w t ≡ true → length (up_to (is ":") t) ≡ length w + lead (drop (length w) t)
unfolding all up_to same_ignoring_case same
begun_place [] t h k = omega (arith, no_name_place t k)
begun_place (y ∷ w) [] h k = absurd (false≢true k)
begun_place (y ∷ w) (x ∷ t) h k =
    split (eqb (lower_case x) (lower_case y))
    (λ e.
    let p = plain_same x y e (and_left (plain y) (all plain w) h) in
    rw p.colon (omega (arith, begun_place w t (and_right (plain y) (all plain w) h) (rw e at k))))
    (λ e. absurd (false≢true (rw e at k)))

-- the same of a line, which may begin with spaces and tabs
module _ (w r : List ℕ) (h : all plain w ≡ true) where
  pub begun_told : begun w (from solid r) ≡ (any (is ":") (up_to stop r) && same_ignoring_case (trim (up_to (is ":") r)) w)
  unfolding trim
  begun_told =
      begun_named w (from solid r) h
      ∙ rw (up_to_past stop solid stop_solid r, any_past (is ":") solid colon_solid (up_to stop r), up_to_past (is ":") solid colon_solid r)

-- a text begins with a name only if its first octet is the name's
pub not_first : (y : ℕ) (v t : List ℕ) → (lower_case (get_or t 0 0) ≡ lower_case y → ⊥) → same_ignoring_case (take (suc (length v)) t) (y ∷ v) ≡ false
unfolding same_ignoring_case same
not_first y v [] d = refl
not_first y v (x ∷ t) d = rw (ne_eqb (lower_case x) (lower_case y) d)

-- and so with at most one of two names whose first octets differ
pub one_name : (y z : ℕ) (v w t : List ℕ) → (lower_case y ≡ lower_case z → ⊥) → same_ignoring_case (take (suc (length v)) t) (y ∷ v) ≡ true
    → same_ignoring_case (take (suc (length w)) t) (z ∷ w) ≡ false
unfolding same_ignoring_case same
one_name y z v w [] d h = refl
one_name y z v w (x ∷ t) d h =
    let e : lower_case x ≡ lower_case y = eqb-true (lower_case x) (lower_case y) (and_left _ _ h) in
    not_first z w (x ∷ t) (λ k. d (sym e ∙ k))
