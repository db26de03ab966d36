-- The value that a text begins with, and ordinary octets in front of it. Assumes nothing.
use Prim.Native.Nat.{ℕ, ◌-◌, ◌≤◌, ◌<◌}
use mathlib.Core.Path.{◌≡◌, refl, sym, ap, ◌∙◌}
use mathlib.Core.Bool.{true}
use mathlib.Core.List.{List, [], ◌∷◌}
use native.Mathlib.Omega.{arith}
use lib.Dec.{leb}
use lib.ListN.{length, take, drop, get_or, drop_of_length-le}
use lib.Seq.{take-append-le, drop-length}
use borrow.Author.Tests.{leb-true}
use Rattle.lists.specs.Lists.{up_to, from}
use Rattle.lists.proofs.Bools.{split, and_left}
use Rattle.lists.proofs.Parts.{up_to_from}
use Rattle.lists.proofs.Scans.{rest_of, drop_one, take_up_to, drop_up_to, up_to_fits}
use Rattle.protocol.specs.declared.Place.{Place}
use Rattle.protocol.specs.Text.{trim_end}
use Rattle.protocol.specs.Readable.{well_formed, pattern_start, readable_pattern}
use Rattle.readable.specs.Due.{ordinary, unusual}
use Rattle.readable.proofs.Characters.{well_formed_front}
use Rattle.protocol.specs.Classes.{stop}
use Rattle.fields.specs.Fields.{ended, value_at}
use Rattle.lists.proofs.Cuts.{up_to_first}
use Rattle.fields.proofs.Ends.{solid_stays, end_read, end_fits}
use Rattle.fields.proofs.Sorts.{past_stop, past_blank}

-- the value's octets
pub value_read : (l : List ℕ) → take (length (trim_end (up_to stop l))) l ≡ trim_end (up_to stop l)
value_read l =
    let n : ℕ = length (trim_end (up_to stop l)) in
    ap (take n) (sym (up_to_from stop l)) ∙ take-append-le n (up_to stop l) (from stop l) (end_fits (up_to stop l)) ∙ end_read (up_to stop l)

pub value_fits : (l : List ℕ) → length (trim_end (up_to stop l)) ≤ length l
value_fits l = omega (arith, end_fits (up_to stop l), up_to_fits stop l)

-- the value at the place p
module _ (r : List ℕ) (p : Place) where
  pub value_of : trim_end (up_to stop (take (length r - p.offset) (drop p.offset r))) ≡ value_at p r
  unfolding value_at
  value_of = rw (rest_of p.offset r)

  pub value_at_lem : (n : ℕ) → n ≡ length (trim_end (up_to stop (take (length r - p.offset) (drop p.offset r)))) → take n (take (length r - p.offset) (drop p.offset r)) ≡ value_at p r
  value_at_lem n e =
      let rest : List ℕ = take (length r - p.offset) (drop p.offset r) in
      ap (λ (i : ℕ). take i rest) e ∙ value_read rest ∙ value_of

-- nothing is examined from n on
module _ (l : List ℕ) (n : ℕ) where
  pub ended_none : length l ≤ n → ended (drop n l) ≡ true
  ended_none h = rw (drop_of_length-le l h)

  pub ended_here : n < length l → ended (drop n l) ≡ stop (get_or l n 0)
  ended_here h = rw (drop_one l n 0 h)

pub above : (x : ℕ) → ordinary x ≡ true → 36 ≤ x
above x e = leb-true 36 x (and_left (leb 36 x) (leb x 127) e)

-- where ordinary octets go on to the end, they are what is examined
front_whole : (l : List ℕ) → ended (from unusual l) ≡ true → up_to stop l ≡ up_to unusual l
unfolding up_to from
front_whole [] h = refl
front_whole (x ∷ l) h =
    split (ordinary x)
    (λ e.
    let low : 36 ≤ x = above x e in
    rw (e, past_stop x (omega arith)) (ap (λ (m : List ℕ). x ∷ m) (front_whole l (rw e at h))))
    (λ e. let here : stop x ≡ true = rw e at h in rw (e, here))

-- they hold no space or tab
front_end : (l : List ℕ) → trim_end (up_to unusual l) ≡ up_to unusual l
unfolding up_to trim_end
front_end [] = refl
front_end (x ∷ l) =
    split (ordinary x)
    (λ e.
    let low : 36 ≤ x = above x e in
    rw (e, solid_stays x (trim_end (up_to unusual l)) (past_blank x (omega arith))) (ap (λ (m : List ℕ). x ∷ m) (front_end l)))
    (λ e. rw e)

module _ (l : List ℕ) (n : ℕ) (k : n ≡ length (up_to unusual l)) where
  front_read : take n l ≡ up_to unusual l
  front_read = ap (λ (i : ℕ). take i l) k ∙ take_up_to unusual l

  -- so they are the value
  pub front_value : ended (drop n l) ≡ true → take n l ≡ trim_end (up_to stop l)
  front_value h =
      let there : ended (from unusual l) ≡ true = ap ended (sym (ap (λ (i : ℕ). drop i l) k ∙ drop_up_to unusual l)) ∙ h in
      front_read ∙ sym (front_end l) ∙ ap trim_end (sym (front_whole l there))

  -- and whole characters
  pub front_formed : well_formed [] (take n l) ≡ true
  unfolding well_formed
  front_formed =
      let m : List ℕ = up_to unusual l in
      ap (well_formed []) front_read
      ∙ sym (well_formed_front m)
      ∙ rw (up_to_first unusual unusual (λ x h. h) l, drop-length m)

-- a pattern of whole characters is readable if it begins as one may
pub formed_readable : (v : List ℕ) → well_formed [] v ≡ true → readable_pattern v ≡ pattern_start v
unfolding readable_pattern
formed_readable v e = split (pattern_start v) (λ d. rw (d, e)) (λ d. rw d)
