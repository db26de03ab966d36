-- Laws of one octet at a time: two texts compared, ASCII case ignored; spaces and tabs at the end; a wider test. Assumes nothing.
use Prim.Native.Nat.{ℕ, zero, suc, ◌+◌, ◌-◌, ◌≤◌, ◌<◌}
use mathlib.Core.Path.{◌≡◌, refl, sym, ap, ◌∙◌}
use mathlib.Core.Bool.{Bool, true, false, true≢false}
use mathlib.Core.List.{List, [], ◌∷◌, map}
use native.Mathlib.Omega.{arith}
use lib.ListN.{length, take, drop, get_or, length-map, get_or-map}
use lib.Seq.{get_or-take, length-take-le}
use Rattle.lists.specs.Lists.{any, up_to, same}
use Rattle.lists.proofs.Bools.{split}
use Rattle.lists.proofs.Parts.{up_to_on}
use Rattle.lists.proofs.Tests.{same_end, same_other, same_on}
use Rattle.protocol.specs.Octets.{upper, blank, lower_case}
use Rattle.protocol.specs.Text.{unless_at_end, trim_end}

lower_octet : (v : List ℕ) (i : ℕ) → get_or (map lower_case v) i 0 ≡ lower_case (get_or v i 0)
unfolding lower_case upper
lower_octet v i = get_or-map lower_case v i 0

-- the front of s that is as long as w, and w: what is left of them from i on is equal
abbrev pub begins_from : ℕ → List ℕ → List ℕ → Bool
begins_from i s w = same (drop i (map lower_case (take (length w) s))) (drop i (map lower_case w))

module _ (s w : List ℕ) (fits : length w ≤ length s) (i : ℕ) where
  front_length : length (map lower_case (take (length w) s)) ≡ length w
  front_length = length-map (take (length w) s) lower_case ∙ length-take-le (length w) s fits

  pub case_end : length w ≤ i → begins_from i s w ≡ true
  case_end h =
      same_end (map lower_case (take (length w) s)) (map lower_case w) i (omega (arith, front_length)) (omega (arith, length-map w lower_case))

  module _ (here : i < length w) where
    front_octet : get_or (map lower_case (take (length w) s)) i 0 ≡ lower_case (get_or s i 0)
    front_octet = lower_octet (take (length w) s) i ∙ ap lower_case (get_or-take (length w) s i 0 here)

    pub case_other : (lower_case (get_or s i 0) ≡ lower_case (get_or w i 0) → ⊥) → begins_from i s w ≡ false
    case_other d =
        same_other (map lower_case (take (length w) s)) (map lower_case w) i (omega (arith, front_length)) (omega (arith, length-map w lower_case))
        (λ e. d (sym front_octet ∙ e ∙ lower_octet w i))

    pub case_on : lower_case (get_or s i 0) ≡ lower_case (get_or w i 0) → begins_from i s w ≡ begins_from (i + 1) s w
    case_on e =
        same_on (map lower_case (take (length w) s)) (map lower_case w) i (omega (arith, front_length)) (omega (arith, length-map w lower_case))
        (front_octet ∙ e ∙ sym (lower_octet w i))

-- the n octets in front, and one more
trim_blank : (l : List ℕ) (n : ℕ) → n < length l → blank (get_or l n 0) ≡ true → trim_end (take (suc n) l) ≡ trim_end (take n l)
unfolding trim_end unless_at_end
trim_blank [] n h e = absurd (omega arith)
trim_blank (x ∷ l) zero h e = rw e
trim_blank (x ∷ l) (suc n) h e = ap (unless_at_end x) (trim_blank l n (omega arith) e)

trim_solid : (l : List ℕ) (n : ℕ) → n < length l → blank (get_or l n 0) ≡ false → trim_end (take (suc n) l) ≡ take (suc n) l
unfolding trim_end unless_at_end
trim_solid [] n h e = absurd (omega arith)
trim_solid (x ∷ l) zero h e = rw e
trim_solid (x ∷ []) (suc n) h e = absurd (omega arith)
trim_solid (x ∷ y ∷ l) (suc n) h e = ap (unless_at_end x) (trim_solid (y ∷ l) n (omega arith) e)

-- the same, at the code's index n - 1
pub end_blank : (l : List ℕ) (n : ℕ) → 0 < n → n ≤ length l → blank (get_or l (n - 1) 0) ≡ true → trim_end (take (n - 1) l) ≡ trim_end (take n l)
end_blank l zero p h e = absurd (omega arith)
end_blank l (suc n) p h e = let k : suc n - 1 ≡ n = omega arith in rw k (sym (trim_blank l n h (rw k at e)))

pub end_solid : (l : List ℕ) (n : ℕ) → 0 < n → n ≤ length l → blank (get_or l (n - 1) 0) ≡ false → length (trim_end (take n l)) ≡ n
end_solid l zero p h e = absurd (omega arith)
end_solid l (suc n) p h e =
    let k : suc n - 1 ≡ n = omega arith in
    ap length (trim_solid l n h (rw k at e)) ∙ length-take-le (suc n) l h

pub end_none : (l : List ℕ) → trim_end (take 0 l) ≡ []
unfolding trim_end
end_none l = refl

-- none passes a test where none passes one that is passed wherever it is
module _ {A : Type 0} (f : A → Bool) where
  pub wider_none : (g : A → Bool) → ((x : A) → f x ≡ true → g x ≡ true) → (l : List A) → any g l ≡ false → length (up_to f l) ≡ length l
  unfolding up_to any
  wider_none g h [] e = refl
  wider_none g h (x ∷ l) e =
      split (g x) (λ q. absurd (true≢false (rw q at e)))
      (λ q. split (f x) (λ p. absurd (true≢false (sym (h x p) ∙ q))) (λ p. rw (up_to_on f x l p) (ap suc (wider_none g h l (rw q at e)))))
