-- Lists of the same elements in another order, which is the library's permutation: sums, tests, members and what each element has. Assumes nothing.
use Prim.Native.Nat.{ℕ}
use mathlib.Core.Path.{◌≡◌, refl, ap, subst, ◌∙◌}
use mathlib.Core.Bool.{Bool, true, false, ◌||◌}
use mathlib.Core.Logic.{⊎_elim}
use mathlib.Core.List.Memᴰ
use mathlib.Core.List.{List, ◌∷◌, map, flatten, append_assoc, Memᴰ}
use mathlib.Core.List.Permᴰ
use mathlib.Core.List.{Permᴰ}
use native.Mathlib.Omega.{arith}
use Rattle.lists.specs.Each.{Each}
use Rattle.lists.specs.Lists.{any, total}

module _ {A : Type 0} where
  pub total_ordered : (f : A → ℕ) {l m : List A} → Permᴰ l m → total f l ≡ total f m
  unfolding total
  total_ordered f Permᴰ.nil = refl
  total_ordered f (Permᴰ.cons e d) = omega (arith, ap f e, total_ordered f d)
  total_ordered f (Permᴰ.swap e g) = omega (arith, ap f e, ap f g)
  total_ordered f (Permᴰ.trans d e) = total_ordered f d ∙ total_ordered f e

  pub any_ordered : (f : A → Bool) {l m : List A} → Permᴰ l m → any f l ≡ any f m
  unfolding any
  any_ordered f Permᴰ.nil = refl
  any_ordered f (Permᴰ.cons e d) = rw (e, any_ordered f d)
  any_ordered f (Permᴰ.swap {a} {b} {a'} {b'} {l} e g) = rw (e, g) (or_turned (f b') (f a') (any f l))
    where
      or_turned : (a b c : Bool) → (a || (b || c)) ≡ (b || (a || c))
      or_turned true true c = refl
      or_turned true false c = refl
      or_turned false b c = refl
  any_ordered f (Permᴰ.trans d e) = any_ordered f d ∙ any_ordered f e

  pub each_ordered : (P : A → Type 0) {l m : List A} → Permᴰ l m → Each P l → Each P m
  each_ordered P Permᴰ.nil h = tt
  each_ordered P (Permᴰ.cons e d) h = (subst P e h.0, each_ordered P d h.1)
  each_ordered P (Permᴰ.swap e g) h = (subst P g h.1.0, (subst P e h.0, h.1.1))
  each_ordered P (Permᴰ.trans d e) h = each_ordered P e (each_ordered P d h)

  pub member_ordered : (x : A) {l m : List A} → Permᴰ l m → Memᴰ x l → Memᴰ x m
  member_ordered x Permᴰ.nil h = h
  member_ordered x (Permᴰ.cons {a} {b} {l₁} {l₂} e d) h =
      ⊎_elim (λ (p : x ≡ a). Memᴰ.head (p ∙ e)) (λ (k : Memᴰ x l₁). Memᴰ.tail (member_ordered x d k)) (Memᴰ.cases_cons h)
  member_ordered x (Permᴰ.swap {a} {b} {a'} {b'} {l} e g) h =
      ⊎_elim (λ (p : x ≡ a). Memᴰ.tail (Memᴰ.head (p ∙ e)))
      (λ (k : Memᴰ x (b ∷ l)).
      ⊎_elim (λ (p : x ≡ b). Memᴰ.head (p ∙ g)) (λ (i : Memᴰ x l). Memᴰ.tail (Memᴰ.tail i)) (Memᴰ.cases_cons k))
      (Memᴰ.cases_cons h)
  member_ordered x (Permᴰ.trans d e) h = member_ordered x e (member_ordered x d h)

  -- lists made of each element, one behind the other
  module _ {B : Type 0} (f : A → List B) where
    pub flatten_ordered : {l m : List A} → Permᴰ l m → Permᴰ (flatten (map f l)) (flatten (map f m))
    unfolding flatten
    flatten_ordered Permᴰ.nil = Permᴰ.nil
    flatten_ordered (Permᴰ.cons {a} {b} {l₁} {l₂} e d) = rw e (Permᴰ.append_left (f b) (flatten_ordered d))
    flatten_ordered (Permᴰ.swap {a} {b} {a'} {b'} {l} e g) =
        rw (e, g)
        (rw (← append_assoc (f b') (f a') (flatten (map f l)), ← append_assoc (f a') (f b') (flatten (map f l)))
        (Permᴰ.append_right (flatten (map f l)) (Permᴰ.append_comm (f b') (f a'))))
    flatten_ordered (Permᴰ.trans d e) = Permᴰ.trans (flatten_ordered d) (flatten_ordered e)
