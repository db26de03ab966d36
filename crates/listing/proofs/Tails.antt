-- Lent memory whose places from an index on stay: what stores in front leave, and memory whose front is known place by place. Assumes nothing.
use Prim.Native.Nat.{ℕ, ◌+◌, ◌-◌, ◌≤◌, ◌<◌}
use mathlib.Core.Path.{◌≡◌, refl, sym, ap, ap₂, ◌∙◌}
use mathlib.Core.List.{List, ◌++◌, map}
use native.Mathlib.Omega.{arith}
use lib.ListN.{length, take, drop, get_or, set, length-set, length-map, take-append-drop}
use lib.Dec.{eqb}
use borrow.Author.Tests.{eqb-true, eqb-false}
use Rattle.lists.proofs.Bools.{split}
use lib.Seq.{get_or-set_same, drop-drop, drop-set-lt, get_or-set_other, get_or-take, length-take-le, ext_get_or}
use Rattle.lists.proofs.Scans.{map_at}
use Rattle.protocol.specs.Answers.{at_front}
use Rattle.listing.specs.declared.Answers.{Answers}
use Rattle.listing.specs.Memory.{Same, Tail, Cleared}

pub tail_refl : (n : ℕ) (a : List ℕ) → Tail n a a
tail_refl n a = record { same = refl; stays = refl }

module _ {n : ℕ} {a b : List ℕ} where
  pub tail_trans : {c : List ℕ} → Tail n a b → Tail n b c → Tail n a c
  tail_trans s t = record { same = t.same ∙ s.same; stays = t.stays ∙ s.stays }

  -- a store in front
  pub tail_set : (i x : ℕ) → i < n → Tail n a b → Tail n a (set b i x)
  tail_set i x h t = record { same = length-set b i x ∙ t.same; stays = drop-set-lt n b i x h ∙ t.stays }

  -- fewer places
  pub tail_on : (m : ℕ) → n ≤ m → Tail n a b → Tail m a b
  tail_on m h t =
      let e : n + (m - n) ≡ m = omega arith in
      record {
        same = t.same;
        stays = rw e at (sym (drop-drop (m - n) n b) ∙ ap (drop (m - n)) t.stays ∙ drop-drop (m - n) n a);
      }

-- the same slices are lent
pub same_trans : {a b c : Answers} → Same a b → Same b c → Same a c
same_trans s t = record { refusals = t.refusals ∙ s.refusals; sides = t.sides ∙ s.sides; lines = t.lines ∙ s.lines }

-- the other places, after a store
pub set_other : (l : List ℕ) (i j x : ℕ) → (j ≡ i → ⊥) → get_or (set l i x) j 0 ≡ get_or l j 0
set_other l i j x h = get_or-set_other l i j x 0 h

-- no place has to hold 0, and then one more
pub cleared_none : (a : List ℕ) → Cleared 0 a a
cleared_none a = record { stays = tail_refl 0 a; zero = λ j l. absurd (omega arith) }

pub cleared_on : {i : ℕ} {a b : List ℕ} → i < length a → Cleared i a b → Cleared (i + 1) a (set b i 0)
cleared_on {i} {a} {b} h k =
    record {
      stays = tail_set i 0 (omega arith) (tail_on (i + 1) (omega arith) k.stays);
      zero = λ j l.
          split (eqb j i) (λ e. rw (eqb-true j i e) (get_or-set_same b i 0 0 (omega (arith, h, k.stays.same))))
          (λ e. let other : j ≡ i → ⊥ = eqb-false j i e in set_other b i j 0 other ∙ k.zero j (omega (arith, l, other)));
    }

-- memory whose places hold a number of each element of a list, and whose other places stay
module _ {A : Type 0} (f : A → ℕ) where
  pub column_known : (xs : List A) (d : A) (n : ℕ) (before after : List ℕ) → length xs ≡ n → n ≤ length before → Tail n before after
      → ((j : ℕ) → j < n → get_or after j 0 ≡ f (get_or xs j d))
      → after ≡ at_front (map f xs) before
  column_known xs d n before after s h t known =
      let count : length (map f xs) ≡ n = length-map xs f ∙ s in
      let room : length (take n after) ≡ n = length-take-le n after (omega (arith, h, t.same)) in
      let front : take n after ≡ map f xs =
      ext_get_or 0 (take n after) (map f xs) (room ∙ sym count)
      (λ j l.
      let in-front : j < n = omega (arith, l, room) in
      get_or-take n after j 0 in-front ∙ known j in-front ∙ sym (map_at f xs j d 0 (omega (arith, in-front, s)))) in
      sym (take-append-drop n after) ∙ ap₂ (λ (u v : List ℕ). u ++ v) front t.stays ∙ ap (λ (k : ℕ). map f xs ++ drop k before) (sym count)
