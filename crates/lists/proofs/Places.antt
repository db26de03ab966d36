-- Laws on a list as a part of another. Assumes nothing.
use Prim.Native.Nat.{ℕ, suc, ◌+◌, ◌-◌, ◌≤◌}
use mathlib.Core.Path.{◌≡◌, refl, sym, ap, ◌∙◌}
use mathlib.Core.Bool.{Bool, true, false≢true}
use mathlib.Core.List.{List, [], ◌∷◌, ◌++◌, append_assoc, append-nil, tail}
use native.Mathlib.Omega.{arith}
use lib.ListN.{length, take, drop, length-append, length-take, length-drop, take-append-drop, drop_of_length-le}
use lib.Seq.{take-append_seam, drop-append-le, drop_at, length-take-le}
use Rattle.lists.specs.Lists.{any, up_to, from}
use Rattle.lists.specs.Occurs.{Occurs}
use Rattle.lists.proofs.Bools.{split}
use Rattle.lists.proofs.Parts.{up_to_stop, up_to_on, from_stop, from_on, up_to_from}

module _ {A : Type 0} where
  -- where a part is, it is read
  pub occurs_read : (l v : List A) (k : ℕ) → Occurs l k v → take (length v) (drop k l) ≡ v
  occurs_read l v k o =
      rw (o.whole, drop_at o.front (v ++ o.back) k o.place, take-append_seam v o.back)

  pub occurs_fits : (l v : List A) (k : ℕ) → Occurs l k v → k + length v ≤ length l
  occurs_fits l v k o =
      omega (arith, ap length o.whole, length-append o.front (v ++ o.back), length-append v o.back, o.place)

  -- what is read inside a list is a part of it
  pub occurs_part : (l : List A) (k n : ℕ) → k + n ≤ length l → Occurs l k (take n (drop k l))
  occurs_part l k n h =
      record {
        front = take k l;
        back = drop n (drop k l);
        whole = sym (ap (λ (m : List A). take k l ++ m) (take-append-drop n (drop k l)) ∙ take-append-drop k l);
        place = length-take-le k l (omega arith);
      }

  -- a part of a part
  pub occurs_in : (l v w : List A) (j k : ℕ) → Occurs l j v → Occurs v k w → Occurs l (j + k) w
  occurs_in l v w j k o p =
      record {
        front = o.front ++ p.front;
        back = p.back ++ o.back;
        whole = o.whole ∙ rw p.whole (simp append_assoc);
        place = length-append o.front p.front ∙ rw (o.place, p.place);
      }

  -- where one of the two stands at the front
  pub occurs_in_front : (l v w : List A) (k : ℕ) → Occurs l 0 v → Occurs v k w → Occurs l k w
  occurs_in_front l v w k o p = let e : 0 + k ≡ k = omega arith in rw e at (occurs_in l v w 0 k o p)

  pub occurs_front_in : (l v w : List A) (k : ℕ) → Occurs l k v → Occurs v 0 w → Occurs l k w
  occurs_front_in l v w k o p = let e : k + 0 ≡ k = omega arith in rw e at (occurs_in l v w k 0 o p)

  -- what is read inside a part is read in the whole
  pub occurs_read_in : (l v : List A) (j k n : ℕ) → Occurs l j v → k + n ≤ length v → take n (drop (j + k) l) ≡ take n (drop k v)
  occurs_read_in l v j k n o h =
      let w : List A = take n (drop k v) in
      let e : length w ≡ n = simp (length-take, length-drop) (omega arith) in
      rw e at (occurs_read l w (j + k) (occurs_in l v w j k o (occurs_part v k n h)))

  pub occurs_front : (v b : List A) → Occurs (v ++ b) 0 v
  occurs_front v b = record { front = []; back = b; whole = refl; place = refl }

  pub occurs_back : (a v : List A) → Occurs (a ++ v) (length a) v
  occurs_back a v = record { front = a; back = []; whole = ap (λ (m : List A). a ++ m) (sym (append-nil v)); place = refl }

  pub occurs_tail : (x : A) (l : List A) → Occurs (x ∷ l) 1 l
  occurs_tail x l = occurs_back (x ∷ []) l

  pub occurs_drop : (l : List A) (k : ℕ) → k ≤ length l → Occurs l k (drop k l)
  occurs_drop l k h =
      let e : length (take k l) ≡ k = length-take-le k l h in
      rw (take-append-drop k l, e) at (occurs_back (take k l) (drop k l))

  -- a part behind the first k elements
  pub occurs_behind : (l v : List A) (j k : ℕ) → Occurs l j v → k ≤ j → Occurs (drop k l) (j - k) v
  occurs_behind l v j k o h =
      let fits : k ≤ length o.front = omega arith in
      record {
        front = drop k o.front;
        back = o.back;
        whole = ap (drop k) o.whole ∙ drop-append-le k o.front (v ++ o.back) fits;
        place = length-drop k o.front ∙ rw o.place;
      }

  -- a list begins with a part at its front
  pub occurs_begins : (l v : List A) (o : Occurs l 0 v) → l ≡ v ++ o.back
  occurs_begins l v o =
      let none : o.front ≡ [] = drop_of_length-le o.front {i = 0} (omega arith) in
      rw none at o.whole

  pub occurs_up_to : (f : A → Bool) (l : List A) → Occurs l 0 (up_to f l)
  occurs_up_to f l = rw (up_to_from f l) at (occurs_front (up_to f l) (from f l))

  pub occurs_from : (f : A → Bool) (l : List A) → Occurs l (length (up_to f l)) (from f l)
  occurs_from f l = rw (up_to_from f l) at (occurs_back (up_to f l) (from f l))

  -- behind the first element that passes a test
  pub occurs_past : (f : A → Bool) (l : List A) → any f l ≡ true → Occurs l (length (up_to f l) + 1) (tail (from f l))
  unfolding any
  occurs_past f [] h = absurd (false≢true h)
  occurs_past f (x ∷ l) h =
      split (f x) (λ e. rw (up_to_stop f x l e, from_stop f x l e) (occurs_tail x l))
      (λ e.
      let k : 1 + (length (up_to f l) + 1) ≡ suc (length (up_to f l)) + 1 = omega arith in
      rw (up_to_on f x l e, from_on f x l e)
      (rw k at (occurs_in (x ∷ l) l (tail (from f l)) 1 (length (up_to f l) + 1) (occurs_tail x l) (occurs_past f l (rw e at h)))))
