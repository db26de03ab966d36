-- Tests and parts of lists that the library lacks. Assumes nothing.
use Rattle.std.specs.Prelude.{ℕ, zero, suc, ◌+◌, Bool, true, false, ◌&&◌, ◌||◌, List, [], ◌∷◌, ◌++◌, eqb, if◌then◌else◌}

module _ {A : Type 0} where
  abbrev pub empty : List A → Bool
  empty [] = true
  empty (x ∷ l) = false

  -- every element passes the test f
  unfoldable pub all : (A → Bool) → List A → Bool
  all f [] = true
  all f (x ∷ l) = f x && all f l

  -- some element passes the test f
  unfoldable pub any : (A → Bool) → List A → Bool
  any f [] = false
  any f (x ∷ l) = f x || any f l

  -- the elements that pass the test f, in order
  unfoldable pub kept : (A → Bool) → List A → List A
  kept f [] = []
  kept f (x ∷ l) = (if f x then x ∷ [] else []) ++ kept f l

  -- the elements in front of the first that passes the test f: all of them where none does
  unfoldable pub up_to : (A → Bool) → List A → List A
  up_to f [] = []
  up_to f (x ∷ l) = if f x then [] else x ∷ up_to f l

  -- the elements from the first that passes the test f on: none where none does
  unfoldable pub from : (A → Bool) → List A → List A
  from f [] = []
  from f (x ∷ l) = if f x then x ∷ l else from f l

  -- the elements up to the first that passes the test f, and that one too: all of them where none does
  unfoldable pub through : (A → Bool) → List A → List A
  through f [] = []
  through f (x ∷ l) = x ∷ (if f x then [] else through f l)

  -- the sum of f over the elements
  unfoldable pub total : (A → ℕ) → List A → ℕ
  total f [] = 0
  total f (x ∷ l) = f x + total f l

-- n numbers, from k on
unfoldable pub numbers_from : ℕ → ℕ → List ℕ
numbers_from k zero = []
numbers_from k (suc n) = k ∷ numbers_from (k + 1) n

-- element for element the same numbers
unfoldable pub same : List ℕ → List ℕ → Bool
same [] [] = true
same [] (y ∷ m) = false
same (x ∷ l) [] = false
same (x ∷ l) (y ∷ m) = eqb x y && same l m
