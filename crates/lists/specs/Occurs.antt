-- A list as a part of another. Assumes nothing.
use Rattle.std.specs.Prelude.{ℕ, ◌≡◌, List, ◌++◌, length}

-- v stands in l, k elements from its front
pub record Occurs {A : Type 0} (l : List A) (k : ℕ) (v : List A) : Type 0 where
  pub front : List A
  pub back : List A
  pub whole : l ≡ front ++ (v ++ back)
  pub place : length front ≡ k
