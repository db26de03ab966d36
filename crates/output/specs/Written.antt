-- What a line of output holds. Assumes nothing.
use Rattle.std.specs.Prelude.{ℕ, ◌≤◌, ◌≡◌, List, length, take, drop, replicate}
use Rattle.output.specs.declared.line.Line.TheInside.{Inside}

-- the octets that are to be written
abbrev pub written : Inside → List ℕ
written l = drop l.start l.octets

-- so many octets in front of them are zeros
abbrev pub ZerosInFront : Inside → Type 0
ZerosInFront l = (l.start ≤ 96) × (take l.start l.octets ≡ replicate l.start 0)

-- the line l is this text, with zeros in front of it
pub record Holds (text : List ℕ) (l : Inside) : Type 0 where
  pub octets : written l ≡ text
  pub zeros : take l.start l.octets ≡ replicate l.start 0
  -- what lending the octets from `start` on asks
  pub inside : l.start ≤ 96
  pub size : length l.octets ≡ 96
