-- The forms of document 01's answers, in which a refused one is an answer too, with its number; 0 stands for "answered". Assumes nothing.
use Rattle.std.specs.Prelude.{ℕ, Bool}
use Rattle.protocol.specs.declared.LineNumber.{LineNumber}
use Rattle.protocol.specs.declared.Place.{Place}
use Rattle.protocol.specs.declared.Side.{Side}
use Rattle.protocol.specs.declared.Kind as kind

-- the answer to: decide for a file, a name and a path. "unread" is the number of unreadable agent and rule lines in the whole file
pub record Decision : Type 0 where
  pub refusal : ℕ
  pub side : Side
  pub line : LineNumber
  pub place : Place
  pub length : ℕ
  pub unread : ℕ
  pub compared : ℕ

-- the answer to: match one pattern against one path
pub record Matched : Type 0 where
  pub refusal : ℕ
  pub found : Bool
  pub compared : ℕ

-- the answer to: normalise a path into a lent buffer
pub record Normalised : Type 0 where
  pub refusal : ℕ
  pub written : ℕ

-- the answer to: tell the kind of one line
pub data LineAnswer : Type 0 where
  Refused : ℕ → LineAnswer
  Kind : kind.Kind → LineAnswer
