-- Every refusal has a number, and none has that of an answer. Assumes nothing.
use Prim.Native.Nat.{ℕ, ◌<◌}
use mathlib.Core.Path.{◌≡◌, refl, sym}
use native.Mathlib.Omega.{arith}
use Rattle.std.specs.Prelude.{Result, Ok, Err}
use Rattle.protocol.specs.declared.Dialect.{Dialect}
use Rattle.protocol.specs.declared.Kind.{Kind}
use Rattle.protocol.specs.declared.Refusal.{Refusal}
use Rattle.protocol.specs.Refusals.{dialect_number, dialect_of}
use Rattle.protocol.specs.Outcomes.{refusal_number, line_answer_of, line_answer_by}

pub numbered : (r : Refusal) → 0 < refusal_number r
numbered Refusal.TooLong = omega arith
numbered Refusal.BadName = omega arith
numbered Refusal.BadLength = omega arith
numbered Refusal.BadStart = omega arith
numbered Refusal.BadOctet = omega arith
numbered Refusal.NoRoom = omega arith
numbered Refusal.InputTooLong = omega arith
numbered Refusal.BadPattern = omega arith
numbered Refusal.SeveralLines = omega arith
numbered Refusal.BadEnds = omega arith
numbered Refusal.ShortAnswers = omega arith
numbered Refusal.UnknownDialect = omega arith

-- what has a refusal's number isn't 0
pub refused_number : (r : Refusal) (n : ℕ) → refusal_number r ≡ n → n ≡ 0 → ⊥
refused_number r n e z = omega (arith, numbered r, e, z)

-- the dialect that a number chooses
pub chosen_dialect : (n : ℕ) (d : Dialect) → dialect_number d ≡ n → d ≡ dialect_of n
unfolding dialect_of
chosen_dialect n Dialect.Rfc9309 e = rw (sym e)
chosen_dialect n Dialect.Draft1996 e = rw (sym e)

-- a line's answer, by the numbers of the table
pub by_number : (r : Result Kind Refusal) → line_answer_by refusal_number r ≡ line_answer_of r
by_number (Ok k) = refl
by_number (Err e) = refl
