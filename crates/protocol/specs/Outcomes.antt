-- What a function answers, a result or the refusal, as the form that document 01 gives it. Assumes nothing.
use Rattle.std.specs.Prelude.{◌≡◌, ◌<◌, ℕ, Result, Ok, Err, MatchResult}
use Rattle.protocol.specs.declared.Dialect.{Dialect}
use Rattle.protocol.specs.declared.Kind.{Kind}
use Rattle.protocol.specs.declared.Walked.{Walked}
use Rattle.protocol.specs.declared.Verdict.{Verdict}
use Rattle.protocol.specs.declared.Refusal.{Refusal}
use Rattle.protocol.specs.Forms.{Decision, Matched, Normalised, LineAnswer}
use Rattle.protocol.specs.Refusals.{dialect_number}
use Rattle.protocol.specs.Answers.{refused_decision, refused_match, matched_by}

-- a refusal's number in the table
abbrev pub refusal_number : Refusal → ℕ
refusal_number Refusal.TooLong = 1
refusal_number Refusal.BadName = 2
refusal_number Refusal.BadLength = 3
refusal_number Refusal.BadStart = 4
refusal_number Refusal.BadOctet = 5
refusal_number Refusal.NoRoom = 6
refusal_number Refusal.InputTooLong = 7
refusal_number Refusal.BadPattern = 8
refusal_number Refusal.SeveralLines = 9
refusal_number Refusal.BadEnds = 12
refusal_number Refusal.ShortAnswers = 13
refusal_number Refusal.UnknownDialect = 20

-- the refusal's number, "0 answered"
abbrev pub number_of : {A : Type 0} → Result A Refusal → ℕ
number_of (Ok a) = 0
number_of (Err r) = refusal_number r

-- the dialect with that number; of no dialect's number, that refusal
abbrev pub Chosen : ℕ → Result Dialect Refusal → Type 0
Chosen n r = MatchResult r (λ d. dialect_number d ≡ n) (λ e. (e ≡ Refusal.UnknownDialect) × (1 < n))

-- a decision that isn't refused
abbrev pub decided : Verdict → Decision
decided v =
    record {
      refusal = 0;
      side = v.side;
      line = v.line;
      place = v.place;
      length = v.length;
      unread = v.unread;
      compared = v.compared;
    }

abbrev pub decision_of : Result Verdict Refusal → Decision
decision_of (Ok v) = decided v
decision_of (Err r) = refused_decision (refusal_number r)

abbrev pub matched_of : Result Walked Refusal → Matched
matched_of (Ok w) = matched_by w
matched_of (Err r) = refused_match (refusal_number r)

-- "octets written"; "a refused normalising [..] reports 0"
abbrev pub normalised_of : Result ℕ Refusal → Normalised
normalised_of (Ok n) = record { refusal = 0; written = n }
normalised_of (Err r) = record { refusal = refusal_number r; written = 0 }

abbrev pub line_answer_of : Result Kind Refusal → LineAnswer
line_answer_of (Ok k) = LineAnswer.Kind k
line_answer_of (Err r) = LineAnswer.Refused (refusal_number r)

-- the same of refusals that any numbers tell
abbrev pub line_answer_by : {E : Type 0} → (E → ℕ) → Result Kind E → LineAnswer
line_answer_by number (Ok k) = LineAnswer.Kind k
line_answer_by number (Err e) = LineAnswer.Refused (number e)
