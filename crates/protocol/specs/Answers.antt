-- "What a caller may ask": the answer to each question, for every input, with its refused form. Assumes nothing.
use Rattle.std.specs.Prelude.{ℕ, Bool, true, false, List, [], ◌++◌, length, drop}
use Rattle.protocol.specs.declared.Place.{Place}
use Rattle.protocol.specs.declared.Side.{Side}
use Rattle.protocol.specs.declared.Agent.{Agent}
use Rattle.protocol.specs.declared.Pattern.{Pattern}
use Rattle.protocol.specs.declared.Kind.{Kind}
use Rattle.protocol.specs.declared.Walked.{Walked}
use Rattle.protocol.specs.Forms.{Decision}
use Rattle.protocol.specs.Forms.{Matched}
use Rattle.protocol.specs.Forms.{Normalised}
use Rattle.protocol.specs.Forms.{LineAnswer}
use Rattle.protocol.specs.Lines.{line_number, place_at}
use Rattle.protocol.specs.Kinds.{kind_of, place_of, length_of}
use Rattle.protocol.specs.Entries.{entries}
use Rattle.protocol.specs.declared.Rule.{Rule}
use Rattle.protocol.specs.Rules.{applying}
use Rattle.protocol.specs.Normal.{normal_path}
use Rattle.protocol.specs.Pattern.{shape_of}
use Rattle.protocol.specs.Walk.{walk}
use Rattle.protocol.specs.Refusals.{dialect_of, decide_refusal, match_refusal, normalise_refusal, line_refusal, unless_refused}
use Rattle.protocol.specs.Decision.{readable_rules, walked, answered}

-- "A refused decision holds its number, disallow, and zeros"
abbrev pub refused_decision : ℕ → Decision
refused_decision n =
    record {
      refusal = n;
      side = Side.Disallow;
      line = line_number 0;
      place = place_at 0;
      length = 0;
      unread = 0;
      compared = 0;
    }

-- "Decide: file, name, path", in the dialect of a number (M-113)
unfoldable pub decide : ℕ → List ℕ → List ℕ → List ℕ → Decision
decide dialect file name path =
    unless_refused (decide_refusal dialect file name path) refused_decision
    (answered (dialect_of dialect) file (entries file) name (normal_path path))

-- the rules that are walked for it
abbrev pub walked_rules : ℕ → List ℕ → List ℕ → List ℕ → List Rule
walked_rules dialect file name path =
    walked (dialect_of dialect) file (normal_path path) (readable_rules file (applying file (entries file) name))

-- "allow or disallow (0 or 1 where a number is wanted)"
abbrev pub side_number : Side → ℕ
side_number Side.Allow = 0
side_number Side.Disallow = 1

-- "A refused match is "no" with count 0"
abbrev pub refused_match : ℕ → Matched
refused_match n = record { refusal = n; found = false; compared = 0 }

-- "yes or no, with the count of that walk"
abbrev pub matched_by : Walked → Matched
matched_by w = record { refusal = 0; found = w.stood; compared = w.count }

-- "Match one pattern against one path"
unfoldable pub match_of : List ℕ → List ℕ → Matched
match_of pattern path =
    unless_refused (match_refusal pattern path) refused_match (matched_by (walk (shape_of pattern) (normal_path path)))

-- "yes or no" where a number is wanted
abbrev pub found_number : Bool → ℕ
found_number true = 1
found_number false = 0

-- "Normalise a path into a lent buffer": what is written into its front. "a refused normalising writes nothing and reports 0"
unfoldable pub normal_written : List ℕ → List ℕ → List ℕ
normal_written path buffer = unless_refused (normalise_refusal (length buffer) path) (λ n. []) (normal_path path)

-- "octets written"
unfoldable pub normalise_of : List ℕ → List ℕ → Normalised
normalise_of path buffer =
    record { refusal = normalise_refusal (length buffer) path; written = length (normal_written path buffer) }

-- "Whatever a call writes [..] fills the front of the lent memory; the rest stays"
abbrev pub at_front : List ℕ → List ℕ → List ℕ
at_front out memory = out ++ drop (length out) memory

unfoldable pub normalise_buffer : List ℕ → List ℕ → List ℕ
normalise_buffer path buffer = at_front (normal_written path buffer) buffer

-- "Tell the kind of one line": "a refused line has no kind, place 0 and length 0"
unfoldable pub line_answer : List ℕ → LineAnswer
line_answer line = unless_refused (line_refusal line) LineAnswer.Refused (LineAnswer.Kind (kind_of line))

-- the numbers of that answer
abbrev pub refusal_of : LineAnswer → ℕ
refusal_of (LineAnswer.Refused n) = n
refusal_of (LineAnswer.Kind k) = 0

abbrev pub kind_number : Kind → ℕ
kind_number Kind.Blank = 1
kind_number Kind.Noise = 2
kind_number Kind.Other = 3
kind_number (Kind.Agent (Agent.Readable p n)) = 4
kind_number (Kind.Agent (Agent.Unreadable p n)) = 5
kind_number (Kind.Rule Side.Allow Pattern.Empty) = 6
kind_number (Kind.Rule Side.Allow (Pattern.Readable p n)) = 7
kind_number (Kind.Rule Side.Allow (Pattern.Unreadable p n)) = 8
kind_number (Kind.Rule Side.Disallow Pattern.Empty) = 9
kind_number (Kind.Rule Side.Disallow (Pattern.Readable p n)) = 10
kind_number (Kind.Rule Side.Disallow (Pattern.Unreadable p n)) = 11

abbrev pub kind_number_of : LineAnswer → ℕ
kind_number_of (LineAnswer.Refused n) = 0
kind_number_of (LineAnswer.Kind k) = kind_number k

abbrev pub value_place : LineAnswer → Place
value_place (LineAnswer.Refused n) = place_at 0
value_place (LineAnswer.Kind k) = place_of k

abbrev pub value_length : LineAnswer → ℕ
value_length (LineAnswer.Refused n) = 0
value_length (LineAnswer.Kind k) = length_of k
