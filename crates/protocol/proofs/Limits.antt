-- "Just inside: a 512,000-octet file [..]. One more octet [..] is refused", and "program only: input over 65,536 octets": the limits that are
-- too long to compute with. The others are rows of specs/OwnExamples.antt. And how long a path is that isn't refused. Assumes nothing.
use Prim.Native.Nat.{ℕ, ◌≤◌, ◌<◌}
use mathlib.Core.Path.{◌≡◌, ◌∙◌}
use mathlib.Core.Bool.{true}
use mathlib.Core.List.{List, [], ◌∷◌, ◌++◌}
use native.Mathlib.Omega.{arith}
use lib.Dec.{leb, ltb}
use lib.ListN.{length}
use borrow.Author.Tests.{lt-ltb, le-ltb, ltb-false, leb-true, leb-false}
use Rattle.lists.proofs.Bools.{split}
use Rattle.protocol.specs.Forms.{Decision}
use Rattle.protocol.specs.Octets.{is}
use Rattle.protocol.specs.Text.{begins}
use Rattle.protocol.specs.Normal.{normal_path}
use Rattle.protocol.specs.declared.Dialect.{Dialect}
use Rattle.protocol.specs.Refusals.{Row, dialect_number, too_long, several_lines, bad_name, bad_pattern, input_too_long, refusal, path_rows, decide_rows, decide_refusal, match_refusal, line_refusal, unless_refused}
use Rattle.protocol.specs.Answers.{decide}
use Rattle.protocol.specs.Meaning.{ByTable}
use Rattle.protocol.specs.Program.{refused_text, answer_text, name_in, path_in, file_in, program_rows, output}
use Rattle.protocol.proofs.Sizes.{path_limit}
use Rattle.protocol.proofs.Refused.{refusal_here, refusal_on, refusal_by_table, known_refusal}
use Rattle.protocol.proofs.Demands.{decide_refusal_lem}

module _ (l : List ℕ) (rows : List Row) where
  pub too_long_lem : 512_000 < length l → refusal (too_long l ∷ rows) ≡ 1
  too_long_lem h = refusal_here (too_long l) rows (lt-ltb 512_000 (length l) h)

  pub not_too_long : length l ≤ 512_000 → refusal (too_long l ∷ rows) ≡ refusal rows
  not_too_long h = refusal_on (too_long l) rows (le-ltb 512_000 (length l) h)

  pub short_known : refusal (too_long l ∷ rows) ≡ 0 → length l ≤ 512_000
  short_known h =
      split (leb (length l) 512_000) (λ e. leb-true _ _ e) (λ e. absurd (omega (arith, h, too_long_lem (leb-false (length l) 512_000 e))))

-- each question that is given a file, a pattern or a line tests it first
pub file_too_long : (d : Dialect) (file name path : List ℕ) → 512_000 < length file → decide_refusal (dialect_number d) file name path ≡ 1
file_too_long d file name path h = known_refusal file name path d ∙ too_long_lem file (bad_name name ∷ path_rows path) h

pub pattern_too_long : (pattern path : List ℕ) → 512_000 < length pattern → match_refusal pattern path ≡ 1
unfolding match_refusal
pattern_too_long pattern path h = too_long_lem pattern (path_rows path ++ (bad_pattern pattern ∷ [])) h

pub line_too_long : (line : List ℕ) → 512_000 < length line → line_refusal line ≡ 1
unfolding line_refusal
line_too_long line h = too_long_lem line (several_lines line ∷ []) h

-- "the program tests 7 before all others"
module _ (input : List ℕ) where
  pub program_by_table : ByTable (program_rows input) (refusal (program_rows input))
  program_by_table = refusal_by_table (program_rows input) (omega arith)

  pub output_refused : 65_536 < length input → output input ≡ refused_text 7
  unfolding output refusal unless_refused
  output_refused h = rw (lt-ltb 65_536 (length input) h)

  -- otherwise it writes what its decision comes to
  pub output_answered : length input ≤ 65_536 → {d : Decision} → d ≡ decide 0 (file_in input) (name_in input) (path_in input)
      → output input ≡ unless_refused d.refusal refused_text (answer_text d)
  unfolding output decide_refusal
  output_answered h e =
      rw (
        e,
        decide_refusal_lem 0 (file_in input) (name_in input) (path_in input),
        refusal_on (input_too_long input) (decide_rows 0 (file_in input) (name_in input) (path_in input)) (le-ltb 65_536 (length input) h),
      )

-- the beginning and the length of a path that no row of its own refuses
pub path_known : (path : List ℕ) → refusal (path_rows path) ≡ 0 → (begins "/" path ≡ true) × (length path ≤ 2_048)
unfolding refusal begins
path_known [] h = absurd (omega arith)
path_known (x ∷ l) h =
    split (ltb 2_048 (length (x ∷ l)))
    (λ e. let z : 3 ≡ 0 = rw e at h in absurd (omega arith))
    (λ e.
    split (is "/" x)
    (λ b. (b, ltb-false 2_048 (length (x ∷ l)) e))
    (λ b. let z : 4 ≡ 0 = rw (e, b) at h in absurd (omega arith)))

-- such a path has at most 6,142 octets normalised
pub path_room : (path : List ℕ) → refusal (path_rows path) ≡ 0 → length (normal_path path) ≤ 6_142
path_room path h = let (b, l) = path_known path h in path_limit path b l
