-- The worked examples, computed. Assumes nothing.
use Prim.Native.Nat.{ℕ}
use mathlib.Core.Path.{◌≡◌, refl, ap}
use mathlib.Core.Bool.{true, false≢true}
use mathlib.Core.List.{List, [], ◌∷◌, map}
use native.Mathlib.Omega.{arith}
use lib.ListN.{length}
use borrow.Author.Tests.{le-leb}
use Rattle.protocol.specs.declared.Side.{Side}
use Rattle.protocol.specs.Text.{octets}
use Rattle.protocol.specs.Entries.{entries}
use Rattle.protocol.specs.Pattern.{shape_of, weight}
use Rattle.protocol.specs.Matching.{filled, Matches}
use Rattle.protocol.specs.Walk.{walk}
use Rattle.protocol.specs.Answers.{side_number}
use Rattle.protocol.specs.Program.{decimal, output}
use Rattle.protocol.specs.Examples.{asked, answer, worked_table, program_input, program_output}
use Rattle.protocol.specs.DraftExamples.{path_asked, path_matches, draft_paths, draft_table, both_table}
use Rattle.protocol.specs.OwnExamples.{simple_example, our_table, refused_at, refusal_at, our_sizes, span_asked, span, our_spans}
use Rattle.protocol.specs.OwnExamples.{given_entries, applying_lines, filling_asked, filling_gives, our_fillings}
use Rattle.protocol.specs.OwnExamples.{entry_numbers, entries_file, entries_numbers, line_asked, our_lines}
use Rattle.protocol.specs.OwnExamples.{match_asked, match_answer, our_matches, walk_asked, walk_answer, our_walks, normal_asked, our_normals}
use Rattle.protocol.specs.OwnExamples.{starts_asked, starts_answer, our_starts}
use Rattle.protocol.specs.OwnExamples.{batch_asked, batch_table}
use Rattle.protocol.specs.OwnExamples.{output_asked, output_of, our_runs, our_numbers, our_decimals}
use Rattle.protocol.specs.OwnExamples.{sorted, members, our_sorts, changed, afterwards, our_changes}
use Rattle.protocol.proofs.Computing.{computing}

-- document 01's table: "shown by a single computed statement over the list"
pub worked_table_lem : map asked worked_table ≡ map answer worked_table
unfolding computing worked_table
worked_table_lem = refl

-- document 01's example of the program
pub program_example : output program_input ≡ program_output
unfolding computing program_input program_output
program_example = refl

-- rows of ours
pub our_table_lem : map asked our_table ≡ map answer our_table
unfolding computing our_table simple_example
our_table_lem = refl

-- M-113: 004's table, and its record decided as 004 has it; the dialects beside each other
pub draft_paths_lem : map path_asked draft_paths ≡ map path_matches draft_paths
unfolding computing draft_paths
draft_paths_lem = refl

pub draft_table_lem : map asked draft_table ≡ map answer draft_table
unfolding computing draft_table
draft_table_lem = refl

pub both_table_lem : map asked both_table ≡ map answer both_table
unfolding computing both_table
both_table_lem = refl

pub our_sizes_lem : map refused_at our_sizes ≡ map refusal_at our_sizes
unfolding computing our_sizes
our_sizes_lem = refl

pub our_runs_lem : map output_asked our_runs ≡ map output_of our_runs
unfolding computing our_runs
our_runs_lem = refl

pub our_numbers_lem : map decimal our_numbers ≡ map octets our_decimals
unfolding computing our_numbers our_decimals
our_numbers_lem = refl

pub our_sides : map side_number (Side.Allow ∷ Side.Disallow ∷ []) ≡ 0 ∷ 1 ∷ []
unfolding computing
our_sides = refl

pub our_entries : map entry_numbers (entries entries_file) ≡ entries_numbers
unfolding computing entries_file entries_numbers
our_entries = refl

pub given_entries_lem : applying_lines ≡ 9 ∷ []
unfolding computing given_entries
given_entries_lem = refl

pub our_spans_lem : map span_asked our_spans ≡ map span our_spans
unfolding computing our_spans
our_spans_lem = refl

pub our_lines_lem : map line_asked our_lines ≡ our_lines
unfolding computing our_lines
our_lines_lem = refl

pub our_matches_lem : map match_asked our_matches ≡ map match_answer our_matches
unfolding computing our_matches
our_matches_lem = refl

pub our_fillings_lem : map filling_asked our_fillings ≡ map filling_gives our_fillings
unfolding computing filled our_fillings
our_fillings_lem = refl

-- the meaning of a match, with no walk: a filling and what is left of the path; with an end mark, nothing may be left
pub matches_beginning : Matches (shape_of (octets "/*b")) (octets "/xxbc")
unfolding computing filled
matches_beginning = record { fillings = octets "xx" ∷ []; rest = octets "c"; gives = refl; whole = λ e. absurd (false≢true e) }

pub matches_whole : Matches (shape_of (octets "/*b$")) (octets "/xxb")
unfolding computing filled
matches_whole = record { fillings = octets "xx" ∷ []; rest = []; gives = refl; whole = λ e. refl }

pub matches_not : Matches (shape_of (octets "/a$")) (octets "/ab") → ⊥
unfolding computing filled
matches_not m = omega (arith, ap length m.gives, ap length (m.whole refl))

-- a star by itself weighs one, and matches every path, at no cost
pub star_weight : weight (shape_of (octets "*")) ≡ 1
unfolding computing
star_weight = refl

pub star_matches : (path : List ℕ) → Matches (shape_of (octets "*")) path
unfolding computing filled
star_matches path = record { fillings = []; rest = path; gives = refl; whole = λ e. absurd (false≢true e) }

pub star_walk : (path : List ℕ) → walk (shape_of (octets "*")) path ≡ record { stood = true; past = 0; count = 0 }
unfolding computing
star_walk [] = refl
star_walk (x ∷ path) =
    let fits = le-leb 0 (length (x ∷ path)) (omega arith) in
    rw fits (rw fits)

pub our_walks_lem : map walk_asked our_walks ≡ map walk_answer our_walks
unfolding computing our_walks
our_walks_lem = refl

pub our_starts_lem : map starts_asked our_starts ≡ map starts_answer our_starts
unfolding computing our_starts
our_starts_lem = refl

pub our_normals_lem : map normal_asked our_normals ≡ our_normals
unfolding computing our_normals
our_normals_lem = refl

-- M-101: many paths in one call
pub batch_table_lem : map batch_asked batch_table ≡ batch_table
unfolding computing batch_table
batch_table_lem = refl

-- the sorts of octets, over all 256
pub our_sorts_lem : map sorted our_sorts ≡ map members our_sorts
unfolding computing our_sorts
our_sorts_lem = refl

pub our_changes_lem : map changed our_changes ≡ map afterwards our_changes
unfolding computing our_changes
our_changes_lem = refl
