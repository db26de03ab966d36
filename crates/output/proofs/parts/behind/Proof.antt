-- `output::parts::behind` meets its contract. Assumes nothing.
use Prim.Native.Nat.{ℕ, ◌+◌, ◌≤◌}
use mathlib.Core.Path.{sym, ap, ◌∙◌}
use native.Mathlib.Omega.{arith}
use lib.ListN.{length, drop, drop_of_length-le}
use borrow.Author.Rules.{rules}
use Rattle.lists.specs.Lists.{up_to}
use Rattle.lists.proofs.Scans.{up_to_fits, drop_past, rest_of}
use Rattle.text.specs.Parts.{equals}
use Rattle.protocol.specs.Program.{behind}
use Rattle.output.proofs.parts.behind.Statement.{statement}
use Rattle.output.proofs.parts.behind.Tie as tie

find-end-requires : tie.Need-find-end-requires
find-end-requires c κs = tt

slice_bounds-result-count : tie.Need-slice_bounds-result-count
slice_bounds-result-count c = search rules

slice_bounds-result-start : tie.Need-slice_bounds-result-start
slice_bounds-result-start c = search rules

slice_bounds-result-end : tie.Need-slice_bounds-result-end
slice_bounds-result-end c = search rules

returns-then-end-s : tie.Need-returns-then-end-s
unfolding behind
returns-then-end-s c =
    let f = c.before.before.find-end in
    let s = c.before.before.before.before.args.s.now in
    rest_of f.result s
    ∙ drop_of_length-le s {i = f.result} (omega arith)
    ∙ sym (drop_of_length-le s {i = length (up_to (equals 10) s) + 1} (omega (arith, f.ensures)))
    ∙ drop_past (equals 10) s

-- an LF stands inside
inside : (c : tie.Else-end-s) → c.before.find-end.result + 1 ≤ length c.before.before.before.args.s.now
inside c = omega (arith, c.before.find-end.ensures, up_to_fits (equals 10) c.before.before.before.args.s.now)

overflow_add-result : tie.Need-overflow_add-result
overflow_add-result c = omega (arith, inside c)

slice_bounds-result-count-2 : tie.Need-slice_bounds-result-count-2
slice_bounds-result-count-2 c = omega (arith, inside c)

slice_bounds-result-start-2 : tie.Need-slice_bounds-result-start-2
slice_bounds-result-start-2 c = omega (arith, inside c)

slice_bounds-result-end-2 : tie.Need-slice_bounds-result-end-2
slice_bounds-result-end-2 c = search rules

returns : tie.Need-returns
unfolding behind
returns c =
    let f = c.before.before.find-end in
    let s = c.before.before.before.before.args.s.now in
    rest_of (f.result + 1) s ∙ ap (λ (n : ℕ). drop (n + 1) s) f.ensures ∙ drop_past (equals 10) s

pub behind_spec : {M : Type 1} → statement M
behind_spec = tie.close (tie.spec find-end-requires slice_bounds-result-count slice_bounds-result-start slice_bounds-result-end returns-then-end-s overflow_add-result slice_bounds-result-count-2 slice_bounds-result-start-2 slice_bounds-result-end-2 returns)
