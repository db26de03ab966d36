-- In front of the first line ending none opens an agent line.
use Rattle.std.proofs.Common.{arith, sym, ap, ap₂, ◌≡◌, ◌<◌, true, ◌∙◌, ◌+◌, length, zero-add, ◌&&◌}
use Rattle.lists.specs.Lists.{up_to}
use Rattle.lists.proofs.Scans.{up_to_fits, rest_of}
use lib.Seq.{get_or-drop}
use Rattle.protocol.specs.declared.Place.{Place}
use Rattle.words.specs.Words.{among}
use Rattle.lines.proofs.Pairs.{pairs_next}
use Rattle.lines.proofs.Skips.{front_here, front_sought}
use Rattle.lines.proofs.skip.behind_line.Goals as goal

pub slice_bounds-rest-count : goal.slice_bounds-rest-count
slice_bounds-rest-count c = let found = ap (λ (p : Place). p.offset) c.seek-end.ensures in omega (arith, found, up_to_fits (among 10 13 true) c.args.s.now)

pub slice_bounds-rest-start : goal.slice_bounds-rest-start
slice_bounds-rest-start c = let found = ap (λ (p : Place). p.offset) c.seek-end.ensures in omega (arith, found, up_to_fits (among 10 13 true) c.args.s.now)

pub returns-in-len2-up : goal.returns-in-len2-up
returns-in-len2-up c =
    let s = c.args.s.now in
    let i = c.seek-end.result.offset in
    let found : i ≡ length (up_to (among 10 13 true) s) = ap (λ (p : Place). p.offset) c.seek-end.ensures ∙ zero-add _ in
    let inside : i + 1 < length s = omega (arith, c.in-len2-up.len_at_least) in
    let first : i + 0 ≡ i = omega arith in
    let ended = rw (rest_of i s, get_or-drop i s 0 0, first) at c.if-ends_line.ensures in
    let begun = rw (rest_of i s, get_or-drop i s 1 0) at c.if-may_begin.ensures in
    let here = front_here (pairs_next s i inside) (ap₂ ◌&&◌ (sym ended) (sym begun)) in
    (inside, omega (arith, here, front_sought s i found (omega arith)))
