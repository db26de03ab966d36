-- `octets::Classes::is_of` meets its contract. Assumes nothing.
use mathlib.Core.Path.{◌≡◌, ap}
use mathlib.Core.Bool.{false}
use native.Mathlib.Omega.{arith}
use lib.Dec.{leb}
use borrow.Author.Tests.{le-leb, lt-leb}
use Rattle.protocol.specs.Classes.{class_of, first_class, last_class}
use Rattle.protocol.proofs.Classes.{sort_told}
use Rattle.octets.proofs.Classes.is_of.Goals as goal

pub returns-then-first-class : goal.returns-then-first-class
returns-then-first-class c =
    let a = c.args in
    let r = c.class_range-first in
    let first : r.result.0 ≡ first_class a.sort = ap (λ p. p.0) r.ensures in
    let last : r.result.1 ≡ last_class a.sort = ap (λ p. p.1) r.ensures in
    rw (c.class_of-class.ensures, last) (rw (le-leb (first_class a.sort) (class_of a.x) (omega (arith, c.class_of-class.ensures, first, c.if-first-class.true))) at (sort_told a.x (omega arith) a.sort))

pub returns-else-first-class : goal.returns-else-first-class
returns-else-first-class c =
    let a = c.args in
    let r = c.class_range-first in
    let first : r.result.0 ≡ first_class a.sort = ap (λ p. p.0) r.ensures in
    let out : leb (first_class a.sort) (class_of a.x) ≡ false = lt-leb (first_class a.sort) (class_of a.x) (omega (arith, c.class_of-class.ensures, first, c.if-first-class.false)) in
    rw (c.class_of-class.ensures, first, out) (rw out at (sort_told a.x (omega arith) a.sort))
