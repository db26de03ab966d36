-- What stands in front of the text are zeros, as before. Assumes nothing.
use Rattle.std.proofs.Common.{◌≡◌, ◌≤◌, ◌-◌, ◌∙◌, ◌++◌, ℕ, List, sym, ap, take, drop, length, replicate, arith}
use Rattle.std.proofs.lemmas.List.{take-replicate, take-append-le, take-append-drop}
use lib.Seq.{length-take-le}
use Rattle.output.proofs.line.Line.put_text.Goals as goal

-- of zeros in front, fewer are zeros too
fewer : (n k : ℕ) (l : List ℕ) → k ≤ n → n ≤ length l → take n l ≡ replicate n 0 → take k l ≡ replicate k 0
fewer n k l h i e =
    ap (take k) (sym (take-append-drop n l))
    ∙ take-append-le k (take n l) (drop n l) (omega (arith, length-take-le n l i))
    ∙ ap (take k) e
    ∙ take-replicate k n 0 h

front : (n k : ℕ) (l back : List ℕ) → k ≤ n → n ≤ length l → take n l ≡ replicate n 0 → take k (take k l ++ back) ≡ replicate k 0
front n k l back h i e =
    let j : k ≤ length l = omega arith in
    take-append-le k (take k l) back (omega (arith, length-take-le k l j)) ∙ ap (take k) (fewer n k l h i e) ∙ take-replicate k k 0 (omega arith)

pub invariant_of-self : goal.invariant_of-self
invariant_of-self c =
    let s = c.self.inside in
    (omega (arith, c.self.invariant.0), front s.start (s.start - length c.args.text.now) s.octets _ (omega arith) (omega (arith, c.self.invariant.0, c.self.told)) c.self.invariant.1)
