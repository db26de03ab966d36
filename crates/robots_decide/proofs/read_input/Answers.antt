-- `read_input`: a turn puts what it read behind what was read before.
use Rattle.std.proofs.Common.{◌≡◌, ℕ, ◌+◌, ◌-◌, ◌≤◌, Option, None, Some, List, ◌++◌, length, take, sym, ap, subst, ◌∙◌, append_assoc, length-take-le, rules}
use Rattle.std.proofs.lemmas.List.{take-append-le}
use Rattle.std.proofs.Math.Seq.{take-append-add}
use Rattle.std.specs.Io.KnownBytes.{Consumes}
use borrow.Rule.Slice.PartMut.{put_mid, post_of}
use Rattle.robots_decide.proofs.read_input.Goals as goal

-- the front of the list grows by the front of what was put behind it
take_put_behind : (a k n : ℕ) (xs ys : List ℕ) → a ≤ length xs → n ≤ length ys → take (a + n) (put_mid a k xs ys) ≡ take a xs ++ take n ys
take_put_behind a k n xs ys within fits =
    let front = take a xs in
    let behind = ys ++ post_of a k xs in
    ap (λ (m : ℕ). take (m + n) (front ++ behind)) (sym (length-take-le a xs within))
    ∙ take-append-add front behind n
    ∙ ap (λ (l : List ℕ). front ++ l) (take-append-le n ys (post_of a k xs) fits)

-- two reads, one after the other
consumes_both : (a b c : Option (List ℕ)) (xs ys : List ℕ) → Consumes a b xs → Consumes b c ys → Consumes a c (xs ++ ys)
consumes_both None b c xs ys p q = tt
consumes_both (Some l) None c xs ys p q = absurd p
consumes_both (Some l) (Some m) None xs ys p q = absurd q
consumes_both (Some l) (Some m) (Some n) xs ys p q = p ∙ ap (λ (t : List ℕ). xs ++ t) q ∙ sym (append_assoc xs ys n)

pub loop-n-preserved : goal.loop-n-preserved
loop-n-preserved g c =
    let l = c.loop-n in
    let put = take_put_behind l.n (length l.buffer - l.n) c.in_ok-more.more l.buffer c.read.new.buf l.invariant.inside c.in_ok-more.ensures.bound.0 in
    record {
      same_length = search rules;
      inside = search rules;
      consumed = subst (Consumes _ _) (sym put) (consumes_both _ _ _ _ _ l.invariant.consumed c.in_ok-more.ensures.bytes.0);
    }
