-- What is lent of the buffer is the normalised path. Assumes nothing.
use Rattle.std.proofs.Common.{◌≡◌, ◌∙◌, ℕ, List, ap, take, length, arith}
use Rattle.std.proofs.lemmas.List.{length-replicate}
use Rattle.protocol.specs.Entries.{entries}
use Rattle.protocol.specs.Normal.{normal_path}
use Rattle.protocol.specs.Decision.{answered}
use Rattle.protocol.specs.Answers.{at_front}
use Rattle.walk.proofs.Scratch.{front_read}
use Rattle.decide.specs.Telling.{told}
use Rattle.decide.proofs.answers.Question.answer_in_room.Goals as goal

pub write-n-requires : goal.write-n-requires
unfolding normal_path
write-n-requires g c = omega (arith, length-replicate {A = ℕ} g.row.ROOM 0, c.requires.fits)

-- the path, and what is written of it
lent : (path buffer : List ℕ) (n : ℕ) (out : List ℕ) → n ≡ length (normal_path path) → out ≡ at_front (normal_path path) buffer → take n out ≡ normal_path path
lent path buffer n out e f = front_read (normal_path path) buffer out n e f

pub returns : goal.returns
unfolding normal_path
returns g c =
    let q = c.args.self.now in
    c.answer_for.ensures
    ∙ ap (λ (p : List ℕ). told q.whole (answered q.dialect q.file.now (entries q.file.now) q.name.now p)) (lent c.args.path.now _ _ _ c.write-n.ensures.0 c.write-n.ensures.1)
