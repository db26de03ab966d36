-- What is lent of the buffer is the normalised path. Assumes nothing.
use Rattle.std.proofs.Common.{◌≡◌, ◌∙◌, ℕ, List, ap, take, length, arith}
use Rattle.std.proofs.lemmas.List.{length-replicate}
use Rattle.protocol.specs.Normal.{normal_path}
use Rattle.protocol.specs.Pattern.{shape_of}
use Rattle.protocol.specs.Walk.{walk}
use Rattle.protocol.specs.Answers.{at_front}
use Rattle.walk.proofs.Scratch.{front_read}
use Rattle.matching.proofs.walk_in_room.Goals as goal

pub write-n-requires : goal.write-n-requires
unfolding normal_path
write-n-requires g c = omega (arith, length-replicate {A = ℕ} g.row.ROOM 0, c.requires.fits)

pub shared_whole_as_front-written : goal.shared_whole_as_front-written
unfolding normal_path
shared_whole_as_front-written g c = (omega (arith, c.requires.fits, c.write-n.ensures.0), omega (arith, c.requires.room))

-- the path, and what is written of it
lent : (path buffer : List ℕ) (n : ℕ) (out : List ℕ) → n ≡ length (normal_path path) → out ≡ at_front (normal_path path) buffer → take n out ≡ normal_path path
lent path buffer n out e f = front_read (normal_path path) buffer out n e f

pub walk_of-requires : goal.walk_of-requires
unfolding normal_path
walk_of-requires g c =
    rw (lent c.args.path.now _ _ _ c.write-n.ensures.0 c.write-n.ensures.1) (omega (arith, length-replicate {A = ℕ} g.row.ROOM 0, c.requires.fits), c.requires.count_fits)

pub returns : goal.returns
unfolding normal_path
returns g c =
    c.walk_of.ensures.value ∙ ap (walk (shape_of c.args.pattern.now)) (lent c.args.path.now _ _ _ c.write-n.ensures.0 c.write-n.ensures.1)
