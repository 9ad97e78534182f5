-- No more elements of F than an object may have.
use Rattle.flags_vectors.proofs.Answered.{accepted}
use Rattle.walk.proofs.Points.{few_f}
use Rattle.walk.proofs.laying.lay_both.Goals as goal

pub of-note-requires : goal.of-note-requires
of-note-requires c = let z = c.args.noted in few_f (accepted z.bytes.now z.scene z.taken) c.requires.there.0
