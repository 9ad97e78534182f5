-- No more elements of G than an object may have.
use Rattle.flags_vectors.proofs.Answered.{accepted}
use Rattle.walk.proofs.Points.{few_g}
use Rattle.walk.proofs.laying.lay_g.Goals as goal

pub of-requires : goal.of-requires
of-requires c = let z = c.args.noted in few_g (accepted z.bytes.now z.scene z.taken) c.requires.there
