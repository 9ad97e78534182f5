-- The point's elements are two runs of one key.
use Rattle.flags_vectors.proofs.Answered.{accepted}
use Rattle.walk.proofs.Points.{point_at, rest_of_f, rest_of_g}
use Rattle.walk.proofs.laying.lay_point.Goals as goal

pub lay_merged-merged-requires-clause-point : goal.lay_merged-merged-requires-clause-point
lay_merged-merged-requires-clause-point c = let z = c.args.noted in point_at (accepted z.bytes.now z.scene z.taken) c.requires.point

pub lay_rest_of_f-of_f-requires-clause-rest : goal.lay_rest_of_f-of_f-requires-clause-rest
lay_rest_of_f-of_f-requires-clause-rest c =
    let z = c.args.noted in
    let m = c.lay_merged-merged.ensures in
    rest_of_f (point_at (accepted z.bytes.now z.scene z.taken) c.requires.point) m.between m.one_ends

pub lay_rest_of_g-requires-clause-rest : goal.lay_rest_of_g-requires-clause-rest
lay_rest_of_g-requires-clause-rest c =
    let z = c.args.noted in
    let f = c.lay_rest_of_f-of_f.ensures in
    rest_of_g (point_at (accepted z.bytes.now z.scene z.taken) c.requires.point) c.lay_merged-merged.ensures.between f.to.0 f.to.1
