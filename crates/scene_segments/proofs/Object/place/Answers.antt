use Rattle.std.proofs.Common.{arith}
use Rattle.scene_segments.proofs.Elements.{fits}
use Rattle.scene_segments.proofs.Walk.{object_fits, place_fits}
use Rattle.scene_segments.proofs.Object.place.Goals as goal

pub place-requires : goal.place-requires
place-requires c =
    let o = c.args.self in
    omega (arith, object_fits o.bytes.now o.layout o.read, place_fits o.layout c.args.i c.requires, c.well_formed)

pub returns-clause-before_end : goal.returns-clause-before_end
returns-clause-before_end c =
    let o = c.args.self in
    omega (arith, object_fits o.bytes.now o.layout o.read, place_fits o.layout c.args.i c.requires, c.place.ensures)

pub returns-clause-whole : goal.returns-clause-whole
returns-clause-whole c = λ h. let o = c.args.self in omega (arith, fits o.bytes.now o.layout o.read c.args.i h, c.place.ensures)
