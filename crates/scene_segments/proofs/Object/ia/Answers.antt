use Rattle.std.proofs.Common.{◌∙◌, sym, arith}
use Rattle.scene_segments.proofs.Elements.{fits, ia_good}
use Rattle.scene_segments.proofs.Object.ia.Goals as goal

pub place-requires : goal.place-requires
place-requires c = let o = c.args.self in omega (arith, fits o.bytes.now o.layout o.read c.args.i c.requires, c.well_formed)

pub ia-requires : goal.ia-requires
ia-requires c =
    let o = c.args.self in
    omega (arith, ia_good o.bytes.now o.layout o.read c.args.i c.requires (sym c.is_region.ensures ∙ c.if-is_region.true), c.place.ensures)
