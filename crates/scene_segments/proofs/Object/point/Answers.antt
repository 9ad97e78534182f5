use Rattle.std.proofs.Common.{◌∙◌, sym, ap, subst, arith}
use Rattle.plane.specs.declared.Point.{Point}
use Rattle.plane.specs.Plane.{in_range}
use Rattle.std.specs.Prelude.{T}
use Rattle.scene.specs.Read.{point_at}
use Rattle.scene_segments.proofs.Elements.{fits, point_good}
use Rattle.scene_segments.proofs.Object.point.Goals as goal

pub place-requires : goal.place-requires
place-requires c = let o = c.args.self in omega (arith, fits o.bytes.now o.layout o.read c.args.i c.requires.0, c.well_formed)

pub point-requires : goal.point-requires
point-requires c =
    let o = c.args.self in
    omega (arith, (point_good o.bytes.now o.layout o.read c.args.i c.requires.0 c.requires.1).there, c.place.ensures)

pub returns-clause-in_range : goal.returns-clause-in_range
returns-clause-in_range c =
    let o = c.args.self in
    let is = c.point.ensures ∙ ap (point_at o.bytes.now) c.place.ensures in
    subst (λ (p : Point). T (in_range p)) (sym is) (point_good o.bytes.now o.layout o.read c.args.i c.requires.0 c.requires.1).in_range_lem
