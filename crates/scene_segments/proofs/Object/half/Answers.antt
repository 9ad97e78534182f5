use Rattle.std.proofs.Common.{◌∙◌, ap, arith}
use Rattle.whole.proofs.Logic.{true_is}
use Rattle.plane.specs.declared.Halfsegment.{Halfsegment}
use Rattle.scene.specs.Read.{halfsegment_at}
use Rattle.scene.specs.Conditions.{has_segments}
use Rattle.scene_segments.proofs.Elements.{fits, half_good}
use Rattle.scene_segments.proofs.Walk.{in_range_at, in_order_at}
use Rattle.scene_segments.proofs.Object.half.Goals as goal

pub place-requires : goal.place-requires
place-requires c = let o = c.args.self in omega (arith, fits o.bytes.now o.layout o.read c.args.i c.requires.0, c.well_formed)

pub halfsegment-requires : goal.halfsegment-requires
halfsegment-requires c =
    let o = c.args.self in
    omega (arith, (half_good o.bytes.now o.layout o.read c.args.i c.requires.0 (true_is (has_segments o.layout.shape) c.requires.1)).there, c.place.ensures)

pub returns-clause-in_range : goal.returns-clause-in_range
returns-clause-in_range c =
    let o = c.args.self in
    let is = c.halfsegment.ensures ∙ ap (halfsegment_at o.bytes.now) c.place.ensures in
    in_range_at (ap (λ (h : Halfsegment). h.segment) is)
    (half_good o.bytes.now o.layout o.read c.args.i c.requires.0 (true_is (has_segments o.layout.shape) c.requires.1)).in_range_lem

pub returns-clause-in_order : goal.returns-clause-in_order
returns-clause-in_order c =
    let o = c.args.self in
    let is = c.halfsegment.ensures ∙ ap (halfsegment_at o.bytes.now) c.place.ensures in
    in_order_at (ap (λ (h : Halfsegment). h.segment) is)
    (half_good o.bytes.now o.layout o.read c.args.i c.requires.0 (true_is (has_segments o.layout.shape) c.requires.1)).in_order
