use Rattle.std.proofs.Common.{sym, subst, T}
use Rattle.plane.specs.declared.Halfsegment.{Halfsegment}
use Rattle.plane.specs.Plane.{segment_in_range}
use Rattle.scene_writing.proofs.Earlier.{half_good}
use Rattle.scene_writing.proofs.order.Row.is_earlier_there.Goals as goal

pub comes_before-requires : goal.comes_before-requires
comes_before-requires c =
    let row = c.args.self.ends.now in (
      subst (λ (h : Halfsegment). T (segment_in_range h.segment)) (sym c.half.ensures) (half_good row c.args.self.good c.args.h c.requires.h_in).in_range_lem,
      subst (λ (h : Halfsegment). T (segment_in_range h.segment)) (sym c.half-2.ensures) (half_good row c.args.self.good c.args.other c.requires.other_in).in_range_lem,
    )
