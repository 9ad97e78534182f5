use Rattle.std.proofs.Common.{T, sym, subst}
use Rattle.whole.proofs.Logic.{in_at}
use Rattle.plane.specs.Plane.{segment_in_range}
use Rattle.plane.proofs.Machine.{left_in_range}
use Rattle.scene_writing.specs.Named.{no_ends}
use Rattle.wkb_interiors.proofs.Columns.{in_range_lem}
use Rattle.wkb_interiors.proofs.guess.has_odd_under.Goals as goal

pub segment-requires : goal.segment-requires
segment-requires c = c.args.row.good _ (in_at c.args.row.ends.now no_ends c.args.i c.requires)

pub passes_under-odd-requires : goal.passes_under-odd-requires
passes_under-odd-requires c =
    left_in_range c.segment.result
    (subst (λ t. T (segment_in_range t)) (sym c.segment.ensures) (in_range_lem _ (c.args.row.good _ (in_at c.args.row.ends.now no_ends c.args.i c.requires))))
