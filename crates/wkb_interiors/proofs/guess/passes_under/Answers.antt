use Rattle.std.proofs.Common.{T, sym, subst}
use Rattle.plane.specs.Plane.{segment_in_range}
use Rattle.plane.proofs.Machine.{turn_asks}
use Rattle.wkb_interiors.proofs.Columns.{in_range_lem}
use Rattle.wkb_interiors.proofs.guess.passes_under.Goals as goal

pub turns-requires : goal.turns-requires
turns-requires c = turn_asks c.segment-t.result c.args.p (subst (λ t. T (segment_in_range t)) (sym c.segment-t.ensures) (in_range_lem c.args.ends c.requires.0)) c.requires.1
