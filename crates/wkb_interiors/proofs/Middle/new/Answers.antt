use Rattle.std.proofs.Common.{T, ap, sym, subst, ◌∙◌}
use Rattle.plane.specs.Plane.{segment_in_range}
use Rattle.wkb_interiors.specs.Interiors.{column_of}
use Rattle.wkb_interiors.proofs.Columns.{in_range_lem, column_is}
use Rattle.wkb_interiors.proofs.Middle.new.Goals as goal

pub doubled_midpoint-requires : goal.doubled_midpoint-requires
doubled_midpoint-requires c = subst (λ s. T (segment_in_range s)) (sym c.segment-segment.ensures) (in_range_lem c.args.ends c.requires)

pub invariant_of-result : goal.invariant_of-result
invariant_of-result c =
    record {
      is =
          record {
            good = subst (λ s. T (segment_in_range s)) (sym c.segment-segment.ensures) (in_range_lem c.args.ends c.requires);
            doubled = c.doubled_midpoint.ensures.1;
            halved_is = c.doubled_midpoint.ensures.0;
            column_is = column_is c.args.ends c.requires ∙ ap column_of (sym c.segment-segment.ensures);
          };
    }
