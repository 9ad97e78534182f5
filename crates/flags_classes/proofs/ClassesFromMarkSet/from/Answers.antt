-- A mark is a bit.
use Rattle.std.proofs.Common.{◌∙◌}
use Rattle.flags.proofs.Bits.{test_bit}
use Rattle.flags_classes.proofs.ClassesFromMarkSet.from.Goals as goal

pub returns : goal.returns
returns c =
    let m = c.args.marks.0 in
    λ i. record {
      above_outside = (c.has.ensures ∙ test_bit m 0) i;
      below_outside = (c.has-2.ensures ∙ test_bit m 1) i;
      above_inside = (c.has-3.ensures ∙ test_bit m 2) i;
      below_inside = (c.has-4.ensures ∙ test_bit m 3) i;
      both_above = (c.has-5.ensures ∙ test_bit m 4) i;
      both_below = (c.has-6.ensures ∙ test_bit m 5) i;
      opposite = (c.has-7.ensures ∙ test_bit m 6) i;
    }
