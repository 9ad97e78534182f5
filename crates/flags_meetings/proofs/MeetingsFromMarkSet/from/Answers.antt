-- A mark is a bit.
use Rattle.std.proofs.Common.{◌∙◌}
use Rattle.flags.proofs.Bits.{test_bit}
use Rattle.flags_meetings.proofs.MeetingsFromMarkSet.from.Goals as goal

pub returns : goal.returns
returns c =
    let m = c.args.marks.0 in
    λ i. record {
      bound_outside = (c.has.ensures ∙ test_bit m 0) i;
      bound_inside = (c.has-2.ensures ∙ test_bit m 1) i;
      bound_on = (c.has-3.ensures ∙ test_bit m 2) i;
      bound_bound = (c.has-4.ensures ∙ test_bit m 3) i;
      bound_inner = (c.has-5.ensures ∙ test_bit m 4) i;
      inner_bound = (c.has-6.ensures ∙ test_bit m 5) i;
      inner_inner = (c.has-7.ensures ∙ test_bit m 6) i;
      bound_of_g = (c.has-8.ensures ∙ test_bit m 7) i;
    }
