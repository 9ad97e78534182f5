-- The half comes before the one at high.
use Rattle.std.proofs.Common.{◌≤◌}
use Rattle.scene_writing.specs.Settled.{Between}
use Rattle.scene_writing.specs.Named.{earlier_in, no_half}
use Rattle.scene_writing.proofs.order.search.Given as goal

abbrev pub invariant-loop-step : goal.invariant-loop-step
invariant-loop-step l = record {
  passed : Between (earlier_in l.row.ends.now) no_half l.h l.order 0 l.high;
  some : 1 ≤ l.step;
}

abbrev pub decreases-loop-step : goal.decreases-loop-step
decreases-loop-step l = l.high
