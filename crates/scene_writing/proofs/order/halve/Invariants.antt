-- A place is still from low to high. The measure is the number of halves in question.
use Rattle.std.proofs.Common.{◌-◌}
use Rattle.scene_writing.specs.Settled.{Between}
use Rattle.scene_writing.specs.Named.{earlier_in, no_half}
use Rattle.scene_writing.proofs.order.halve.Given as goal

abbrev pub invariant-loop-low : goal.invariant-loop-low
invariant-loop-low l = Between (earlier_in l.row.ends.now) no_half l.h l.order l.low l.high

abbrev pub decreases-loop-low : goal.decreases-loop-low
decreases-loop-low l = l.high - l.low
