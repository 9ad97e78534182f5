-- A place is still from low to high. The measure is the number of entries in question.
use Rattle.std.proofs.Common.{◌-◌}
use Rattle.sweep_laws.specs.Event.{Bracket}
use Rattle.sweep_status.proofs.place.Entries.search.Given as goal

abbrev pub invariant-loop-low : goal.invariant-loop-low
invariant-loop-low l = Bracket l.self.bytes.now l.self.offsets.now l.p l.low l.high

abbrev pub decreases-loop-low : goal.decreases-loop-low
decreases-loop-low l = l.high - l.low
