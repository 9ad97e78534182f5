-- What the elements from i on make of the box so far is the whole box.
use Rattle.std.proofs.Common.{◌≡◌, ◌-◌}
use Rattle.summary.specs.Summary.{grow}
use Rattle.summary_making.specs.Making.{corners_from, widest}
use Rattle.summary_making.proofs.bounds.bounds_of.Given as goal

abbrev pub invariant-loop-i : goal.invariant-loop-i
invariant-loop-i l = grow l.b (corners_from l.o.bytes.now l.o.layout (l.o.layout.count - l.i) l.i) ≡ grow widest (corners_from l.o.bytes.now l.o.layout l.o.layout.count 0)
