-- What the loop of `meetings_of` keeps: both cursors are in their objects, at the elements that are left, and the marks so far are those of the elements that
-- are passed. The measure is the number of elements that are left.
use Rattle.std.proofs.Common.{◌≡◌, ◌+◌, ◌-◌}
use Rattle.flags_meetings.proofs.Walking.{Walking}
use Rattle.flags_meetings.proofs.meetings_of.Given as goal

abbrev pub invariant-loop-k : goal.invariant-loop-k
invariant-loop-k l = record {
  bytes_f : l.c.object.bytes.now ≡ l.pair.bytes.now;
  layout_f : l.c.object.layout ≡ l.pair.own;
  bytes_g : l.d.object.bytes.now ≡ l.pair.bytes.now;
  layout_g : l.d.object.layout ≡ l.pair.other;
  walking : Walking l.pair.bytes.now (record { f = l.pair.own; g = l.pair.other }) l.notes l.c.index l.d.index l.k l.sofar.0;
}

abbrev pub decreases-loop-k : goal.decreases-loop-k
decreases-loop-k l = l.pair.own.count + l.pair.other.count - (l.c.index + l.d.index)
