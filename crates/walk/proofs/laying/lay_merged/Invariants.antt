-- So many events of the point are laid, and more are where both objects have elements left.
use Rattle.std.proofs.Common.{◌+◌, ◌-◌, ◌≤◌}
use Rattle.walk.specs.Laying.{Between, Lays}
use Rattle.walk.proofs.laying.lay_merged.Given as goal

abbrev pub invariant-loop-at : goal.invariant-loop-at
invariant-loop-at l = record {
  between : Between l.fn.from l.at l.fn.to;
  few : l.at.events ≤ l.at.i + l.at.j;
  lays : Lays l.fn.noted.bytes.now l.fn.noted.scene l.fn.noted.notes.now l.fn.from l.fn.ground l.at l.ground;
}

abbrev pub decreases-loop-at : goal.decreases-loop-at
decreases-loop-at l = l.to.i + l.to.j - (l.at.i + l.at.j)
