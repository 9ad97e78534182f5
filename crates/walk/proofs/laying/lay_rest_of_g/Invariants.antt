-- So many events of G are laid.
use Rattle.std.proofs.Common.{◌≡◌, ◌+◌, ◌-◌, ◌≤◌}
use Rattle.walk.specs.Laying.{Lays}
use Rattle.walk.proofs.laying.lay_rest_of_g.Given as goal

abbrev pub invariant-loop-at : goal.invariant-loop-at
invariant-loop-at l = record {
  on : l.fn.from.j ≤ l.at.j;
  upto : l.at.j ≤ l.fn.to;
  stays : l.at.i ≡ l.fn.from.i;
  few : l.at.events ≤ l.at.i + l.at.j;
  lays : Lays l.fn.noted.bytes.now l.fn.noted.scene l.fn.noted.notes.now l.fn.from l.fn.ground l.at l.ground;
}

abbrev pub decreases-loop-at : goal.decreases-loop-at
decreases-loop-at l = l.to - l.at.j
