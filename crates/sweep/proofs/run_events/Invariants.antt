-- Each cursor stands past the elements of its object that have been taken and noted, which are as many as the turns.
use Rattle.std.proofs.Common.{◌≡◌, ◌+◌, true, false}
use Rattle.sweep.specs.Walk.{Walks}
use Rattle.sweep.proofs.Turn.{SoFar}
use Rattle.sweep.proofs.run_events.Given as goal

abbrev pub invariant-loop : goal.invariant-loop
invariant-loop l = record {
  of_f : Walks l.ordered.read.bytes.now l.ordered.read.scene true l.f;
  of_g : Walks l.ordered.read.bytes.now l.ordered.read.scene false l.g;
  turns : l.f.index + l.g.index ≡ l.counter;
  so_far : SoFar l.ordered.read.bytes.now l.ordered.read.scene l.f.index l.g.index l.status l.notes;
}
