-- i points of F and j elements of G have been taken and noted.
use Rattle.std.proofs.Common.{◌≤◌}
use Rattle.sweep_laws.proofs.PointRun.{Passed}
use Rattle.sweep.proofs.Turn.{SoFar}
use Rattle.sweep.proofs.points.run_points.Given as goal

abbrev pub invariant-loop-j : goal.invariant-loop-j
invariant-loop-j l = record {
  within_f : l.i ≤ l.ordered.read.scene.f.count;
  so_far : SoFar l.ordered.read.bytes.now l.ordered.read.scene 0 l.j l.status l.notes;
  passed : Passed l.ordered.read.bytes.now l.ordered.read.scene l.i l.j l.status l.notes;
}
