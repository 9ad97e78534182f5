-- The points from i to k have been noted.
use Rattle.std.proofs.Common.{◌≤◌}
use Rattle.sweep_laws.specs.Located.{PointsTaken}
use Rattle.sweep.proofs.points.note_points.Given as goal

abbrev pub invariant-loop-k : goal.invariant-loop-k
invariant-loop-k l = (l.k ≤ l.read.scene.f.count) × PointsTaken l.read.bytes.now l.read.scene l.j l.status l.i l.k l.initial.notes l.notes
