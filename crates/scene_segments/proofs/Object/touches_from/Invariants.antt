-- No element before i stops the search or is met, so the answer is that of the rest.
use Rattle.std.proofs.Common.{◌≡◌}
use Rattle.plane.specs.Plane.{touch}
use Rattle.scene_segments.specs.Walked.{beyond, some_until, touches_from}
use Rattle.scene_segments.proofs.Walk.{between, left_passes}
use Rattle.scene_segments.proofs.Object.touches_from.Given as goal

abbrev pub invariant-loop-i : goal.invariant-loop-i
invariant-loop-i l =
    touches_from l.self.bytes.now l.self.layout l.t l.k ≡ some_until (left_passes l.self.bytes.now l.self.layout (beyond l.t)) (left_passes l.self.bytes.now l.self.layout (touch l.t)) (between l.i l.self.layout.count)
