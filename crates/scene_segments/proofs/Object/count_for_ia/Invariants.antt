-- So many count of the elements before i, none of which stops the search, and the answer is more by those of the rest that do.
use Rattle.std.proofs.Common.{◌≡◌, ◌+◌, ◌≤◌}
use Rattle.scene_segments.specs.Walked.{beyond, is_below, count_until, count_below}
use Rattle.scene_segments.proofs.Walk.{between, left_passes}
use Rattle.scene_segments.proofs.Object.count_for_ia.Given as goal

abbrev pub invariant-loop-i : goal.invariant-loop-i
invariant-loop-i l =
    record {
      few : l.n ≤ l.i;
      rest : count_below l.self.bytes.now l.self.layout l.t ≡ l.n + count_until (left_passes l.self.bytes.now l.self.layout (beyond l.t)) (left_passes l.self.bytes.now l.self.layout (is_below l.t)) (between l.i l.self.layout.count);
    }
