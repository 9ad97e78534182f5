-- So many pass of the elements before i, and the answer is more by those of the rest that do.
use Rattle.std.proofs.Common.{◌≡◌, ◌+◌, ◌≤◌, Bool}
use Rattle.whole.specs.Count.{count}
use Rattle.plane.specs.declared.Segment.{Segment}
use Rattle.scene.specs.Conditions.{segments}
use Rattle.scene_segments.specs.Walked.{Tests}
use Rattle.scene_segments.proofs.Walk.{between, left_passes}
use Rattle.scene_segments.proofs.Object.count.Given as goal

abbrev pub invariant-loop-i : goal.invariant-loop-i
invariant-loop-i g l =
    record {
      few : l.n ≤ l.i;
      rest : (passes : Segment → Bool) → Tests (λ t r. g.F.Fn.post l.test (t, tt) r) passes
          → count passes (segments l.self.bytes.now l.self.layout) ≡ l.n + count (left_passes l.self.bytes.now l.self.layout passes) (between l.i l.self.layout.count);
    }
