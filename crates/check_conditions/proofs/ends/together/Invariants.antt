-- So many stand together so far, and the answer is more by those of the rest.
use Rattle.std.proofs.Common.{◌≡◌, ◌+◌, ◌≤◌, not}
use Rattle.plane.specs.Plane.{dominating}
use Rattle.scene.specs.Conditions.{half}
use Rattle.scene_segments.specs.Walked.{count_until}
use Rattle.scene_segments.proofs.Walk.{between}
use Rattle.check_conditions.specs.Odd.{stands_at, together}
use Rattle.check_conditions.proofs.ends.together.Given as goal

abbrev pub invariant-loop-j : goal.invariant-loop-j
invariant-loop-j l =
    let s = l.o.bytes.now in
    let o = l.o.layout in
    let p = dominating (half s o l.i) in
    record {
      few : l.n ≤ l.j;
      all : together s o l.i ≡ l.n + count_until (λ k. not (stands_at s o p k)) (stands_at s o p) (between l.j o.count);
    }
