-- All that count are those counted and those that count from here on.
use Rattle.std.proofs.Common.{◌≡◌, ◌+◌, ◌≤◌, map, drop}
use Rattle.whole.specs.Count.{count}
use Rattle.scene_segments.specs.Walked.{is_below}
use Rattle.scene_keys.specs.Keyed.{keyed_segment}
use Rattle.wkb_interiors.proofs.Middle.count.Given as goal

abbrev pub invariant-loop-ends : goal.invariant-loop-ends
invariant-loop-ends l =
    record {
      few : l.n ≤ l.ends-index;
      rest : count (is_below l.self.segment) (map keyed_segment l.row.ends.now) ≡ l.n + count (is_below l.self.segment) (map keyed_segment (drop l.ends-index l.row.ends.now));
    }
