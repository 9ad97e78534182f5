-- Points and segments as rows of keys.
use Rattle.std.specs.Prelude.{ℕ, List, map}
use Rattle.whole.specs.Count.{◌∈◌}
use Rattle.plane.specs.declared.Point.{Point}
use Rattle.plane.specs.declared.Segment.{Segment}
use Rattle.scene_keys.specs.declared.Ends.{Ends}
use Rattle.scene_keys.specs.Keyed.{IsKey, GoodEnds, keyed_point, keyed_segment}

-- each number is the key of a point in range
abbrev pub AreKeys : List ℕ → Type 0
AreKeys row = (k : ℕ) → k ∈ row → IsKey k

abbrev pub points_in : List ℕ → List Point
points_in row = map keyed_point row

-- each pair has the keys of a segment's ends
abbrev pub AreGood : List Ends → Type 0
AreGood row = (e : Ends) → e ∈ row → GoodEnds e

abbrev pub segments_in : List Ends → List Segment
segments_in row = map keyed_segment row
