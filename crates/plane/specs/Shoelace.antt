-- Terms of shoelace sums. All areas here are doubled, as such a sum has them.
use Rattle.std.specs.Prelude.{Bool, not, List, ℤ, pos, ◌-ℤ◌, ◌*ℤ◌}
use Rattle.whole.specs.Count.{bit, total}
use Rattle.plane.specs.declared.Segment.{Segment}
use Rattle.plane.specs.Plane.{interior_above}

-- a segment's term in a shoelace sum, from its left to its right end
unfoldable pub shoelace : Segment → ℤ
shoelace t = t.left.x *ℤ t.right.y -ℤ t.right.x *ℤ t.left.y

-- it is added for what adjoins the segment above (left, if vertical), and taken away for what adjoins it below (right): a segment that has the part on both
-- sides, or on neither, does not bound it and counts for nothing
unfoldable pub weighed : Bool → Bool → ℤ → ℤ
weighed above below v = (pos (bit above) -ℤ pos (bit below)) *ℤ v

-- "twice each region's area by the shoelace sum" (02, Paper 3), from the region's segments
unfoldable pub twice_area : List Segment → ℤ
twice_area l = total (λ (t : Segment). weighed (interior_above l t) (not (interior_above l t)) (shoelace t)) l
