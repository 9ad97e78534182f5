-- The tests by which the sweep orders segments, from low to high, where they begin and where they end. All are signs of side values.
use Rattle.std.specs.Prelude.{Bool, ◌&&◌, ◌||◌, pos}
use Rattle.std.specs.Int.Signed.{lt_z}
use Rattle.plane.specs.declared.Point.{Point}
use Rattle.plane.specs.declared.Segment.{Segment}
use Rattle.plane.specs.Plane.{side, is_same_point, counts_below, grid}

-- p is strictly above the line of s, or strictly below it; left and right of it where s is vertical
abbrev pub passes_under : Segment → Point → Bool
passes_under s p = lt_z (pos 0) (side s.left s.right p)

abbrev pub passes_over : Segment → Point → Bool
passes_over s p = lt_z (side s.left s.right p) (pos 0)

-- s is the lower of the two where the later one begins; with a common left end, s turns left into t
abbrev pub lower_at_left : Segment → Segment → Bool
lower_at_left s t =
    passes_under s t.left || passes_over t s.left || (is_same_point s.left t.left && passes_under s t.right)

-- s is the lower of the two where the earlier one ends, or they end together
abbrev pub lower_at_right : Segment → Segment → Bool
lower_at_right s t = passes_under s t.right || passes_over t s.right || is_same_point s.right t.right

-- t passes strictly under the left end of s, or begins there and turns left into s
abbrev pub under : Segment → Segment → Bool
under s t = counts_below (grid s.left) t || (is_same_point t.left s.left && passes_under t s.right)
