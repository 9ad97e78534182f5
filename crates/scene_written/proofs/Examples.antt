-- Objects written out: one segment, two that meet, a triangle with its ia, and a number below zero.
use Rattle.std.specs.Prelude.{ℕ, ◌≡◌, refl, [], ◌∷◌, ◌++◌, length, pos, negsuc}
use Rattle.plane.specs.declared.Point.{Point}
use Rattle.plane.specs.declared.Segment.{Segment}
use Rattle.plane.specs.Plane.{before, is_same_point, side, dominating, far_end, comes_before, counts_below, counts_below_left, side_at, interior_above, points, line, region}
use Rattle.whole.specs.Count.{odd}
use Rattle.scene_written.specs.Bytes.{digit, record_bytes}
use Rattle.scene_written.specs.Arranged.{point_items, line_items, region_items, object_bytes}

abbrev at : ℕ → ℕ → Point
at x y = record { x = pos x; y = pos y }

abbrev from : Point → Point → Segment
from p q = record { left = p; right = q }

-- "84 type", kind, four bytes for each coordinate, d, "69 end"; the left halfsegment first
one_segment : object_bytes (line (from (at 0 2) (at 4 2) ∷ []))
    ≡ 84 ∷ 2
    ∷ 76 ∷ 0 ∷ 0 ∷ 0 ∷ 0 ∷ 2 ∷ 0 ∷ 0 ∷ 0 ∷ 4 ∷ 0 ∷ 0 ∷ 0 ∷ 2 ∷ 0 ∷ 0 ∷ 0 ∷ 1
    ∷ 76 ∷ 0 ∷ 0 ∷ 0 ∷ 0 ∷ 2 ∷ 0 ∷ 0 ∷ 0 ∷ 4 ∷ 0 ∷ 0 ∷ 0 ∷ 2 ∷ 0 ∷ 0 ∷ 0 ∷ 0
    ∷ 69 ∷ []
unfolding record_bytes digit line_items comes_before dominating far_end before is_same_point side
one_segment = refl

-- -1 is 255 255 255 255, and 1,000,000 is 64 66 15 0; of equal points one is written
two_points : object_bytes (points (at 1000000 0 ∷ record { x = negsuc 0; y = negsuc 999999 } ∷ at 1000000 0 ∷ []))
    ≡ 84 ∷ 1 ∷ 80 ∷ 255 ∷ 255 ∷ 255 ∷ 255 ∷ 192 ∷ 189 ∷ 240 ∷ 255 ∷ 80 ∷ 64 ∷ 66 ∷ 15 ∷ 0 ∷ 0 ∷ 0 ∷ 0 ∷ 0 ∷ 69 ∷ []
unfolding record_bytes digit point_items before
two_points = refl

-- (0,2)-(4,2) and (2,0)-(2,4), each as two segments that meet at (2,2): 150 bytes
split_crossing : length (object_bytes (line (from (at 0 2) (at 2 2) ∷ from (at 2 2) (at 4 2) ∷ [])) ++ object_bytes (line (from (at 2 0) (at 2 2) ∷ from (at 2 2) (at 2 4) ∷ []))) ≡ 150
unfolding record_bytes digit line_items comes_before dominating far_end before is_same_point side
split_crossing = refl

-- a triangle: its bottom has the interior above, the upper sides have not
triangle : object_bytes (region (from (at 0 0) (at 2 0) ∷ from (at 0 0) (at 1 1) ∷ from (at 1 1) (at 2 0) ∷ []))
    ≡ 84 ∷ 3
    ∷ 82 ∷ 0 ∷ 0 ∷ 0 ∷ 0 ∷ 0 ∷ 0 ∷ 0 ∷ 0 ∷ 2 ∷ 0 ∷ 0 ∷ 0 ∷ 0 ∷ 0 ∷ 0 ∷ 0 ∷ 1 ∷ 1
    ∷ 82 ∷ 0 ∷ 0 ∷ 0 ∷ 0 ∷ 0 ∷ 0 ∷ 0 ∷ 0 ∷ 1 ∷ 0 ∷ 0 ∷ 0 ∷ 1 ∷ 0 ∷ 0 ∷ 0 ∷ 1 ∷ 0
    ∷ 82 ∷ 0 ∷ 0 ∷ 0 ∷ 0 ∷ 0 ∷ 0 ∷ 0 ∷ 0 ∷ 1 ∷ 0 ∷ 0 ∷ 0 ∷ 1 ∷ 0 ∷ 0 ∷ 0 ∷ 0 ∷ 0
    ∷ 82 ∷ 1 ∷ 0 ∷ 0 ∷ 0 ∷ 1 ∷ 0 ∷ 0 ∷ 0 ∷ 2 ∷ 0 ∷ 0 ∷ 0 ∷ 0 ∷ 0 ∷ 0 ∷ 0 ∷ 1 ∷ 0
    ∷ 82 ∷ 1 ∷ 0 ∷ 0 ∷ 0 ∷ 1 ∷ 0 ∷ 0 ∷ 0 ∷ 2 ∷ 0 ∷ 0 ∷ 0 ∷ 0 ∷ 0 ∷ 0 ∷ 0 ∷ 0 ∷ 0
    ∷ 82 ∷ 0 ∷ 0 ∷ 0 ∷ 0 ∷ 0 ∷ 0 ∷ 0 ∷ 0 ∷ 2 ∷ 0 ∷ 0 ∷ 0 ∷ 0 ∷ 0 ∷ 0 ∷ 0 ∷ 0 ∷ 1
    ∷ 69 ∷ []
unfolding record_bytes digit line_items region_items comes_before dominating far_end before is_same_point side interior_above counts_below counts_below_left side_at odd
triangle = refl
