-- Examples of the definitions in Plane.antt, each computed by the checker: a triangle, points about a segment, pairs of segments, halfsegments.
use Rattle.std.specs.Prelude.{◌≡◌, refl, Bool, true, false, List, [], ◌∷◌, map, ℤ, pos, negsuc}
use Rattle.whole.specs.Count.{odd, count}
use Rattle.plane.specs.declared.Point.{Point}
use Rattle.plane.specs.declared.Segment.{Segment}
use Rattle.plane.specs.declared.Halfsegment.{Halfsegment}
use Rattle.plane.specs.declared.Turn.TheVariants.{Left, Straight, Right}
use Rattle.plane.specs.Plane.{within, in_range, before, is_same_point, is_same_segment, side, turn, dominating, far_end, comes_before}
use Rattle.plane.specs.Plane.{HPoint, grid, midpoint, halved, side_at, is_at, is_not_before, is_not_after, on, is_end, counts_below, counts_below_left}
use Rattle.plane.specs.Plane.{is_on_some, inside, interior_above, is_boundary, ends_at, Object, opposite, cross, end_within, touch}
use Rattle.plane.specs.Plane.{in_boundary, in_interior}

abbrev at : ℤ → ℤ → Point
at x y = record { x = x; y = y }

abbrev from : Point → Point → Segment
from p q = record { left = p; right = q }

in_range_lem : map in_range (at (negsuc 9999999) (pos 10000000) ∷ at (negsuc 10000000) (pos 0) ∷ at (pos 0) (pos 10000001) ∷ []) ≡ (true ∷ false ∷ false ∷ [])
unfolding within
in_range_lem = refl

-- ---- the triangle (0,0), (4,0), (0,3)
abbrev bottom : Segment
bottom = from (at (pos 0) (pos 0)) (at (pos 4) (pos 0))

abbrev upright : Segment
upright = from (at (pos 0) (pos 0)) (at (pos 0) (pos 3))

abbrev slope : Segment
slope = from (at (pos 0) (pos 3)) (at (pos 4) (pos 0))

abbrev triangle : List Segment
triangle = bottom ∷ upright ∷ slope ∷ []

-- a point inside it, that point halved, one above it, one to its left, one below it
abbrev about : List HPoint
about =
    grid (at (pos 1) (pos 1)) ∷ halved (at (pos 1) (pos 1)) ∷ grid (at (pos 1) (pos 5)) ∷ grid (at (negsuc 0) (pos 1)) ∷ grid (at (pos 1) (negsuc 0)) ∷ []

counted : map (λ (p : HPoint). count (counts_below p) triangle) about ≡ (1 ∷ 1 ∷ 2 ∷ 0 ∷ 0 ∷ [])
unfolding counts_below side_at
counted = refl

are_inside : map (inside triangle) about ≡ (true ∷ true ∷ false ∷ false ∷ false ∷ [])
unfolding inside is_on_some odd counts_below on is_not_before is_not_after side_at
are_inside = refl

-- a point on a side is not inside, though one side counts below it
on_a_side : inside triangle (midpoint slope) ≡ false
unfolding inside is_on_some on is_not_before is_not_after side_at
on_a_side = refl

-- a vertical side counts below no point, on either side of it
never_below : (counts_below (grid (at (pos 0) (pos 9))) upright ≡ false) × (counts_below_left (grid (at (pos 0) (pos 9))) upright ≡ false)
unfolding counts_below counts_below_left side_at
never_below = (refl, refl)

-- no side counts below a point above the right corner, and two count below the points just left of it
above_the_corner : (count (counts_below (grid (at (pos 4) (pos 9)))) triangle ≡ 0) × (count (counts_below_left (grid (at (pos 4) (pos 9)))) triangle ≡ 2)
unfolding counts_below counts_below_left side_at
above_the_corner = (refl, refl)

-- the interior is above the bottom, below the slope and to the right of the upright side
interior_above_lem : map (interior_above triangle) triangle ≡ (true ∷ false ∷ false ∷ [])
unfolding interior_above odd counts_below counts_below_left side_at
interior_above_lem = refl

-- ---- three segments from the hub (0,0), two of them sides of the triangle: how many end at the hub, at their far ends and at a point inside one
abbrev spokes : List Segment
spokes = bottom ∷ upright ∷ from (at (negsuc 2) (negsuc 0)) (at (pos 0) (pos 0)) ∷ []

abbrev along_spokes : List HPoint
along_spokes = map grid (at (pos 0) (pos 0) ∷ at (pos 4) (pos 0) ∷ at (pos 0) (pos 3) ∷ at (negsuc 2) (negsuc 0) ∷ at (pos 1) (pos 0) ∷ [])

ends_of_spokes : map (ends_at spokes) along_spokes ≡ (3 ∷ 1 ∷ 1 ∷ 1 ∷ 0 ∷ [])
unfolding ends_at is_end is_at
ends_of_spokes = refl

-- the rule, on 0 to 5 ends
odd_ends : map is_boundary (0 ∷ 1 ∷ 2 ∷ 3 ∷ 4 ∷ 5 ∷ []) ≡ (false ∷ true ∷ false ∷ true ∷ false ∷ true ∷ [])
unfolding is_boundary odd
odd_ends = refl

-- the hub is a boundary point; the triangle, with two sides to each corner, has none
bound_of_spokes : map (in_boundary (Object.line spokes)) along_spokes ≡ (true ∷ true ∷ true ∷ true ∷ false ∷ [])
unfolding in_boundary is_boundary odd ends_at is_end is_at
bound_of_spokes = refl

closed : map (in_interior (Object.line triangle)) (grid (at (pos 0) (pos 0)) ∷ grid (at (pos 4) (pos 0)) ∷ grid (at (pos 0) (pos 3)) ∷ []) ≡ (true ∷ true ∷ true ∷ [])
unfolding in_interior is_on_some on is_not_before is_not_after side_at is_boundary odd ends_at is_end is_at
closed = refl

-- ---- points about a segment as long as can be: its ends, its middle, a point of its line beyond it, and one just off it
abbrev long : Segment
long = from (at (negsuc 9999999) (negsuc 9999999)) (at (pos 10000000) (pos 9999998))

on_long :
    map (on long) (grid long.left ∷ grid long.right ∷ midpoint long ∷ grid (at (pos 30000000) (pos 29999996)) ∷ grid (at (pos 0) (pos 0)) ∷ [])
    ≡ (true ∷ true ∷ true ∷ false ∷ false ∷ [])
unfolding on is_not_before is_not_after side_at
on_long = refl

ends_of_long : map (is_end long) (grid long.left ∷ grid long.right ∷ midpoint long ∷ []) ≡ (true ∷ true ∷ false ∷ [])
unfolding is_end is_at
ends_of_long = refl

turns :
    map (turn long.left long.right) (at (pos 0) (pos 0) ∷ at (pos 0) (negsuc 0) ∷ at (pos 0) (negsuc 1) ∷ [])
    ≡ (Left ∷ Straight ∷ Right ∷ [])
unfolding turn side
turns = refl

-- ---- pairs of segments, one of them the bottom: the same, apart, meeting at an end, crossing, an end inside, overlapping, overlapping from a
-- common end
touching :
    map (touch bottom)
    (bottom
    ∷ from (at (pos 0) (pos 1)) (at (pos 4) (pos 1))
    ∷ from (at (pos 4) (pos 0)) (at (pos 4) (pos 3))
    ∷ from (at (pos 1) (negsuc 0)) (at (pos 2) (pos 1))
    ∷ from (at (pos 2) (pos 0)) (at (pos 2) (pos 3))
    ∷ from (at (pos 2) (pos 0)) (at (pos 6) (pos 0))
    ∷ from (at (pos 0) (pos 0)) (at (pos 2) (pos 0))
    ∷ [])
    ≡ (false ∷ false ∷ false ∷ true ∷ true ∷ true ∷ true ∷ [])
unfolding touch is_same_segment is_same_point cross opposite side end_within on is_end is_at is_not_before is_not_after side_at
touching = refl

-- ---- halfsegments before the bottom's right one, at (4,0): the slope's right one, to the left of which the bottom lies; no left one there; the
-- bottom's own left one, at (0,0)
abbrev half : Segment → Bool → Halfsegment
half s b = record { segment = s; is_left = b }

order_at_the_corner :
    map (λ (h : Halfsegment). comes_before h (half bottom false))
    (half slope false ∷ half (from (at (pos 4) (pos 0)) (at (pos 5) (pos 0))) true ∷ half bottom true ∷ [])
    ≡ (true ∷ false ∷ true ∷ [])
unfolding comes_before before is_same_point dominating far_end side
order_at_the_corner = refl
