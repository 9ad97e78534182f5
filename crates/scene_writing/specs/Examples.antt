-- Halves that sink, computed: a triangle, two segments of which neither comes before the other, and one segment twice.
use Rattle.std.specs.Prelude.{ℕ, ◌≡◌, refl, Bool, true, false, List, [], ◌∷◌, map, pos}
use Rattle.whole.specs.Count.{odd}
use Rattle.plane.specs.declared.Segment.{Segment}
use Rattle.plane.specs.declared.Halfsegment.{Halfsegment}
use Rattle.plane.specs.Plane.{before, is_same_point, side, dominating, far_end, comes_before, counts_below, counts_below_left, side_at, interior_above}
use Rattle.scene.specs.declared.Shape.TheVariants.{Line, Region}
use Rattle.scene_written.specs.Arranged.{line_items, region_items}
use Rattle.scene_writing.specs.Settled.{settled_items}

abbrev from : ℕ → ℕ → ℕ → ℕ → Segment
from x y u v = record { left = record { x = pos x; y = pos y }; right = record { x = pos u; y = pos v } }

abbrev half : Bool → Segment → Halfsegment
half d t = record { segment = t; is_left = d }

abbrev triangle : List Segment
triangle = from 1 1 2 0 ∷ from 0 0 1 1 ∷ from 0 0 2 0 ∷ []

-- given in another order than 01's: the same elements as by insertion
triangle_line : settled_items Line triangle [] ≡ line_items triangle
unfolding settled_items line_items comes_before dominating far_end before is_same_point side
triangle_line = refl

triangle_region : settled_items Region triangle (map (interior_above triangle) triangle) ≡ region_items triangle
unfolding settled_items region_items line_items comes_before dominating far_end before is_same_point side interior_above counts_below counts_below_left side_at odd
triangle_region = refl

-- (0,0)-(2,2) and (0,0)-(4,4): of their left halves neither comes first, and both are kept
along : settled_items Line (from 0 0 2 2 ∷ from 0 0 4 4 ∷ []) []
    ≡ half true (from 0 0 2 2) ∷ half true (from 0 0 4 4) ∷ half false (from 0 0 2 2) ∷ half false (from 0 0 4 4) ∷ []
unfolding settled_items comes_before dominating far_end before is_same_point side
along = refl

-- one segment twice, with either ia: four elements
twice : settled_items Region (from 0 0 1 0 ∷ from 0 0 1 0 ∷ []) (true ∷ false ∷ [])
    ≡ record { half = half true (from 0 0 1 0); ia = true } ∷ record { half = half true (from 0 0 1 0); ia = false }
    ∷ record { half = half false (from 0 0 1 0); ia = true } ∷ record { half = half false (from 0 0 1 0); ia = false } ∷ []
unfolding settled_items comes_before dominating far_end before is_same_point side
twice = refl
