-- Pairs of objects split, copied and refused; and that what is split is an accepted scene, to which splitting adds nothing.
use Rattle.std.specs.Prelude.{ℕ, ◌-◌, ◌≡◌, refl, List, [], ◌∷◌, ◌++◌, ℤ, pos, neg_ℤ, Ok, Err}
use Rattle.whole.specs.Count.{odd}
use Rattle.plane.specs.declared.Point.{Point}
use Rattle.plane.specs.declared.Segment.{Segment}
use Rattle.plane.specs.Plane.{limit, within, before, is_same_point, is_same_segment, ordered, side, dominating, far_end, comes_before, side_at, is_at, is_not_before, is_not_after, on, is_end, counts_below, counts_below_left, interior_above, ends_at, opposite, cross, end_within, touch, points, line, region}
use Rattle.scene.specs.Read.{CheckedScene, Values, scene_values, signed, coordinate, kind_of, shape_of, record_at, elements_from, read_object, read_scene}
use Rattle.scene.specs.Conditions.{segments, object, is_in_order, out_of_order, partner, unpaired, touching, touching_itself, odd_end, wrong_ia, check_scene_by, check_scene}
use Rattle.scene_written.specs.Bytes.{digit, record_bytes}
use Rattle.scene_written.specs.Arranged.{point_items, line_items, region_items, object_bytes}
use Rattle.split_crossing.specs.Crossing.{steps_from, moved, part, placed_on, crossing_of}
use Rattle.split_crossing.specs.Cuts.{cuts_by}
use Rattle.split_cuts.specs.Split.{off_grid}
use Rattle.split.specs.Split.{split_object, split_bytes, check_split, SplitValues, split_values, answer}

abbrev at : ℕ → ℕ → Point
at x y = record { x = pos x; y = pos y }

abbrev way : ℕ → ℕ → ℕ → ℕ → Segment
way a b c d = record { left = at a b; right = at c d }

abbrev lines : List Segment → List Segment → List ℕ
lines l m = object_bytes (line l) ++ object_bytes (line m)

abbrev regions : List Segment → List Segment → List ℕ
regions l m = object_bytes (region l) ++ object_bytes (region m)

-- the outline of a box: x from a to c, y from b to d
abbrev box : ℕ → ℕ → ℕ → ℕ → List Segment
box a b c d = way a b c b ∷ way a b a d ∷ way a d c d ∷ way c b c d ∷ []

-- ---- scenes

abbrev crossed : List ℕ
crossed = lines (way 0 2 4 2 ∷ []) (way 2 0 2 4 ∷ [])

abbrev squares : List ℕ
squares = regions (box 0 0 4 4) (box 2 2 6 6)

-- a square with a hole, and a box across it
abbrev ring : List ℕ
ring = regions (box 2 0 14 12 ++ box 6 4 10 8) (box 0 5 16 7)

-- a stretch, a crossing and a touch in one segment
abbrev row : List ℕ
row = lines (way 0 2 12 2 ∷ []) (way 1 2 3 2 ∷ way 5 0 5 4 ∷ way 8 2 8 5 ∷ [])

-- one crossing on the grid and one off it; and one off it whose record stands behind a right halfsegment
abbrev off : List ℕ
off = lines (way 0 0 6 2 ∷ []) (way 3 0 3 2 ∷ way 2 0 2 2 ∷ [])

abbrev behind : List ℕ
behind = lines (way 0 0 1 0 ∷ way 2 0 5 1 ∷ []) (way 2 1 5 0 ∷ [])

-- a region first and a line second
abbrev mixed : List ℕ
mixed = object_bytes (region (box 1 0 5 4)) ++ object_bytes (line (way 0 2 7 2 ∷ []))

abbrev mixed_off : List ℕ
mixed_off = object_bytes (region (box 1 0 5 4)) ++ object_bytes (line (way 0 0 2 1 ∷ []))

-- points and a line: 15's question never comes up
abbrev dotted : List ℕ
dotted = object_bytes (points (at 1 1 ∷ at 2 2 ∷ [])) ++ object_bytes (line (way 0 2 4 2 ∷ []))

-- from corner to corner of the range, and down again: on the grid, and off it by one
abbrev corner : ℤ → ℤ → Point
corner x y = record { x = x; y = y }

abbrev m : ℤ
m = pos limit

abbrev less : ℕ → ℤ
less n = pos (limit - n)

abbrev diagonals : List ℕ
diagonals = lines (record { left = corner (neg_ℤ m) (neg_ℤ m); right = corner m m } ∷ []) (record { left = corner (neg_ℤ m) (less 2); right = corner (less 2) (neg_ℤ m) } ∷ [])

abbrev diagonals_off : List ℕ
diagonals_off = lines (record { left = corner (neg_ℤ m) (neg_ℤ m); right = corner m m } ∷ []) (record { left = corner (neg_ℤ m) m; right = corner m (neg_ℤ (less 1)) } ∷ [])

-- a line that touches itself is 12's, a lone end of a region 13's, and bytes that end too soon are 1's
abbrev tangled : List ℕ
tangled = lines (way 0 0 4 0 ∷ way 2 0 2 3 ∷ []) (way 5 0 5 3 ∷ [])

-- ---- answers

abbrev gave : ℕ → ℕ → ℕ → ℕ → ℕ → SplitValues
gave n p f g l = record { number = n; place = p; added_f = f; added_g = g; length = l }

abbrev split : List ℕ → ℕ → SplitValues
split s room = split_values (answer s (check_split s room))

pub record Example : Type 0 where
  pub scene : List ℕ
  pub room : ℕ
  pub answer : SplitValues

infix 30 ◌with◌gives◌
◌with◌gives◌ : List ℕ → ℕ → SplitValues → Example
s with n gives a = record { scene = s; room = n; answer = a }

pub examples : List Example
unfolding ◌with◌gives◌
examples =
    (crossed with 150 gives gave 0 0 1 1 150)
    ∷ (crossed with 149 gives gave 21 0 0 0 0)
    ∷ (squares with 462 gives gave 0 0 2 2 462)
    ∷ (ring with 1070 gives gave 0 0 8 8 1070)
    ∷ (row with 330 gives gave 0 0 4 1 330)
    ∷ (off with 1000 gives gave 19 2 0 0 0)
    ∷ (behind with 1000 gives gave 19 38 0 0 0)
    ∷ (mixed with 1000 gives gave 0 0 2 2 342)
    ∷ (mixed_off with 1000 gives gave 19 21 0 0 0)
    ∷ (dotted with 60 gives gave 0 0 0 0 60)
    ∷ (dotted with 59 gives gave 21 0 0 0 0)
    ∷ (diagonals with 150 gives gave 0 0 1 1 150)
    ∷ (diagonals_off with 150 gives gave 19 2 0 0 0)
    ∷ (tangled with 1000 gives gave 12 2 0 0 0)
    ∷ ((84 ∷ 2 ∷ []) with 1000 gives gave 1 2 0 0 0)
    ∷ []

abbrev each : List Example → List SplitValues
each [] = []
each (e ∷ l) = split e.scene e.room ∷ each l

abbrev said : List Example → List SplitValues
said [] = []
said (e ∷ l) = e.answer ∷ said l

pub examples_hold : each examples ≡ said examples
unfolding within before is_same_point is_same_segment ordered side dominating far_end comes_before side_at is_at is_not_before is_not_after on is_end counts_below counts_below_left interior_above ends_at opposite cross end_within touch odd signed coordinate kind_of shape_of record_at elements_from read_object read_scene segments object is_in_order out_of_order partner unpaired touching touching_itself odd_end wrong_ia check_scene_by check_scene digit record_bytes point_items line_items region_items steps_from moved part placed_on crossing_of cuts_by off_grid split_object split_bytes check_split examples ◌with◌gives◌
examples_hold = refl

-- ---- what is written

abbrev written : List ℕ → CheckedScene → List ℕ
written s (Err r) = []
written s (Ok sc) = split_bytes s sc

abbrev split_once : List ℕ → List ℕ
split_once s = written s (check_split s 2000)

abbrev taken : ℕ → ℕ → Values
taken f g = record { number = 0; place = 0; types = f ∷ g ∷ [] }

-- it is an accepted scene, and splitting it adds nothing
pub accepted-hold :
    (scene_values (check_scene (split_once squares)) ≡ taken 3 3) × (scene_values (check_scene (split_once row)) ≡ taken 2 2) × (scene_values (check_scene (split_once mixed)) ≡ taken 3 2)
    × (split (split_once squares) 462 ≡ gave 0 0 0 0 462) × (split (split_once row) 330 ≡ gave 0 0 0 0 330)
unfolding within before is_same_point is_same_segment ordered side dominating far_end comes_before side_at is_at is_not_before is_not_after on is_end counts_below counts_below_left interior_above ends_at opposite cross end_within touch odd signed coordinate kind_of shape_of record_at elements_from read_object read_scene segments object is_in_order out_of_order partner unpaired touching touching_itself odd_end wrong_ia check_scene_by check_scene digit record_bytes point_items line_items region_items steps_from moved part placed_on crossing_of cuts_by off_grid split_object split_bytes check_split
accepted-hold = (refl, refl, refl, refl, refl)
