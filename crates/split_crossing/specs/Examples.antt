-- Crossings on the grid and off it, at the limits of the range too; and what two objects are split into.
use Rattle.std.specs.Prelude.{ℕ, ◌-◌, ◌≡◌, refl, List, [], ◌∷◌, ℤ, pos, negsuc, neg_ℤ}
use Rattle.whole.specs.Count.{odd}
use Rattle.plane.specs.declared.Point.{Point}
use Rattle.plane.specs.declared.Segment.{Segment}
use Rattle.plane.specs.Plane.{limit, before, is_same_point, side, side_at, is_at, is_not_before, is_not_after, on, is_end, opposite, cross, end_within, interior_above, counts_below, counts_below_left}
use Rattle.plane.specs.Shoelace.{shoelace, weighed, twice_area}
use Rattle.split_crossing.specs.declared.Crossing.{Crossing}
use Rattle.split_crossing.specs.declared.Crossing.TheVariants.{Apart, OffGrid, At}
use Rattle.split_crossing.specs.Crossing.{steps_from, part, moved, placed_on, crossing_of}
use Rattle.split_crossing.specs.Cuts.{cuts_by, split_by, added_by}

abbrev at : ℕ → ℕ → Point
at x y = record { x = pos x; y = pos y }

abbrev way : Point → Point → Segment
way p q = record { left = p; right = q }

-- from corner to corner of the range, and down again, the second one or two steps off
abbrev m : ℤ
m = pos limit

abbrev less : ℕ → ℤ
less n = pos (limit - n)

abbrev rising : Segment
rising = way (record { x = neg_ℤ m; y = neg_ℤ m }) (record { x = m; y = m })

pub record Found : Type 0 where
  pub first : Segment
  pub second : Segment
  pub crossing : Crossing

infix 30 ◌with◌gives◌
◌with◌gives◌ : Segment → Segment → Crossing → Found
s with t gives r = record { first = s; second = t; crossing = r }

pub crossings : List Found
unfolding ◌with◌gives◌
crossings =
    (way (at 0 2) (at 4 2) with way (at 2 0) (at 2 4) gives At (at 2 2))
    -- only x is whole, and only y
    ∷ (way (at 0 0) (at 4 1) with way (at 2 0) (at 2 3) gives OffGrid)
    ∷ (way (at 0 0) (at 1 4) with way (at 0 2) (at 3 2) gives OffGrid)
    -- a touch is no crossing, nor is a stretch in common
    ∷ (way (at 0 0) (at 4 0) with way (at 2 0) (at 2 3) gives Apart)
    ∷ (way (at 0 0) (at 4 0) with way (at 2 0) (at 6 0) gives Apart)
    -- the product is above 64 bits
    ∷ (rising with way (record { x = neg_ℤ m; y = less 2 }) (record { x = less 2; y = neg_ℤ m }) gives At (record { x = negsuc 0; y = negsuc 0 }))
    ∷ (rising with way (record { x = neg_ℤ m; y = m }) (record { x = m; y = neg_ℤ (less 1) }) gives OffGrid)
    ∷ []

-- each as computed
abbrev each : List Found → List Crossing
each [] = []
each (f ∷ l) = crossing_of f.first f.second ∷ each l

abbrev said : List Found → List Crossing
said [] = []
said (f ∷ l) = f.crossing ∷ said l

pub crossings_hold : each crossings ≡ said crossings
unfolding crossings ◌with◌gives◌ crossing_of placed_on moved part steps_from cross opposite side
crossings_hold = refl

-- ---- objects split by each other

abbrev added : List Segment → List Segment → List ℕ
added F G = added_by G F ∷ added_by F G ∷ []

abbrev square : ℕ → ℕ → List Segment
square a b = way (at a a) (at b a) ∷ way (at a a) (at a b) ∷ way (at a b) (at b b) ∷ way (at b a) (at b b) ∷ []

-- two squares; a touch; a stretch, a crossing and a touch in one segment; a point where many meet is one cut
pub added_hold :
    (added (square 0 4) (square 2 6) ≡ 2 ∷ 2 ∷ [])
    × (added (way (at 0 0) (at 4 0) ∷ []) (way (at 2 0) (at 2 3) ∷ []) ≡ 1 ∷ 0 ∷ [])
    × (added (way (at 0 3) (at 12 3) ∷ []) (way (at 1 3) (at 3 3) ∷ way (at 5 1) (at 5 5) ∷ way (at 8 3) (at 8 6) ∷ []) ≡ 4 ∷ 1 ∷ [])
    × (added (way (at 0 2) (at 4 2) ∷ []) (way (at 2 2) (at 3 4) ∷ way (at 2 2) (at 3 5) ∷ way (at 2 0) (at 2 2) ∷ []) ≡ 1 ∷ 0 ∷ [])
unfolding cuts_by crossing_of placed_on moved part steps_from cross opposite side end_within on is_end is_at side_at is_not_before is_not_after before is_same_point
added_hold = (refl, refl, refl, refl)

pub pieces_hold :
    split_by (way (at 2 0) (at 2 4) ∷ way (at 3 2) (at 6 2) ∷ []) (way (at 0 2) (at 4 2) ∷ [])
    ≡ way (at 0 2) (at 2 2) ∷ way (at 2 2) (at 3 2) ∷ way (at 3 2) (at 4 2) ∷ []
unfolding cuts_by crossing_of placed_on moved part steps_from cross opposite side end_within on is_end is_at side_at is_not_before is_not_after before is_same_point
pieces_hold = refl

-- the area is what it was
pub area_holds : (twice_area (square 0 4) ≡ pos 32) × (twice_area (split_by (square 2 6) (square 0 4)) ≡ pos 32)
unfolding twice_area shoelace weighed interior_above counts_below counts_below_left odd cuts_by crossing_of placed_on moved part steps_from cross opposite side end_within on is_end is_at side_at is_not_before is_not_after before is_same_point
area_holds = (refl, refl)
