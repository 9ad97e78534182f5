-- Small examples of interiors, computed.
use Rattle.std.specs.Prelude.{ℕ, ◌+◌, ◌*◌, ◌≡◌, refl, Bool, true, false, List, [], ◌∷◌, map, pos}
use Rattle.whole.specs.Count.{odd}
use Rattle.plane.specs.declared.Segment.{Segment}
use Rattle.plane.specs.Plane.{limit, side_at, counts_below, counts_below_left, interior_above}
use Rattle.scene_keys.specs.Keyed.{room}
use Rattle.wkb_interiors.specs.Interiors.{column_of}

abbrev from : ℕ → ℕ → ℕ → ℕ → Segment
from a b c d = record { left = record { x = pos a; y = pos b }; right = record { x = pos c; y = pos d } }

abbrev interiors : List Segment → List Bool
interiors l = map (interior_above l) l

-- a square: its left side, lower side, upper side and right side
square : interiors (from 0 0 0 4 ∷ from 0 0 4 0 ∷ from 0 4 4 4 ∷ from 4 0 4 4 ∷ []) ≡ false ∷ true ∷ false ∷ true ∷ []
unfolding interior_above counts_below counts_below_left side_at odd
square = refl

-- a triangle, and a smaller one inside it: a hole
hole : interiors (from 0 0 9 0 ∷ from 0 0 9 9 ∷ from 5 1 8 1 ∷ from 5 1 8 4 ∷ from 8 1 8 4 ∷ from 9 0 9 9 ∷ []) ≡ true ∷ false ∷ false ∷ true ∷ false ∷ true ∷ []
unfolding interior_above counts_below counts_below_left side_at odd
hole = refl

-- the midpoint (5/2, 3) lies between the columns 2 and 3
halfway : column_of (from 0 3 5 3) ≡ (limit + 2) * room
halfway = refl
