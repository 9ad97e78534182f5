-- Small examples of what is gathered, computed.
use Rattle.std.specs.Prelude.{ℕ, ◌≡◌, refl, List, [], ◌∷◌, pos}
use Rattle.plane.specs.declared.Point.{Point}
use Rattle.plane.specs.declared.Segment.{Segment}
use Rattle.plane.specs.Plane.{before, is_same_point}
use Rattle.wkb_rows.specs.Rows.{segment_before, points_of, segments_of}

abbrev p : ℕ → ℕ → Point
p x y = record { x = pos x; y = pos y }

abbrev from : Point → Point → Segment
from a b = record { left = a; right = b }

-- equal points once, by x and then y
points : points_of (((p 4 0 ∷ []) ∷ []) ∷ ((p 0 4 ∷ []) ∷ []) ∷ ((p 4 0 ∷ []) ∷ []) ∷ ((p 0 0 ∷ []) ∷ []) ∷ []) ≡ p 0 0 ∷ p 0 4 ∷ p 4 0 ∷ []
unfolding points_of before is_same_point
points = refl

-- two triangles with a common side, read in both directions: that side once; equal neighbours make none, nor does a ring of one point
square : List (List (List Point))
square =
    ((p 0 0 ∷ p 4 0 ∷ p 4 0 ∷ p 4 4 ∷ p 0 0 ∷ []) ∷ [])
    ∷ ((p 0 0 ∷ p 4 4 ∷ p 0 4 ∷ p 0 0 ∷ []) ∷ (p 1 1 ∷ p 1 1 ∷ p 1 1 ∷ p 1 1 ∷ []) ∷ [])
    ∷ []

segments : segments_of square ≡ from (p 0 0) (p 0 4) ∷ from (p 0 0) (p 4 0) ∷ from (p 0 0) (p 4 4) ∷ from (p 0 4) (p 4 4) ∷ from (p 4 0) (p 4 4) ∷ []
unfolding segments_of segment_before before is_same_point square
segments = refl
