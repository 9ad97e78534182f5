-- The cuts of a segment: "cuts each segment where it crosses or touches one of the other object, and at both ends of a stretch in common. .. The points covered
-- and twice each region's area by the shoelace sum do not alter, and nothing else is cut." (02, Paper 3).
use Rattle.std.specs.Prelude.{ℕ, ◌≡◌, ◌⊎◌, Bool, cond, List, [], ◌∷◌, ◌++◌, T}
use Rattle.whole.specs.Count.{◌∈◌}
use Rattle.plane.specs.declared.Point.{Point}
use Rattle.plane.specs.declared.Segment.{Segment}
use Rattle.plane.specs.Plane.{FractionPoint, fractions, grid, on, cross, end_within, Object, in_interior, in_boundary, in_exterior}
use Rattle.split_pieces.specs.Pieces.{split_all, added, EndPoint, NewEnd}
use Rattle.split_crossing.specs.declared.Crossing.{Crossing}
use Rattle.split_crossing.specs.declared.Crossing.TheVariants.{Apart, OffGrid, At}
use Rattle.split_crossing.specs.Crossing.{crossing_of}

-- ---- the cuts

abbrev pub point_if : Bool → Point → List Point
point_if b p = cond b (p ∷ []) []

abbrev pub crossing_point : Crossing → List Point
crossing_point Apart = []
crossing_point OffGrid = []
crossing_point (At c) = c ∷ []

-- of s by t: the ends of t strictly inside s, and where they cross. An end of a stretch in common is an end of one of the two, so it is among these.
unfoldable pub cuts_by : Segment → Segment → List Point
cuts_by s t = point_if (end_within s t.left) t.left ++ (point_if (end_within s t.right) t.right ++ crossing_point (crossing_of s t))

-- of s by the other object
abbrev pub cuts : List Segment → Segment → List Point
cuts [] s = []
cuts (t ∷ other) s = cuts_by s t ++ cuts other s

-- an object split by the other, and the number of segments that are added
abbrev pub split_by : List Segment → List Segment → List Segment
split_by other own = split_all (cuts other) own

abbrev pub added_by : List Segment → List Segment → ℕ
added_by other own = added (cuts other) own

-- ---- in points

-- "where it crosses or touches one of the other object, and at both ends of a stretch in common": p is strictly inside s and on one of the other object, and
-- it is an end of that one, or the two cross
pub record CutAt (other : List Segment) (s : Segment) (p : Point) : Type 0 where
  pub by : Segment
  pub of_other : by ∈ other
  pub inside : T (end_within s p)
  pub met : T (on by (grid p))
  pub how : EndPoint by p ⊎ T (cross s by)

-- "and nothing else is cut": the new ends of a segment are these points, each of them
pub record CutExactly (other own : List Segment) : Type 0 where
  pub only : (s : Segment) → s ∈ own → (p : Point) → NewEnd (cuts other) s p → CutAt other s p
  pub all : (s : Segment) → s ∈ own → (p : Point) → CutAt other s p → NewEnd (cuts other) s p

-- "The points covered .. do not alter": every point with fraction coordinates keeps its part of the object
pub record SameParts (before after : Object) : Type 0 where
  pub interior : (z : FractionPoint) → in_interior after (fractions z) ≡ in_interior before (fractions z)
  pub boundary : (z : FractionPoint) → in_boundary after (fractions z) ≡ in_boundary before (fractions z)
  pub exterior : (z : FractionPoint) → in_exterior after (fractions z) ≡ in_exterior before (fractions z)
