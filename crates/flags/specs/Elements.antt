-- The elements that the bytes of an object stand for, and what is asked of a segment beside a region's.
use Rattle.std.specs.Prelude.{ℕ, ◌≡◌, Bool, true, false, not, ◌&&◌, List, map}
use Rattle.whole.specs.Count.{some}
use Rattle.plane.specs.declared.Point.{Point}
use Rattle.plane.specs.declared.Segment.{Segment}
use Rattle.plane.specs.Plane.{midpoint, is_same_segment, is_on_some}
use Rattle.scene.specs.declared.Shape.{Shape}
use Rattle.scene.specs.declared.Shape.TheVariants.{Points, Line, Region}
use Rattle.scene.specs.declared.Layout.{Layout}
use Rattle.scene.specs.Read.{point_at, place}
use Rattle.scene.specs.Conditions.{elements, keep, half, ia, left_test, segments}
use Rattle.flags.specs.Flags.{Edge, Elements, points, line, region, has_segment}

-- ---- the elements

module _ (s : List ℕ) (l : Layout) where
  abbrev pub point_of : ℕ → Point
  point_of i = point_at s (place l i)

  -- a segment is counted once, by its left halfsegment
  abbrev pub edge_of : ℕ → Edge
  edge_of i = record { segment = (half s l i).segment; ia = ia s l i }

  unfoldable pub points_of : List Point
  points_of = map point_of (elements l)

  unfoldable pub edges : List Edge
  edges = map edge_of (keep (left_test s l) (elements l))

  abbrev pub elements_as : Shape → Elements
  elements_as Points = points points_of
  elements_as Line = line (segments s l)
  elements_as Region = region edges

  abbrev pub elements_of : Elements
  elements_of = elements_as l.shape

-- ---- a segment beside a region

-- it is one of the region's, with the interior above it or below it as told
abbrev pub same_ia : Bool → Bool → Bool
same_ia true b = b
same_ia false b = not b

abbrev pub same_edge : Segment → Bool → Edge → Bool
same_edge s above e = is_same_segment s e.segment && same_ia above e.ia

abbrev pub has_edge : List Edge → Segment → Bool → Bool
has_edge l s above = some (same_edge s above) l

-- where it shares no point with the region's segments but common ends: its midpoint lies on them where it is one of them, and nowhere else
abbrev pub Clear : List Segment → Segment → Type 0
Clear other t = is_on_some other (midpoint t) ≡ has_segment other t
