-- Elements in order, each once: inserted one by one, each where it comes before the next; one that is there already is not put in again.
use Rattle.std.specs.Prelude.{Bool, true, false, cond, ℕ, List, [], ◌∷◌, map}
use Rattle.plane.specs.declared.Point.{Point}
use Rattle.plane.specs.declared.Segment.{Segment}
use Rattle.plane.specs.declared.Halfsegment.{Halfsegment}
use Rattle.plane.specs.Plane.{before, comes_before, interior_above, Object, points, line, region}
use Rattle.scene.specs.declared.Shape.{Shape}
use Rattle.scene.specs.declared.Shape.TheVariants.{Points, Line, Region}
use Rattle.scene_written.specs.Bytes.{Edge, Item, bytes_of}

module _ {A : Type 0} (less : A → A → Bool) where
  abbrev pub insert : A → List A → List A
  insert a [] = a ∷ []
  insert a (b ∷ l) = cond (less a b) (a ∷ b ∷ l) (cond (less b a) (b ∷ insert a l) (b ∷ l))

  abbrev pub arrange : List A → List A
  arrange [] = []
  arrange (a ∷ l) = insert a (arrange l)

-- "It is stored as two halfsegments"
abbrev pub halves_of : List Segment → List Halfsegment
halves_of [] = []
halves_of (t ∷ l) = record { segment = t; is_left = true } ∷ record { segment = t; is_left = false } ∷ halves_of l

-- the elements of a points object, of a line and of a region, in 01's order, from its points or its segments
unfoldable pub point_items : List Point → List Point
point_items l = arrange before l

unfoldable pub line_items : List Segment → List Halfsegment
line_items l = arrange comes_before (halves_of l)

abbrev pub edge_of : List Segment → Halfsegment → Edge
edge_of l h = record { half = h; ia = interior_above l h.segment }

unfoldable pub region_items : List Segment → List Edge
region_items l = map (edge_of l) (line_items l)

-- an object's bytes
abbrev pub shape_in : Object → Shape
shape_in (points l) = Points
shape_in (line l) = Line
shape_in (region l) = Region

abbrev pub items_of : (o : Object) → List (Item (shape_in o))
items_of (points l) = point_items l
items_of (line l) = line_items l
items_of (region l) = region_items l

abbrev pub object_bytes : Object → List ℕ
object_bytes o = bytes_of (shape_in o) (items_of o)
