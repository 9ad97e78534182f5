-- Points as numbers that have the order of points, and back; those of an object's elements, and one above them all past the last.
use Rattle.std.specs.Prelude.{ℕ, suc, ◌+◌, ◌*◌, ◌-◌, ◌/◌, ◌%◌, ◌≤◌, ◌<◌, cond, List, ltb, ℤ, pos, negsuc, ◌-ℤ◌}
use Rattle.plane.specs.declared.Point.{Point}
use Rattle.plane.specs.declared.Segment.{Segment}
use Rattle.plane.specs.Plane.{limit, dominating}
use Rattle.scene.specs.declared.Shape.{Shape}
use Rattle.scene.specs.declared.Shape.TheVariants.{Points, Line, Region}
use Rattle.scene.specs.declared.Layout.{Layout}
use Rattle.scene.specs.Read.{point_at, halfsegment_at, place}
use Rattle.scene.specs.Conditions.{half}
use Rattle.scene_keys.specs.declared.Ends.{Ends}

-- a coordinate in range, counted from the least
abbrev pub raised : ℤ → ℕ
raised (pos n) = limit + n
raised (negsuc n) = limit - suc n

-- the radix of a key, 2 ^ 25: above every raised coordinate (`room_enough`)
abbrev pub room : ℕ
room = 33554432

-- x first, then y
unfoldable pub key : Point → ℕ
key p = room * raised p.x + raised p.y

-- the key of a point in range: its two digits are raised coordinates
abbrev pub IsKey : ℕ → Type 0
IsKey k = (k / room ≤ 2 * limit) × (k % room ≤ 2 * limit)

-- and the point that has it
abbrev pub lowered : ℕ → ℤ
lowered n = pos n -ℤ pos limit

unfoldable pub keyed_point : ℕ → Point
keyed_point k = record { x = lowered (k / room); y = lowered (k % room) }

-- a segment by the keys of its ends
abbrev pub ends_of : Segment → Ends
ends_of t = record { left = key t.left; right = key t.right }

abbrev pub keyed_segment : Ends → Segment
keyed_segment e = record { left = keyed_point e.left; right = keyed_point e.right }

pub record GoodEnds (e : Ends) : Type 0 where
  pub left_key : IsKey e.left
  pub right_key : IsKey e.right
  pub in_order : e.left < e.right

-- above the key of every point in range
abbrev pub top : ℕ
top = room * room

-- n elements with the keys u: the key of the element i, and past the last
abbrev pub next : ℕ → (ℕ → ℕ) → ℕ → ℕ
next n u i = cond (ltb i n) (u i) top

-- the point of the element whose record stands at an offset
abbrev pub point_in : List ℕ → Shape → ℕ → Point
point_in s Points at = point_at s at
point_in s Line at = dominating (halfsegment_at s at)
point_in s Region at = dominating (halfsegment_at s at)

module _ (s : List ℕ) (l : Layout) where
  -- the point of an element: a point itself, a halfsegment's dominating point
  abbrev pub point_as : Shape → ℕ → Point
  point_as Points i = point_at s (place l i)
  point_as Line i = dominating (half s l i)
  point_as Region i = dominating (half s l i)

  abbrev pub element_point : ℕ → Point
  element_point = point_as l.shape

  abbrev pub keys : ℕ → ℕ
  keys i = key (element_point i)

  abbrev pub next_key : ℕ → ℕ
  next_key = next l.count keys
