-- Where the midpoint of a segment is, for condition 14's ia.
use Rattle.std.specs.Prelude.{ℕ, ◌+◌, ◌*◌, ◌/◌, ◌≡◌, T}
use Rattle.plane.specs.declared.Point.{Point}
use Rattle.plane.specs.declared.Segment.{Segment}
use Rattle.plane.specs.Plane.{limit, within, segment_in_range, halved, midpoint}
use Rattle.scene_keys.specs.Keyed.{raised, room}

-- the least key of a point in the column that t's midpoint is in; of two columns between which it lies, the left one
abbrev pub column_of : Segment → ℕ
column_of t = (raised t.left.x + raised t.right.x) / 2 * room

-- a segment in range, its midpoint by doubled coordinates, and its column
pub record IsMiddle (t : Segment) (m : Point) (column : ℕ) : Type 0 where
  pub good : T (segment_in_range t)
  pub doubled : T (within (2 * limit) m)
  pub halved_is : halved m ≡ midpoint t
  pub column_is : column ≡ column_of t
