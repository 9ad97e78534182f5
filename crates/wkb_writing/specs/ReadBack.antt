-- "What is written is read back as the same object": the grammar of well-known binary reads it, and the object's bytes, made of what was read, are the bytes that were
-- written.
use Rattle.std.specs.Prelude.{Ok, ℕ, ◌≡◌, false, List, [], ◌∷◌, map, length}
use Rattle.plane.specs.declared.Point.{Point}
use Rattle.plane.specs.declared.Segment.{Segment}
use Rattle.plane.specs.Plane.{Object, points, line, region}
use Rattle.scene.specs.declared.Layout.{Layout}
use Rattle.scene.specs.Conditions.{is_region, object, check_object}
use Rattle.scene_written.specs.Bytes.{AreBytes}
use Rattle.scene_written.specs.Arranged.{object_bytes}
use Rattle.wkb_grammar.specs.Fields.{type_at}
use Rattle.wkb_grammar.specs.Grammar.{got, Row, file}
use Rattle.wkb_rows.specs.Rows.{points_of, segments_of}
use Rattle.wkb_writing.specs.Wkb.{wkb_of}

-- the rows of a point's part and of a segment's
abbrev pub point_rows : Point → List Row
point_rows p = (p ∷ []) ∷ []

abbrev pub segment_rows : Segment → List Row
segment_rows t = (t.left ∷ t.right ∷ []) ∷ []

-- what is read of an object that was written: its parts in their order
abbrev pub parts_in : Object → List (List Row)
parts_in (points l) = map point_rows l
parts_in (line l) = map segment_rows l
parts_in (region l) = []

-- the object of parts that were read, of the same kind: "Equal points and equal segments in the input are taken once"
abbrev pub read_as : Object → List (List Row) → Object
read_as (points l) parts = points (points_of parts)
read_as (line l) parts = line (segments_of parts)
read_as (region l) parts = region (segments_of parts)

abbrev pub type_of : Object → ℕ
type_of (points l) = 4
type_of (line l) = 5
type_of (region l) = 6

-- s: the bytes of the object o
pub record ReadBack (s : List ℕ) (o : Object) : Type 0 where
  pub type : type_at (wkb_of o) 0 ≡ type_of o
  pub read : file (wkb_of o) ≡ got (parts_in o) (length (wkb_of o))
  pub same : object_bytes (read_as o (parts_in o)) ≡ s

-- for every byte string that is accepted as points or as a line
abbrev pub WrittenReadBack : List ℕ → Type 0
WrittenReadBack s = AreBytes s → (l : Layout) → check_object s ≡ Ok l → is_region l.shape ≡ false → ReadBack s (object s l)
