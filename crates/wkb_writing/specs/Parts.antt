-- On the way: the parts that an object's elements add, one after the other, and how many there are.
use Rattle.std.specs.Prelude.{ℕ, zero, suc, ◌+◌, Bool, true, cond, List, [], ◌++◌}
use Rattle.whole.specs.Count.{bit}
use Rattle.plane.specs.declared.Halfsegment.{Halfsegment}
use Rattle.scene.specs.declared.Shape.{Shape}
use Rattle.scene.specs.declared.Shape.TheVariants.{Points, Line, Region}
use Rattle.scene.specs.declared.Layout.{Layout}
use Rattle.scene.specs.Read.{point_at, halfsegment_at, place}
use Rattle.wkb_writing.specs.Wkb.{word_bytes, header_bytes, point_part, segment_part}

-- a segment has one part, for its left halfsegment
abbrev pub half_part : Halfsegment → List ℕ
half_part h = cond h.is_left (segment_part h.segment) []

-- that of the element whose record stands at an offset
abbrev pub element_part : List ℕ → Shape → ℕ → List ℕ
element_part s Points at = point_part (point_at s at)
element_part s Line at = half_part (halfsegment_at s at)
element_part s Region at = half_part (halfsegment_at s at)

-- those of n elements from element i on
abbrev pub parts_from : List ℕ → Layout → ℕ → ℕ → List ℕ
parts_from s l zero i = []
parts_from s l (suc n) i = element_part s l.shape (place l i) ++ parts_from s l n (suc i)

abbrev pub has_part : List ℕ → Shape → ℕ → Bool
has_part s Points at = true
has_part s Line at = (halfsegment_at s at).is_left
has_part s Region at = (halfsegment_at s at).is_left

abbrev pub count_from : List ℕ → Layout → ℕ → ℕ → ℕ
count_from s l zero i = 0
count_from s l (suc n) i = bit (has_part s l.shape (place l i)) + count_from s l n (suc i)

-- the bytes of a part, and what stands before the parts
abbrev pub part_length : Shape → ℕ
part_length Points = 21
part_length Line = 41
part_length Region = 41

abbrev pub type_number : Shape → ℕ
type_number Points = 4
type_number Line = 5
type_number Region = 6

abbrev pub start_bytes : Shape → ℕ → List ℕ
start_bytes k n = header_bytes (type_number k) ++ word_bytes n
