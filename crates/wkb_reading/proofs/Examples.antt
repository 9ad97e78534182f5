-- Reading small files, computed: number and place, or the object's bytes.
use Rattle.std.specs.Prelude.{ℕ, zero, suc, ◌≡◌, refl, List, [], ◌∷◌, ◌++◌, map, take, length, pos}
use Rattle.std.specs.Float.{binary64}
use Rattle.std.specs.Float.Ieee.{of_bits, eq}
use Rattle.whole.specs.Count.{odd}
use Rattle.plane.specs.declared.Point.{Point}
use Rattle.plane.specs.Plane.{points, within, before, is_same_point, is_same_segment, ordered, side, dominating, far_end, comes_before, side_at, is_at, is_not_before, is_not_after, on, is_end, counts_below, counts_below_left, interior_above, ends_at, opposite, cross, end_within, touch}
use Rattle.scene.specs.Read.{signed, coordinate, kind_of, shape_of, record_at, elements_from, read_object, read_alone}
use Rattle.scene.specs.Conditions.{segments, is_in_order, out_of_order, partner, unpaired, touching, touching_itself, odd_end, wrong_ia, check_object}
use Rattle.scene_written.specs.Bytes.{digit, record_bytes}
use Rattle.wkb_coordinate.specs.Coordinate.{coordinate_of}
use Rattle.wkb_grammar.specs.Fields.{word_at, header_at, counted_at, is_open}
use Rattle.wkb_grammar.specs.Grammar.{point_at, ring_at, part_at, file}
use Rattle.wkb_grammar.proofs.Examples.{digits, turned, number, word, header, floats, one_point, n0, n4, a_half}
use Rattle.wkb_rows.specs.Rows.{segment_before, points_of, segments_of}
use Rattle.scene_writing.specs.Settled.{settled_items}
use Rattle.wkb_reading.specs.Reading.{ReadValues, read_object as read_as, read_file, buffer_after, read_values}

-- 2, 6 and 8 as floats
n2 : ℕ
n2 = 0x4000000000000000

n6 : ℕ
n6 = 0x4018000000000000

n8 : ℕ
n8 = 0x4020000000000000

-- files of one to three points, of lines of two points each, of polygons of one ring of five points each
point_part : List ℕ → List ℕ
unfolding header floats
point_part xs = header 1 1 ++ floats 1 xs

line_part : List ℕ → List ℕ
unfolding header word floats
line_part xs = header 1 2 ++ word 1 2 ++ floats 1 xs

polygon_part : List ℕ → List ℕ
unfolding header word floats
polygon_part xs = header 0 3 ++ word 0 1 ++ word 0 5 ++ floats 0 xs

square : ℕ → ℕ → ℕ → ℕ → List ℕ
unfolding polygon_part
square a b c d = polygon_part (a ∷ b ∷ c ∷ b ∷ c ∷ d ∷ a ∷ d ∷ a ∷ b ∷ [])

joined : List (List ℕ) → List ℕ
joined [] = []
joined (l ∷ ls) = l ++ joined ls

collection : ℕ → ℕ → List (List ℕ) → List ℕ
unfolding header word joined
collection type n parts = header 1 type ++ word 1 n ++ joined parts

lines : List ℕ → List ℕ → List ℕ
unfolding collection line_part
lines f g = collection 5 2 (line_part f ∷ line_part g ∷ [])

answered : List ℕ → List ℕ → ReadValues
unfolding read_file read_as settled_items file part_at ring_at point_at is_open counted_at header_at word_at coordinate_of of_bits eq points_of segments_of segment_before digit record_bytes check_object read_alone read_object elements_from record_at kind_of shape_of coordinate signed segments out_of_order is_in_order unpaired partner touching_itself touching odd_end wrong_ia within before is_same_point is_same_segment ordered side dominating far_end comes_before side_at is_at is_not_before is_not_after on is_end counts_below counts_below_left interior_above ends_at opposite cross end_within touch odd
answered s buffer = read_values (read_file s (length buffer))

left_in : List ℕ → List ℕ → List ℕ
unfolding buffer_after read_file read_as settled_items file part_at ring_at point_at is_open counted_at header_at word_at coordinate_of of_bits eq points_of segments_of segment_before digit record_bytes check_object read_alone read_object elements_from record_at kind_of shape_of coordinate signed segments out_of_order is_in_order unpaired partner touching_itself touching odd_end wrong_ia within before is_same_point is_same_segment ordered side dominating far_end comes_before side_at is_at is_not_before is_not_after on is_end counts_below counts_below_left interior_above ends_at opposite cross end_within touch odd
left_in s buffer = buffer_after s buffer

-- number, place and length
outline : ReadValues → List ℕ
outline a = a.number ∷ a.place ∷ a.length ∷ []

files : List (List ℕ)
unfolding collection lines square point_part header word number digits turned floats n0 n2 n4 n6 n8 joined line_part polygon_part
files =
    -- no bytes: 24 at 0
    []
    -- two squares with a common side: that side once, so 13
    ∷ collection 6 2 (square n0 n0 n4 n4 ∷ square n4 n0 n8 n4 ∷ [])
    -- collinear segments with a common left end: 10; that overlap otherwise: 12, though the buffer is short
    ∷ lines (n0 ∷ n0 ∷ n2 ∷ n0 ∷ []) (n0 ∷ n0 ∷ n4 ∷ n0 ∷ [])
    ∷ lines (n2 ∷ n0 ∷ n6 ∷ n0 ∷ []) (n0 ∷ n0 ∷ n4 ∷ n0 ∷ [])
    -- a line there and back again is one segment, and too long for this buffer; a point is too, and nothing is written
    ∷ lines (n0 ∷ n0 ∷ n4 ∷ n0 ∷ []) (n4 ∷ n0 ∷ n0 ∷ n0 ∷ [])
    ∷ collection 4 1 (point_part (n4 ∷ n0 ∷ []) ∷ [])
    -- an empty object fits
    ∷ collection 6 0 []
    ∷ []

buffer : List ℕ
buffer = 7 ∷ 7 ∷ 7 ∷ 7 ∷ []

files_answered : map (λ s. outline (answered s buffer)) files ≡ (24 ∷ 0 ∷ 0 ∷ []) ∷ (13 ∷ 0 ∷ 0 ∷ []) ∷ (10 ∷ 0 ∷ 0 ∷ []) ∷ (12 ∷ 0 ∷ 0 ∷ []) ∷ (21 ∷ 0 ∷ 0 ∷ []) ∷ (21 ∷ 0 ∷ 0 ∷ []) ∷ (0 ∷ 0 ∷ 3 ∷ []) ∷ []
unfolding files answered outline buffer
files_answered = refl

-- points read twice and out of order: 01's bytes, and no later byte is touched
twice : List ℕ
unfolding collection point_part header word number digits turned floats n0 n4 joined
twice = collection 4 3 (point_part (n4 ∷ n0 ∷ []) ∷ point_part (n0 ∷ n4 ∷ []) ∷ point_part (n4 ∷ n0 ∷ []) ∷ [])

written : List ℕ
written = 84 ∷ 1 ∷ 80 ∷ 0 ∷ 0 ∷ 0 ∷ 0 ∷ 4 ∷ 0 ∷ 0 ∷ 0 ∷ 80 ∷ 4 ∷ 0 ∷ 0 ∷ 0 ∷ 0 ∷ 0 ∷ 0 ∷ 0 ∷ 69 ∷ []

read_in_order : (outline (answered twice (written ++ (7 ∷ 7 ∷ []))) ≡ 0 ∷ 0 ∷ 21 ∷ []) × (left_in twice (written ++ (7 ∷ 7 ∷ [])) ≡ written ++ (7 ∷ 7 ∷ []))
unfolding twice answered left_in outline written
read_in_order = (refl, refl)

-- a polygon with a polygon inside it is a region with a hole: the first and the last of its sixteen halfsegments, with ia
hole : List ℕ
unfolding collection square polygon_part header word number digits turned floats n0 n2 n4 n6 n8 joined
hole = collection 6 2 (square n0 n0 n8 n8 ∷ square n2 n2 n6 n6 ∷ [])

zeros : ℕ → List ℕ
zeros zero = []
zeros (suc n) = 0 ∷ zeros n

hole_read : (outline (answered hole (zeros 400)) ≡ 0 ∷ 0 ∷ 307 ∷ []) × (take 21 (left_in hole (zeros 400)) ≡ 84 ∷ 3 ∷ 82 ∷ 0 ∷ 0 ∷ 0 ∷ 0 ∷ 0 ∷ 0 ∷ 0 ∷ 0 ∷ 8 ∷ 0 ∷ 0 ∷ 0 ∷ 0 ∷ 0 ∷ 0 ∷ 0 ∷ 1 ∷ 1 ∷ [])
unfolding hole zeros answered left_in outline
hole_read = (refl, refl)

-- more than 1,024 elements: 20, before all but 24, 25 and 26
many_points : ℕ → List Point
many_points zero = []
many_points (suc n) = record { x = pos 0; y = pos 0 } ∷ many_points n

too_many : outline (read_values (read_as (points (many_points 1025)) 0)) ≡ 20 ∷ 0 ∷ 0 ∷ []
unfolding read_as outline many_points
too_many = refl

-- the number that was read goes back, and the buffer is as it was
goes_back : (answered (one_point 1 0 n4 a_half) buffer ≡ record { number = 25; place = 22; length = 0; value = of_bits binary64 a_half }) × (left_in (one_point 1 0 n4 a_half) buffer ≡ buffer)
unfolding answered left_in one_point header word number digits turned floats n4 a_half of_bits
goes_back = (refl, refl)
