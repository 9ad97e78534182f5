-- Objects as well-known binary: no points, a point with a number below zero, and a segment.
use Rattle.std.specs.Prelude.{◌≡◌, refl, [], ◌∷◌, pos, negsuc}
use Rattle.std.specs.Float.Ieee.{of_int, to_bits, round, units, odd, span, climb, size}
use Rattle.plane.specs.Plane.{points, line}
use Rattle.wkb_writing.specs.Wkb.{word_bytes, coordinate_bytes, pattern, point_part, segment_part, wkb_of}

-- "A part .. that holds nothing": a header and the count 0
no_points : wkb_of (points []) ≡ 1 ∷ 4 ∷ 0 ∷ 0 ∷ 0 ∷ 0 ∷ 0 ∷ 0 ∷ 0 ∷ []
unfolding wkb_of word_bytes
no_points = refl

-- (0, -3): +0 is eight zeros, and -3 is -1.5 times 2
one_point : wkb_of (points (record { x = pos 0; y = negsuc 2 } ∷ []))
    ≡ 1 ∷ 4 ∷ 0 ∷ 0 ∷ 0 ∷ 1 ∷ 0 ∷ 0 ∷ 0
    ∷ 1 ∷ 1 ∷ 0 ∷ 0 ∷ 0
    ∷ 0 ∷ 0 ∷ 0 ∷ 0 ∷ 0 ∷ 0 ∷ 0 ∷ 0
    ∷ 0 ∷ 0 ∷ 0 ∷ 0 ∷ 0 ∷ 0 ∷ 8 ∷ 192 ∷ []
unfolding wkb_of word_bytes coordinate_bytes pattern point_part of_int to_bits round units odd span climb size
one_point = refl

-- (1,2)-(10000000,5)
one_segment : wkb_of (line (record { left = record { x = pos 1; y = pos 2 }; right = record { x = pos 10000000; y = pos 5 } } ∷ []))
    ≡ 1 ∷ 5 ∷ 0 ∷ 0 ∷ 0 ∷ 1 ∷ 0 ∷ 0 ∷ 0
    ∷ 1 ∷ 2 ∷ 0 ∷ 0 ∷ 0 ∷ 2 ∷ 0 ∷ 0 ∷ 0
    ∷ 0 ∷ 0 ∷ 0 ∷ 0 ∷ 0 ∷ 0 ∷ 240 ∷ 63
    ∷ 0 ∷ 0 ∷ 0 ∷ 0 ∷ 0 ∷ 0 ∷ 0 ∷ 64
    ∷ 0 ∷ 0 ∷ 0 ∷ 0 ∷ 208 ∷ 18 ∷ 99 ∷ 65
    ∷ 0 ∷ 0 ∷ 0 ∷ 0 ∷ 0 ∷ 0 ∷ 20 ∷ 64 ∷ []
unfolding wkb_of word_bytes coordinate_bytes pattern segment_part of_int to_bits round units odd span climb size
one_segment = refl
