-- Points and a line as OGC well-known binary: "Write MultiPoint, and MultiLineString with a part of two points for each left halfsegment, left end first,
-- little-endian, in element order" (02, Paper 9).
use Rattle.std.specs.Prelude.{ℕ, List, [], ◌∷◌, ◌++◌, map, length, ℤ}
use Rattle.std.specs.Int.{w32, w64, to_le_bytes}
use Rattle.std.specs.Float.{binary64}
use Rattle.std.specs.Float.Ieee.{of_int, to_bits}
use Rattle.plane.specs.declared.Point.{Point}
use Rattle.plane.specs.declared.Segment.{Segment}
use Rattle.plane.specs.Plane.{Object, points, line, region}

-- ---- fields, little-endian

-- a number of 32 bits
unfoldable pub word_bytes : ℕ → List ℕ
word_bytes n = to_le_bytes w32 n

-- a coordinate is a 64-bit float: the bit pattern of the one that is this number. 0 is +0.
unfoldable pub pattern : ℤ → ℕ
pattern z = to_bits binary64 (of_int binary64 z)

unfoldable pub coordinate_bytes : ℤ → List ℕ
coordinate_bytes z = to_le_bytes w64 (pattern z)

abbrev pub point_bytes : Point → List ℕ
point_bytes p = coordinate_bytes p.x ++ coordinate_bytes p.y

-- the byte order, 1 for little-endian, and the type
abbrev pub header_bytes : ℕ → List ℕ
header_bytes type = 1 ∷ word_bytes type

-- ---- parts

-- a Point has type 1
unfoldable pub point_part : Point → List ℕ
point_part p = header_bytes 1 ++ point_bytes p

-- a LineString has type 2, and here two points, "left end first"
unfoldable pub segment_part : Segment → List ℕ
segment_part t = header_bytes 2 ++ (word_bytes 2 ++ (point_bytes t.left ++ point_bytes t.right))

abbrev pub joined : List (List ℕ) → List ℕ
joined [] = []
joined (part ∷ parts) = part ++ joined parts

-- a header, the number of parts, and the parts
abbrev pub collection : ℕ → List (List ℕ) → List ℕ
collection type parts = header_bytes type ++ (word_bytes (length parts) ++ joined parts)

-- a MultiPoint has type 4, a MultiLineString type 5. A region is not written.
unfoldable pub wkb_of : Object → List ℕ
wkb_of (points l) = collection 4 (map point_part l)
wkb_of (line l) = collection 5 (map segment_part l)
wkb_of (region l) = []
