-- Writing an object: document 01's section "Scene bytes", from the elements to the bytes. specs/Read.antt of the crate scene is the other way.
use Rattle.std.specs.Prelude.{ℕ, suc, ◌-◌, ◌/◌, ◌%◌, ◌^◌, ◌<◌, Bool, List, [], ◌∷◌, ◌++◌, T, ℤ, pos, negsuc}
use Rattle.whole.specs.Count.{bit, ◌∈◌}
use Rattle.plane.specs.declared.Point.{Point}
use Rattle.plane.specs.declared.Segment.{Segment}
use Rattle.plane.specs.declared.Halfsegment.{Halfsegment}
use Rattle.plane.specs.Plane.{in_range, segment_in_range, ordered}
use Rattle.scene.specs.declared.Shape.{Shape}
use Rattle.scene.specs.declared.Shape.TheVariants.{Points, Line, Region}
use Rattle.scene.specs.Read.{shape_number, point_at, halfsegment_at, ia_at}

-- ---- elements

-- a region's halfsegment, with its ia
pub record Edge : Type 0 where
  pub half : Halfsegment
  pub ia : Bool

-- an element of an object of each type
abbrev pub Item : Shape → Type 0
Item Points = Point
Item Line = Halfsegment
Item Region = Edge

-- the element whose record stands at an offset
abbrev pub item_at : (k : Shape) → List ℕ → ℕ → Item k
item_at Points s at = point_at s at
item_at Line s at = halfsegment_at s at
item_at Region s at = record { half = halfsegment_at s at; ia = ia_at s at }

-- what 4 and 5 ask of an element
pub record GoodSegment (t : Segment) : Type 0 where
  pub in_range_lem : T (segment_in_range t)
  pub in_order : T (ordered t)

abbrev pub GoodItem : (k : Shape) → Item k → Type 0
GoodItem Points p = T (in_range p)
GoodItem Line h = GoodSegment h.segment
GoodItem Region e = GoodSegment e.half.segment

-- ---- bytes

-- a byte string: numbers below 256
abbrev pub AreBytes : List ℕ → Type 0
AreBytes s = (n : ℕ) → n ∈ s → n < 256

-- "coordinates are signed 32-bit, low byte first"
abbrev pub unsigned : ℤ → ℕ
unsigned (pos n) = n
unsigned (negsuc n) = 2 ^ 32 - suc n

-- one of its four bytes: unit is 1, 256, 65536, 16777216
unfoldable pub digit : ℤ → ℕ → ℕ
digit z unit = unsigned z / unit % 256

-- the four before what follows
abbrev pub coordinate_then : ℤ → List ℕ → List ℕ
coordinate_then z rest = digit z 1 ∷ digit z 256 ∷ digit z 65536 ∷ digit z 16777216 ∷ rest

abbrev pub point_then : Point → List ℕ → List ℕ
point_then p rest = coordinate_then p.x (coordinate_then p.y rest)

abbrev pub half_then : Halfsegment → List ℕ → List ℕ
half_then h rest = point_then h.segment.left (point_then h.segment.right (bit h.is_left ∷ rest))

-- "80 point", "76 line halfsegment", "82 region halfsegment"
unfoldable pub record_bytes : (k : Shape) → Item k → List ℕ
record_bytes Points p = 80 ∷ point_then p []
record_bytes Line h = 76 ∷ half_then h []
record_bytes Region e = 82 ∷ half_then e.half (bit e.ia ∷ [])

abbrev pub records_of : (k : Shape) → List (Item k) → List ℕ
records_of k [] = []
records_of k (x ∷ xs) = record_bytes k x ++ records_of k xs

-- "An object is a type record, 0 to 1,024 elements of its kind, and an end."
abbrev pub bytes_of : (k : Shape) → List (Item k) → List ℕ
bytes_of k xs = 84 ∷ shape_number k ∷ (records_of k xs ++ (69 ∷ []))
