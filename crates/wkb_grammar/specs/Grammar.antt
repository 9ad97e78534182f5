-- OGC well-known binary as document 02's Paper 9 takes it: each definition is a line of the grammar. Reading from a place gives a value and the place
-- after it, or the first fault. "The earliest byte goes first": fields are read in the order of their bytes, and the last point of a ring is held against its
-- first at the count, before any of its points is judged.
--   file  = header(4 to 6) count part*      nothing after
--   part  = header(1) point | header(2) count point* | header(3) count ring*
--   ring  = count point*      point = coordinate coordinate
use Rattle.std.specs.Prelude.{Result, Ok, Err, ℕ, zero, suc, ◌+◌, Bool, true, false, not, cond, ◌&&◌, List, [], ◌∷◌, leb, eqb, ℤ, length, Float}
use Rattle.std.specs.Float.{float_zero}
use Rattle.plane.specs.declared.Point.{Point}
use Rattle.wkb_coordinate.specs.declared.Coordinate.{Coordinate}
use Rattle.wkb_coordinate.specs.declared.Coordinate.TheVariants.{Whole, Other}
use Rattle.wkb_coordinate.specs.Coordinate.{coordinate_of}
use Rattle.wkb_grammar.specs.declared.Fault.{Fault}
use Rattle.wkb_grammar.specs.declared.Fault.TheVariants.{Malformed, NoCoordinate, Open}
use Rattle.wkb_grammar.specs.Fields.{Check, must, is_there, is_little, word_at, float_at, type_at, header_at, counted_at, count_at, is_open}

-- The number, the place and the value that go back with each fault: "the number that goes back with 25 is the one result a refusal has beside 01's zeros".
abbrev pub number_of : Fault → ℕ
number_of (Malformed at) = 24
number_of (NoCoordinate at x) = 25
number_of (Open at) = 26

abbrev pub place_of : Fault → ℕ
place_of (Malformed at) = at
place_of (NoCoordinate at x) = at
place_of (Open at) = at

abbrev pub value_of : Fault → Float
value_of (Malformed at) = float_zero
value_of (NoCoordinate at x) = x
value_of (Open at) = float_zero

pub data Read (A : Type 0) : Type 0 where
  got : A → ℕ → Read A
  bad : Fault → Read A

module _ {A : Type 0} where
  abbrev pub is_taken : Read A → Bool
  is_taken (got a at) = true
  is_taken (bad f) = false

-- without the value
abbrev pub outcome : {A : Type 0} → Read A → Result ℕ Fault
outcome (got a at) = Ok at
outcome (bad f) = Err f

module _ {A B : Type 0} where
  abbrev pub followed_by : Read A → (A → ℕ → Read B) → Read B
  followed_by (got a at) later = later a at
  followed_by (bad f) later = bad f

module _ {A : Type 0} where
  abbrev pub after : Check → Read A → Read A
  after (Ok t) later = later
  after (Err f) later = bad f

  -- n of them, one after the other
  abbrev pub many : (ℕ → Read A) → ℕ → ℕ → Read (List A)
  many item zero at = got [] at
  many item (suc n) at = followed_by (item at) (λ a next. followed_by (many item n next) (λ rest end. got (a ∷ rest) end))

  abbrev pub one : Read A → Read (List A)
  one r = followed_by r (λ a at. got (a ∷ []) at)

abbrev pub Row : Type 0
Row = List Point

module _ (s : List ℕ) where
  -- "25 at the coordinate"
  abbrev pub coordinate_at : Bool → ℕ → Read ℤ
  coordinate_at little at = after (must (is_there s at 8) at) (taken (coordinate_of (float_at s little at)))
    where
      taken : Coordinate → Read ℤ
      taken (Whole z) = got z (at + 8)
      taken (Other x) = bad (NoCoordinate at x)

  unfoldable pub point_at : Bool → ℕ → Read Point
  point_at little at = followed_by (coordinate_at little at) (λ x next. followed_by (coordinate_at little next) (λ y end. got (record { x = x; y = y }) end))

  -- "a ring of fewer than four [is] 24 at [its] count"; "26 at the count of a ring whose last point is not its first"; "24 before 26 at one byte"
  unfoldable pub ring_at : Bool → ℕ → Read Row
  ring_at little at =
      after (must (is_there s at 4 && leb 4 n) at)
      (cond (is_open s little n (at + 4)) (bad (Open at)) (many (point_at little) n (at + 4)))
    where
      n : ℕ
      n = word_at s little at

  -- A part is its rows: a point, a part's points, or rings. "A part or polygon that holds nothing adds nothing": it has no row, or one of no points.
  abbrev pub point_part : ℕ → Read (List Row)
  point_part at = after (header_at s at 1 1) (one (one (point_at (is_little s at) (at + 5))))

  -- "A part of one point [is] 24 at [its] count"
  abbrev pub line_part : ℕ → Read (List Row)
  line_part at =
      after (counted_at s at 2 2) (after (must (not (eqb (count_at s at) 1)) (at + 5)) (one (many (point_at (is_little s at)) (count_at s at) (at + 9))))

  abbrev pub polygon_part : ℕ → Read (List Row)
  polygon_part at = after (counted_at s at 3 3) (many (ring_at (is_little s at)) (count_at s at) (at + 9))

  -- "MultiPoint, MultiLineString and MultiPolygon": parts by the file's type, 4, 5 or 6
  unfoldable pub part_at : ℕ → ℕ → Read (List Row)
  part_at type at = cond (eqb type 4) (point_part at) (cond (eqb type 5) (line_part at) (polygon_part at))

  -- nothing may be left over
  abbrev pub ended : List (List Row) → ℕ → Read (List (List Row))
  ended parts end = after (must (leb (length s) end) end) (got parts end)

  unfoldable pub file : Read (List (List Row))
  file = after (counted_at s 0 4 6) (followed_by (many (part_at (type_at s 0)) (count_at s 0) 9) ended)
