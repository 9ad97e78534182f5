-- Document 02, Paper 9: reading a well-known binary file into a lent buffer, for every byte string and every buffer: the length that was written, or what is wrong, and
-- the buffer after. "24 .. 25 .. 26 .. The earliest byte goes first .. then come 20, 01's checks and 21, each at place 0."
use Rattle.std.specs.Prelude.{Result, Ok, Err, ℕ, ◌*◌, ◌≤◌, ◌≡◌, cond, List, [], ◌++◌, map, ltb, eqb, length, drop, Float}
use Rattle.std.specs.Float.{float_zero}
use Rattle.plane.specs.Plane.{interior_above, Object, points, line, region}
use Rattle.scene.specs.declared.Layout.{Layout}
use Rattle.scene.specs.declared.Shape.TheVariants.{Line, Region}
use Rattle.scene.specs.Read.{most, number_of, CheckedObject}
use Rattle.scene.specs.Conditions.{check_object}
use Rattle.scene_written.specs.Bytes.{Item, bytes_of}
use Rattle.scene_written.specs.Arranged.{shape_in, object_bytes}
use Rattle.scene_writing.specs.Settled.{settled_items}
use Rattle.wkb_grammar.specs.Fields.{type_at}
use Rattle.wkb_grammar.specs.Grammar.{place_of, value_of, Read, got, bad, Row, file}
use Rattle.wkb_grammar.specs.Grammar.{number_of as fault_number}
use Rattle.wkb_rows.specs.Rows.{points_of, segments_of}
use Rattle.wkb_reading.specs.declared.ReadFault.{ReadFault}
use Rattle.wkb_reading.specs.declared.ReadFault.TheVariants.{Bytes, TooMany, Refused, ShortBuffer}

-- "Read MultiPoint, MultiLineString and MultiPolygon .. into one of our objects": by the file's type. "Equal points and equal segments in the input are taken once."
abbrev pub object_of : ℕ → List (List Row) → Object
object_of type parts = cond (eqb type 4) (points (points_of parts)) (cond (eqb type 5) (line (segments_of parts)) (region (segments_of parts)))

-- its elements: a segment has two halfsegments
abbrev pub elements_in : Object → ℕ
elements_in (points l) = length l
elements_in (line l) = 2 * length l
elements_in (region l) = 2 * length l

-- the object's elements, each segment as two halfsegments, "ia as 01's condition 14 has it". Where 01 has no order, at collinear halfsegments with a common end on
-- the same side, both are kept, side by side: 01's check then finds 10.
abbrev pub items_in : (o : Object) → List (Item (shape_in o))
items_in (points l) = l
items_in (line l) = settled_items Line l []
items_in (region l) = settled_items Region l (map (interior_above l) l)

-- and its bytes
abbrev pub bytes_in : Object → List ℕ
bytes_in o = bytes_of (shape_in o) (items_in o)

-- Where 01's checks accept them, no two halfsegments were without an order, and these are the bytes of the object as it is written.
abbrev pub AsWritten : Object → Type 0
AsWritten o = (l : Layout) → check_object (bytes_in o) ≡ Ok l → bytes_in o ≡ object_bytes o

-- so is every file's object of at most 1,024 elements
abbrev pub ReadAsWritten : List ℕ → Type 0
ReadAsWritten s = (parts : List (List Row)) (end : ℕ) → file s ≡ got parts end → elements_in (object_of (type_at s 0) parts) ≤ most → AsWritten (object_of (type_at s 0) parts)

-- ---- the answer

-- bytes, after 01's checks of them
abbrev pub checked_bytes : List ℕ → CheckedObject → Result (List ℕ) ReadFault
checked_bytes bytes (Err r) = Err (Refused r.reason)
checked_bytes bytes (Ok l) = Ok bytes

-- what was made of an object: its bytes, or "20 at the type record of the first object that would pass 1,024 elements", or what 01's checks refuse
abbrev pub Makes : Object → Result (List ℕ) ReadFault → Type 0
Makes o made = made ≡ cond (ltb most (elements_in o)) (Err TooMany) (checked_bytes (bytes_in o) (check_object (bytes_in o)))

-- the length of what was written, or what is wrong
abbrev pub ReadAnswer : Type 0
ReadAnswer = Result ℕ ReadFault

-- 21 where the buffer, of this length, has no room for the object's bytes
abbrev pub handed : List ℕ → ℕ → ReadAnswer
handed bytes room = cond (ltb room (length bytes)) (Err ShortBuffer) (Ok (length bytes))

-- 01's checks before it
abbrev pub fitted : List ℕ → ℕ → CheckedObject → ReadAnswer
fitted bytes room (Err r) = Err (Refused r.reason)
fitted bytes room (Ok l) = handed bytes room

-- 20, "that would pass 1,024 elements", before them
unfoldable pub read_object : Object → ℕ → ReadAnswer
read_object o room = cond (ltb most (elements_in o)) (Err TooMany) (fitted (bytes_in o) room (check_object (bytes_in o)))

-- 24, 25 and 26 before all
abbrev pub read_parts : ℕ → Read (List (List Row)) → ℕ → ReadAnswer
read_parts type (bad f) room = Err (Bytes f)
read_parts type (got parts end) room = read_object (object_of type parts) room

unfoldable pub read_file : List ℕ → ℕ → ReadAnswer
read_file s room = read_parts (type_at s 0) (file s) room

-- "A call that fills a lent buffer gives the length it wrote and touches no later byte", and "every refusal has .. the lent buffer unchanged".
abbrev pub filled : List ℕ → ReadAnswer → List ℕ → List ℕ
filled bytes (Ok n) before = bytes ++ drop n before
filled bytes (Err e) before = before

abbrev pub file_bytes : ℕ → Read (List (List Row)) → List ℕ
file_bytes type (bad f) = []
file_bytes type (got parts end) = bytes_in (object_of type parts)

unfoldable pub buffer_after : List ℕ → List ℕ → List ℕ
buffer_after s before = filled (file_bytes (type_at s 0) (file s)) (read_file s (length before)) before

-- "Where an answer is an enum, a definition states this paper's number and values for every one of its cases." "The number that goes back with 25 is the one result a
-- refusal has beside 01's zeros."
pub record ReadValues : Type 0 where
  pub number : ℕ
  pub place : ℕ
  pub length : ℕ
  pub value : Float

abbrev pub refusal : ℕ → ReadValues
refusal number = record { number = number; place = 0; length = 0; value = float_zero }

abbrev pub read_values : ReadAnswer → ReadValues
read_values (Ok n) = record { number = 0; place = 0; length = n; value = float_zero }
read_values (Err (Bytes f)) = record { number = fault_number f; place = place_of f; length = 0; value = value_of f }
read_values (Err TooMany) = refusal 20
read_values (Err (Refused r)) = refusal (number_of r)
read_values (Err ShortBuffer) = refusal 21
