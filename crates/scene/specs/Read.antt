-- Reading a scene: document 01's section "Scene bytes", and the refusals 1 to 7 of "What is turned away".
-- Bytes are a list of numbers, an offset counts from 0, and nothing is decoded: an element is read where its record stands.
use Rattle.std.specs.Prelude.{Option, Some, None, Result, Ok, Err, ℕ, zero, suc, ◌+◌, ◌*◌, ◌^◌, ◌≡◌, Bool, true, false, not, ◌&&◌, cond, List, [], ◌∷◌, length, get_or, leb, ltb, eqb, ℤ, pos, ◌-ℤ◌}
use Rattle.plane.specs.declared.Point.{Point}
use Rattle.plane.specs.declared.Segment.{Segment}
use Rattle.plane.specs.declared.Halfsegment.{Halfsegment}
use Rattle.plane.specs.Plane.{in_range, segment_in_range, ordered}
use Rattle.scene.specs.declared.Shape.{Shape}
use Rattle.scene.specs.declared.Shape.TheVariants.{Points, Line, Region}
use Rattle.scene.specs.declared.Kind.{Kind}
use Rattle.scene.specs.declared.Kind.TheVariants.{Start, Element, End, Unknown}
use Rattle.scene.specs.declared.Layout.{Layout}
use Rattle.scene.specs.declared.Scene.{Scene}
use Rattle.scene.specs.declared.Refusal.{Refusal}
use Rattle.scene.specs.declared.Flaw.{Flaw}
use Rattle.scene.specs.declared.Flaw.TheVariants.{Misplaced, Unpaired, Touching, OddEnd, WrongIa, TouchingAcross}
use Rattle.scene.specs.declared.Reason.{Reason}
use Rattle.scene.specs.declared.Reason.TheVariants.{CutShort, WrongKind, WrongField, OutOfRange, EndsReversed, TooMany, MoreBytes, StrayFlag, Flawed, NotRegions, ShortBuffer, BadSummary, OffGrid, TooManyElements, NoRoom, NotNine, NoCharacter, Malformed, BadWindow, TooManySummaries}

-- ---- the bytes of an element

abbrev pub byte : List ℕ → ℕ → ℕ
byte s at = get_or s at 0

-- "coordinates are signed 32-bit, low byte first"
unfoldable pub signed : ℕ → ℤ
signed n = cond (ltb n (2 ^ 31)) (pos n) (pos n -ℤ pos (2 ^ 32))

abbrev pub word : List ℕ → ℕ → ℕ
word s at = byte s at + 256 * byte s (at + 1) + 65536 * byte s (at + 2) + 16777216 * byte s (at + 3)

unfoldable pub coordinate : List ℕ → ℕ → ℤ
coordinate s at = signed (word s at)

abbrev pub point_from : List ℕ → ℕ → Point
point_from s at = record { x = coordinate s at; y = coordinate s (at + 4) }

-- "P(x,y)", "L(left x, left y, right x, right y, d)", "R(as L, then ia)": what the record at an offset holds, after its kind byte
abbrev pub point_at : List ℕ → ℕ → Point
point_at s at = point_from s (at + 1)

abbrev pub segment_at : List ℕ → ℕ → Segment
segment_at s at = record { left = point_from s (at + 1); right = point_from s (at + 9) }

abbrev pub halfsegment_at : List ℕ → ℕ → Halfsegment
halfsegment_at s at = record { segment = segment_at s at; is_left = eqb (byte s (at + 17)) 1 }

abbrev pub ia_at : List ℕ → ℕ → Bool
ia_at s at = eqb (byte s (at + 18)) 1

-- ---- records

-- "84 type", "80 point", "76 line halfsegment", "82 region halfsegment", "69 end"
unfoldable pub kind_of : ℕ → Kind
kind_of b =
    cond (eqb b 84) Start
    (cond (eqb b 80) (Element Points)
    (cond (eqb b 76) (Element Line)
    (cond (eqb b 82) (Element Region)
    (cond (eqb b 69) End Unknown))))

abbrev pub kind_at : List ℕ → ℕ → Kind
kind_at s at = kind_of (byte s at)

-- "Each record is one byte of kind, then a body whose length the kind fixes."
abbrev pub body_length : Kind → ℕ
body_length Start = 1
body_length (Element Points) = 8
body_length (Element Line) = 17
body_length (Element Region) = 18
body_length End = 0
body_length Unknown = 0

-- "1 points, 2 line, 3 region"
abbrev pub shape_number : Shape → ℕ
shape_number Points = 1
shape_number Line = 2
shape_number Region = 3

unfoldable pub shape_of : ℕ → Shape
shape_of n = cond (eqb n 1) Points (cond (eqb n 2) Line Region)

-- ---- a record at fault

-- the numbers of "What is turned away", and of the requests: "18 summary not good", 19 to 21 of splitting, "22 pattern not of nine characters", "23 a character outside the
-- six", 24 and 21 of writing well-known binary, "27 not a window", "28 more than 64 summaries"
abbrev pub flaw_number : Flaw → ℕ
flaw_number Misplaced = 10
flaw_number Unpaired = 11
flaw_number Touching = 12
flaw_number OddEnd = 13
flaw_number WrongIa = 14
flaw_number TouchingAcross = 15

-- a condition by its number, as `fault_under` (check_conditions) is asked of it: every other number asks for the last
unfoldable pub flaw_of : ℕ → Flaw
flaw_of n =
    cond (eqb n 10) Misplaced
    (cond (eqb n 11) Unpaired
    (cond (eqb n 12) Touching
    (cond (eqb n 13) OddEnd
    (cond (eqb n 14) WrongIa TouchingAcross))))

abbrev pub number_of : Reason → ℕ
number_of CutShort = 1
number_of WrongKind = 2
number_of WrongField = 3
number_of OutOfRange = 4
number_of EndsReversed = 5
number_of TooMany = 6
number_of MoreBytes = 7
number_of StrayFlag = 9
number_of (Flawed f) = flaw_number f
number_of NotRegions = 16
number_of ShortBuffer = 17
number_of BadSummary = 18
number_of OffGrid = 19
number_of TooManyElements = 20
number_of NoRoom = 21
number_of NotNine = 22
number_of NoCharacter = 23
number_of Malformed = 24
number_of BadWindow = 27
number_of TooManySummaries = 28

-- "the earliest place at fault, if any" of one condition
abbrev pub Fault : Type 0
Fault = Option ℕ

-- what is due at an offset, an object and a scene, or a refusal
abbrev pub Record : Type 0
Record = Result Kind Refusal

abbrev pub CheckedObject : Type 0
CheckedObject = Result Layout Refusal

abbrev pub CheckedScene : Type 0
CheckedScene = Result Scene Refusal

-- a condition's fault with its number; and the first of several conditions that has one refuses
pub record Condition : Type 0 where
  pub reason : Reason
  pub fault : Fault

abbrev pub unless : Bool → ℕ → Fault
unless true place = None
unless false place = Some place

abbrev pub condition : Reason → Fault → Condition
condition n f = record { reason = n; fault = f }

module _ {A : Type 0} (refuse : Refusal → A) where
  abbrev pub decide : Reason → Fault → A → A
  decide n (Some p) rest = refuse (record { reason = n; place = p })
  decide n None rest = rest

  abbrev pub judge : A → List Condition → A
  judge taken [] = taken
  judge taken (c ∷ cs) = decide c.reason c.fault (judge taken cs)

-- "kind not allowed here": an object begins with a type record, and in it stand "elements of its kind, and an end"
abbrev pub starts_object : Kind → Bool
starts_object Start = true
starts_object (Element e) = false
starts_object End = false
starts_object Unknown = false

abbrev pub stands_in : Shape → Kind → Bool
stands_in k Start = false
stands_in k (Element e) = eqb (shape_number e) (shape_number k)
stands_in k End = true
stands_in k Unknown = false

-- "element 1,025 of an object"
abbrev pub has_room : Bool → Kind → Bool
has_room full Start = true
has_room full (Element e) = not full
has_room full End = true
has_room full Unknown = true

module _ (s : List ℕ) (at : ℕ) where
  -- "type not 1 to 3; d or ia not 0 or 1"
  abbrev pub fields_good : Kind → Bool
  fields_good Start = leb 1 (byte s (at + 1)) && leb (byte s (at + 1)) 3
  fields_good (Element Points) = true
  fields_good (Element Line) = leb (byte s (at + 17)) 1
  fields_good (Element Region) = leb (byte s (at + 17)) 1 && leb (byte s (at + 18)) 1
  fields_good End = true
  fields_good Unknown = true

  -- "coordinate outside the range"
  abbrev pub coordinates_good : Kind → Bool
  coordinates_good Start = true
  coordinates_good (Element Points) = in_range (point_at s at)
  coordinates_good (Element Line) = segment_in_range (segment_at s at)
  coordinates_good (Element Region) = segment_in_range (segment_at s at)
  coordinates_good End = true
  coordinates_good Unknown = true

  -- "left end not before right"
  abbrev pub ends_good : Kind → Bool
  ends_good Start = true
  ends_good (Element Points) = true
  ends_good (Element Line) = ordered (segment_at s at)
  ends_good (Element Region) = ordered (segment_at s at)
  ends_good End = true
  ends_good Unknown = true

  -- "Within a record: 1 for no byte, 2, 6, 1 for a cut body, 3, 4, 5." "The place is the record at fault"; "For 1 it is the cut record, or the
  -- length if none began."
  abbrev pub field_conditions : Kind → List Condition
  field_conditions k =
      condition WrongField (unless (fields_good k) at)
      ∷ condition OutOfRange (unless (coordinates_good k) at)
      ∷ condition EndsReversed (unless (ends_good k) at)
      ∷ []

  abbrev pub record_conditions : (Kind → Bool) → Bool → Kind → List Condition
  record_conditions allowed full k =
      condition CutShort (unless (ltb at (length s)) (length s))
      ∷ condition WrongKind (unless (allowed k) at)
      ∷ condition TooMany (unless (has_room full k) at)
      ∷ condition CutShort (unless (leb (at + 1 + body_length k) (length s)) at)
      ∷ field_conditions k

  unfoldable pub record_at : (Kind → Bool) → Bool → Record
  record_at allowed full = judge Err (Ok (kind_at s at)) (record_conditions allowed full (kind_at s at))

-- ---- an object

-- Element i stands at first + i * size; after the last stands the end record, and after that the next object.
abbrev pub size : Shape → ℕ
size k = 1 + body_length (Element k)

abbrev pub place : Layout → ℕ → ℕ
place l i = l.start + 2 + i * size l.shape

abbrev pub end_place : Layout → ℕ
end_place l = place l l.count

abbrev pub after : Layout → ℕ
after l = end_place l + 1

-- "An object is a type record, 0 to 1,024 elements of its kind, and an end."
abbrev pub most : ℕ
most = 1024

abbrev pub one_more : Layout → Layout
one_more l = record { shape = l.shape; start = l.start; count = l.count + 1 }

abbrev pub is_end : Kind → Bool
is_end Start = false
is_end (Element e) = false
is_end End = true
is_end Unknown = false

-- Numbers 1 to 7 "are found record by record": l is what has been read of the object, and as many elements as are left may follow. An end closes
-- the object; any other good record is an element, and the rest follows. Where none is left, no good record is an element.
abbrev pub next : Record → Layout → CheckedObject → CheckedObject
next (Err r) l rest = Err r
next (Ok k) l rest = cond (is_end k) (Ok l) rest

unfoldable pub elements_from : List ℕ → ℕ → Layout → CheckedObject
elements_from s zero l = next (record_at s (end_place l) (stands_in l.shape) true) l (Ok l)
elements_from s (suc left) l =
    let rest = elements_from s left (one_more l) in
    next (record_at s (end_place l) (stands_in l.shape) false) l rest

abbrev pub begun : Record → CheckedObject → CheckedObject
begun (Err r) rest = Err r
begun (Ok k) rest = rest

unfoldable pub read_object : List ℕ → ℕ → CheckedObject
read_object s at =
    let rest = elements_from s most (record { shape = shape_of (byte s (at + 1)); start = at; count = 0 }) in
    begun (record_at s at starts_object false) rest

-- ---- a scene

-- 02, Paper 1: "A scene with F's type above G's should be read as the scene with the objects exchanged". So F's type is never above G's, whichever object the
-- bytes have first.
abbrev pub descends : Shape → Shape → Bool
descends a b = ltb (shape_number b) (shape_number a)

abbrev pub arranged : Layout → Layout → Scene
arranged a b = cond (descends a.shape b.shape) (record { f = b; g = a }) (record { f = a; g = b })

-- The objects were exchanged: F's records stand after G's.
abbrev pub turned : Scene → Bool
turned sc = ltb sc.g.start sc.f.start

-- "in the caller's order": of what is F's and what is G's, that of the object given first, or, with the two exchanged, of the object given second. And of what
-- the caller gives for each of the two objects, that which is for F, or for G.
abbrev pub as_given : {A : Type 0} → Scene → A → A → A
as_given sc a b = cond (turned sc) b a

abbrev pub given_first : Scene → Layout
given_first sc = as_given sc sc.f sc.g

abbrev pub given_second : Scene → Layout
given_second sc = as_given sc sc.g sc.f

-- "A scene is two objects, F then G, and no more": 7 is the first byte after the last end
abbrev pub ends_with : List ℕ → Layout → Condition
ends_with s l = condition MoreBytes (unless (leb (length s) (after l)) (after l))

abbrev pub scene_with_second : List ℕ → Layout → CheckedObject → CheckedScene
scene_with_second s a (Err r) = Err r
scene_with_second s a (Ok b) = judge Err (Ok (arranged a b)) (ends_with s b ∷ [])

abbrev pub scene_with_first : List ℕ → CheckedObject → CheckedScene
scene_with_first s (Err r) = Err r
scene_with_first s (Ok a) = scene_with_second s a (read_object s (after a))

unfoldable pub read_scene : List ℕ → CheckedScene
read_scene s = scene_with_first s (read_object s 0)

-- "A call on one object takes 1 to 7 .. over its bytes alone, 7 being bytes after its end."
abbrev pub alone : List ℕ → CheckedObject → CheckedObject
alone s (Err r) = Err r
alone s (Ok l) = judge Err (Ok l) (ends_with s l ∷ [])

unfoldable pub read_alone : List ℕ → CheckedObject
read_alone s = alone s (read_object s 0)

-- ---- a layout of these bytes: what the functions on a layout require, and reading gives

abbrev pub IsObject : List ℕ → Layout → Type 0
IsObject s l = read_object s l.start ≡ Ok l

abbrev pub IsScene : List ℕ → Scene → Type 0
IsScene s sc = read_scene s ≡ Ok sc

-- ---- the numbers and values of an answer

-- "Where an answer is an enum, a definition states this paper's number and values for every one of its cases." What is taken has number 0;
-- "Every refusal has .. all other results 0".
pub record Values : Type 0 where
  pub number : ℕ
  pub place : ℕ
  pub types : List ℕ

abbrev pub scene_values : CheckedScene → Values
scene_values (Ok sc) = record { number = 0; place = 0; types = shape_number (given_first sc).shape ∷ shape_number (given_second sc).shape ∷ [] }
scene_values (Err r) = record { number = number_of r.reason; place = r.place; types = 0 ∷ 0 ∷ [] }

abbrev pub object_values : CheckedObject → Values
object_values (Ok l) = record { number = 0; place = 0; types = shape_number l.shape ∷ [] }
object_values (Err r) = record { number = number_of r.reason; place = r.place; types = 0 ∷ [] }
