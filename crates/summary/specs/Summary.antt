-- Summaries: 02's Paper 2, sentence by sentence. A quotation names the sentence that a definition renders.
use Rattle.scene.specs.declared.Reason.TheVariants.{BadSummary}
use Rattle.scene.specs.Read.{number_of}
use Rattle.std.specs.Prelude.{ℕ, ◌+◌, ◌≡◌, Bool, true, false, not, ◌&&◌, ◌||◌, cond, Option, Some, None, Result, Ok, Err, List, [], ◌∷◌, T, leb, eqb, length, ℤ, pos}
use Rattle.std.specs.Int.Signed.{lt_z, le_z}
use Rattle.whole.specs.Count.{eq_z, bit}
use Rattle.plane.specs.declared.Point.{Point}
use Rattle.plane.specs.declared.Segment.{Segment}
use Rattle.plane.specs.Plane.{in_range}
use Rattle.scene.specs.declared.Shape.{Shape}
use Rattle.scene.specs.declared.Shape.TheVariants.{Points, Line, Region}
use Rattle.scene.specs.declared.Refusal.{Refusal}
use Rattle.scene.specs.Read.{byte, point_at, shape_number, descends}
use Rattle.scene.specs.Read as Read
use Rattle.scene_written.specs.Bytes.{digit}
use Rattle.flags.specs.Flags.{Elements, points, line, region, outline, is_bound, has_some_end, pack}
use Rattle.flags_vectors.specs.declared.Vectors.{Vectors}
use Rattle.summary.specs.declared.Bounds.{Bounds}
use Rattle.summary.specs.declared.Summary.{Summary}

-- ---- what a summary holds

-- "type, a byte 1 if it is empty, least x, least y, greatest x, greatest y, and a byte 1 if its boundary has a point": `Summary` and `Bounds` of src/lib.rt

-- ---- the summary of an object

-- all points that the elements name: both ends of each segment
abbrev pub ends : List Segment → List Point
ends [] = []
ends (s ∷ l) = s.left ∷ s.right ∷ ends l

abbrev pub corners : Elements → List Point
corners (points l) = l
corners (line l) = ends l
corners (region l) = ends (outline l)

unfoldable pub lesser : ℤ → ℤ → ℤ
lesser a b = cond (le_z a b) a b

unfoldable pub greater : ℤ → ℤ → ℤ
greater a b = cond (le_z a b) b a

-- a box with one more point in it
abbrev pub widen : Bounds → Point → Bounds
widen b p =
    record {
      least = record { x = lesser b.least.x p.x; y = lesser b.least.y p.y };
      greatest = record { x = greater b.greatest.x p.x; y = greater b.greatest.y p.y };
    }

abbrev pub grow : Bounds → List Point → Bounds
grow b [] = b
grow b (p ∷ l) = grow (widen b p) l

abbrev pub origin : Point
origin = record { x = pos 0; y = pos 0 }

-- "an empty object has four zeros"
abbrev pub box_of : List Point → Bounds
box_of [] = record { least = origin; greatest = origin }
box_of (p ∷ l) = grow (record { least = p; greatest = p }) l

abbrev pub none : {A : Type 0} → List A → Bool
none [] = true
none (a ∷ l) = false

-- "a byte 1 if its boundary has a point": points have no boundary; a line's are the ends that the rule takes; a region's are all its segments' points
abbrev pub has_boundary : Elements → Bool
has_boundary (points l) = false
has_boundary (line l) = has_some_end (λ s v. is_bound l v) l
has_boundary (region l) = not (none l)

abbrev pub shape_of : Elements → Shape
shape_of (points l) = Points
shape_of (line l) = Line
shape_of (region l) = Region

abbrev pub is_empty : Elements → Bool
is_empty (points l) = none l
is_empty (line l) = none l
is_empty (region l) = none l

abbrev pub summary_of : Elements → Summary
summary_of o = record { shape = shape_of o; empty = is_empty o; bounds = box_of (corners o); boundary = has_boundary o }

-- ---- good and bad

abbrev pub is_flat : Bounds → Bool
is_flat b = eq_z b.least.x b.greatest.x || eq_z b.least.y b.greatest.y

abbrev pub is_point : Bounds → Bool
is_point b = eq_z b.least.x b.greatest.x && eq_z b.least.y b.greatest.y

abbrev pub is_origin : Point → Bool
is_origin p = eq_z p.x (pos 0) && eq_z p.y (pos 0)

-- "A summary is bad if its .. range is wrong, a least is above its greatest"
unfoldable pub good_box : Bounds → Bool
good_box b = in_range b.least && in_range b.greatest && le_z b.least.x b.greatest.x && le_z b.least.y b.greatest.y

-- "or it breaks the empty rule. So are points with boundary byte 1, and a non-empty line whose box is one point, or is flat with boundary byte 0. So is
-- a non-empty region whose box is flat or whose boundary byte is 0."
abbrev pub good_for : Shape → Bool → Bounds → Bool → Bool
good_for t true b y = is_origin b.least && is_origin b.greatest && not y
good_for Points false b y = not y
good_for Line false b y = not (is_point b) && (y || not (is_flat b))
good_for Region false b y = y && not (is_flat b)

abbrev pub is_good : Summary → Bool
is_good s = good_box s.bounds && good_for s.shape s.empty s.bounds s.boundary

-- ---- what two summaries tell

-- "if the boxes share no point or an object is empty": boxes that touch share a point, and the four zeros of an empty object are no box
unfoldable pub beside : Bounds → Bounds → Bool
beside b c =
    lt_z b.greatest.x c.least.x || lt_z c.greatest.x b.least.x
    || (lt_z b.greatest.y c.least.y || lt_z c.greatest.y b.least.y)

abbrev pub are_far : Summary → Summary → Bool
are_far s t = s.empty || t.empty || beside s.bounds t.bounds

-- The same as a sentence: neither is empty, and some point lies in both boxes, edges included.
pub record Within (b : Bounds) (p : Point) : Type 0 where
  pub from_x : T (le_z b.least.x p.x)
  pub from_y : T (le_z b.least.y p.y)
  pub to_x : T (le_z p.x b.greatest.x)
  pub to_y : T (le_z p.y b.greatest.y)

pub record Near (s t : Summary) : Type 0 where
  pub first_filled : s.empty ≡ false
  pub second_filled : t.empty ≡ false
  pub point : Point
  pub in_first : Within s.bounds point
  pub in_second : Within t.bounds point

-- The flags of far objects, bit 0 first, F's type not above G's: n says that the object is not empty, b that its boundary has a point.
abbrev pub flags_f : Shape → Shape → Bool → Bool → List Bool
flags_f Points Points n b = n ∷ false ∷ []
flags_f Points Line n b = n ∷ false ∷ false ∷ []
flags_f Points Region n b = false ∷ false ∷ n ∷ []
flags_f Line Line n b = false ∷ false ∷ n ∷ false ∷ false ∷ b ∷ []
flags_f Line Region n b = false ∷ false ∷ n ∷ false ∷ false ∷ false ∷ b ∷ []
flags_f Region Region n b = n ∷ n ∷ false ∷ false ∷ false ∷ false ∷ false ∷ false ∷ []
flags_f Line Points n b = []
flags_f Region Points n b = []
flags_f Region Line n b = []

abbrev pub flags_g : Shape → Shape → Bool → Bool → List Bool
flags_g Points Points n b = n ∷ []
flags_g Points Line n b = b ∷ []
flags_g Points Region n b = []
flags_g Line Line n b = n ∷ false ∷ b ∷ []
flags_g Line Region n b = n ∷ []
flags_g Region Region n b = n ∷ n ∷ false ∷ false ∷ []
flags_g Line Points n b = []
flags_g Region Points n b = []
flags_g Region Line n b = []

-- the vectors of F and of G
abbrev pub ascending_vectors : Summary → Summary → Vectors
ascending_vectors s t =
    record {
      f = pack (flags_f s.shape t.shape (not s.empty) s.boundary);
      g = pack (flags_g s.shape t.shape (not t.empty) t.boundary);
    }

-- Paper 1: "A scene with F's type above G's should be read as the scene with the objects exchanged, with .. all that is .. returned .. in the caller's order"
abbrev pub swapped : Vectors → Vectors
swapped v = record { f = v.g; g = v.f }

abbrev pub far_vectors : Summary → Summary → Vectors
far_vectors s t = cond (descends s.shape t.shape) (swapped (ascending_vectors t s)) (ascending_vectors s t)

-- "the library hands back both vectors if the boxes share no point or an object is empty, and "look" with zero vectors otherwise": "look" is `None`
unfoldable pub told_of : Summary → Summary → Option Vectors
told_of s t = cond (are_far s t) (Some (far_vectors s t)) None

-- ---- the 20 bytes

-- "It has 20 bytes"
abbrev pub size : ℕ
size = 20

-- "a record of kind 83: type, a byte 1 if it is empty, least x, least y, greatest x, greatest y, and a byte 1 if its boundary has a point": what the record
-- at an offset holds. `point_at` reads the two coordinates that stand after an offset's own byte.
abbrev pub summary_at : List ℕ → ℕ → Summary
summary_at s at =
    record {
      shape = Read.shape_of (byte s (at + 1));
      empty = eqb (byte s (at + 2)) 1;
      bounds = record { least = point_at s (at + 2); greatest = point_at s (at + 10) };
      boundary = eqb (byte s (at + 19)) 1;
    }

-- and its 20 bytes, coordinates as in an object's bytes, low byte first
abbrev pub bytes_of : Summary → List ℕ
bytes_of s =
    83
    ∷ shape_number s.shape
    ∷ bit s.empty
    ∷ digit s.bounds.least.x 1
    ∷ digit s.bounds.least.x 256
    ∷ digit s.bounds.least.x 65536
    ∷ digit s.bounds.least.x 16777216
    ∷ digit s.bounds.least.y 1
    ∷ digit s.bounds.least.y 256
    ∷ digit s.bounds.least.y 65536
    ∷ digit s.bounds.least.y 16777216
    ∷ digit s.bounds.greatest.x 1
    ∷ digit s.bounds.greatest.x 256
    ∷ digit s.bounds.greatest.x 65536
    ∷ digit s.bounds.greatest.x 16777216
    ∷ digit s.bounds.greatest.y 1
    ∷ digit s.bounds.greatest.y 256
    ∷ digit s.bounds.greatest.y 65536
    ∷ digit s.bounds.greatest.y 16777216
    ∷ bit s.boundary
    ∷ []

-- "A summary is bad if its .. kind, type, yes-or-no byte .. is wrong"
abbrev pub fields_good : ℕ → ℕ → ℕ → ℕ → Bool
fields_good kind type empty boundary = eqb kind 83 && (leb 1 type && leb type 3) && (leb empty 1 && leb boundary 1)

abbrev pub fields_good_at : List ℕ → ℕ → Bool
fields_good_at s at = fields_good (byte s at) (byte s (at + 1)) (byte s (at + 2)) (byte s (at + 19))

-- the 20 bytes at an offset are those of a good summary
unfoldable pub good_at : List ℕ → ℕ → Bool
good_at s at = fields_good_at s at && is_good (summary_at s at)

-- "A summary is bad if its length .. is wrong"
unfoldable pub good_bytes : List ℕ → Bool
good_bytes s = eqb (length s) size && good_at s 0

-- the summary that a byte string is, if it is a good one
abbrev pub parsed_summary : List ℕ → Option Summary
parsed_summary s = cond (good_bytes s) (Some (summary_at s 0)) None

-- ---- the far question

-- "Before anything else it refuses 18, with place 0 or 1 for the first bad summary."
abbrev pub bad : ℕ → Result (Option Vectors) Refusal
bad place = Err (record { reason = BadSummary; place = place })

unfoldable pub asked_of : List ℕ → List ℕ → Result (Option Vectors) Refusal
asked_of s t = cond (good_bytes s) (cond (good_bytes t) (Ok (told_of (summary_at s 0) (summary_at t 0))) (bad 1)) (bad 0)

-- "Where an answer is an enum, a definition states this paper's number and values for every one of its cases." What is told has number 0; ""look" with zero
-- vectors"; a refusal has zero vectors too, and is no "look".
pub record FarValues : Type 0 where
  pub number : ℕ
  pub place : ℕ
  pub look : Bool
  pub f : ℕ
  pub g : ℕ

abbrev pub far_values : Result (Option Vectors) Refusal → FarValues
far_values (Ok (Some v)) = record { number = 0; place = 0; look = false; f = v.f; g = v.g }
far_values (Ok None) = record { number = 0; place = 0; look = true; f = 0; g = 0 }
far_values (Err r) = record { number = number_of r.reason; place = r.place; look = false; f = 0; g = 0 }
