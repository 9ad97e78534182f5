-- The splitter, for every byte string and every buffer: "it takes two lines, two regions or one of each that pass every check but 15, cuts each segment where it
-- crosses or touches one of the other object, and at both ends of a stretch in common, and writes an accepted scene to a lent buffer, with the count of added
-- segments for each object." (02, Paper 3). F is the object that the bytes have first.
use Rattle.std.specs.Prelude.{ℕ, ◌*◌, Bool, not, ◌&&◌, cond, List, [], ◌∷◌, ◌++◌, map, leb, length, drop, Result, Ok, Err, None}
use Rattle.plane.specs.declared.Segment.{Segment}
use Rattle.plane.specs.Plane.{Object, line, region}
use Rattle.scene.specs.declared.Shape.{Shape}
use Rattle.scene.specs.declared.Shape.TheVariants.{Points, Line, Region}
use Rattle.scene.specs.declared.Layout.{Layout}
use Rattle.scene.specs.declared.Scene.{Scene}
use Rattle.scene.specs.declared.Refusal.{Refusal}
use Rattle.scene.specs.declared.Reason.TheVariants.{OffGrid, TooManyElements, NoRoom}
use Rattle.scene.specs.Read.{Fault, CheckedScene, most, unless, number_of, given_first, given_second}
use Rattle.scene.specs.Conditions.{has_segments, segments, object, Rule, rule, or_else, over_both, object_rules, check_scene_by}
use Rattle.scene_written.specs.Arranged.{object_bytes}
use Rattle.split_crossing.specs.Cuts.{split_by, added_by}
use Rattle.split_cuts.specs.Split.{off_grid}
use Rattle.split.specs.declared.Splitted.{Splitted}

-- ---- what is written

-- the segments of an object, split by the other's, and how many are added
abbrev pub split_of : List ℕ → Layout → Layout → List Segment
split_of s own other = split_by (segments s other) (segments s own)

abbrev pub added_to : List ℕ → Layout → Layout → ℕ
added_to s own other = added_by (segments s other) (segments s own)

-- the object that they make, of the type that it had; points stay as they are
abbrev pub of_shape : Shape → Object → List Segment → Object
of_shape Points o l = o
of_shape Line o l = line l
of_shape Region o l = region l

unfoldable pub split_object : List ℕ → Layout → Layout → Object
split_object s own other = of_shape own.shape (object s own) (split_of s own other)

-- "A scene holding a points object is copied."
abbrev pub is_copied : Scene → Bool
is_copied sc = not (has_segments (given_first sc).shape && has_segments (given_second sc).shape)

unfoldable pub split_bytes : List ℕ → Scene → List ℕ
split_bytes s sc =
    cond (is_copied sc) s (object_bytes (split_object s (given_first sc) (given_second sc)) ++ object_bytes (split_object s (given_second sc) (given_first sc)))

-- ---- what is refused: "after 14, with 19 at the earliest record of F that crosses at a point off the grid, 20 at the type record of the first object that would
-- pass 1,024 elements, and 21 at place 0 if the buffer is too short". A scene that is copied is split nowhere: neither 19 nor 20 is asked of it.

abbrev pub unless_copied : Scene → Fault → Fault
unless_copied sc f = cond (is_copied sc) None f

abbrev pub is_off : List ℕ → Scene → Fault
is_off s sc = unless_copied sc (off_grid s (given_first sc) (segments s (given_second sc)))

-- two elements for each segment
abbrev pub too_many : List ℕ → Layout → Layout → Fault
too_many s own other = unless (leb (2 * length (split_of s own other)) most) own.start

abbrev pub are_too_many : List ℕ → Scene → Fault
are_too_many s sc = unless_copied sc (or_else (too_many s (given_first sc) (given_second sc)) (too_many s (given_second sc) (given_first sc)))

abbrev pub is_too_short : ℕ → List ℕ → Scene → Fault
is_too_short room s sc = unless (leb (length (split_bytes s sc)) room) 0

-- "every check but 15": 1 to 7 in reading, then 10 to 14 over both objects
abbrev pub raw_rules : List (Rule Scene)
raw_rules = map over_both object_rules

unfoldable pub check_raw : List ℕ → CheckedScene
check_raw s = check_scene_by raw_rules s

abbrev pub own_rules : ℕ → List (Rule Scene)
own_rules room = rule OffGrid is_off ∷ rule TooManyElements are_too_many ∷ rule NoRoom (is_too_short room) ∷ []

abbrev pub split_rules : ℕ → List (Rule Scene)
split_rules room = raw_rules ++ own_rules room

unfoldable pub check_split : List ℕ → ℕ → CheckedScene
check_split s room = check_scene_by (split_rules room) s

-- ---- the answer, and the buffer after the call

-- the counts of added segments and the length, or the refusal
abbrev pub SplitAnswer : Type 0
SplitAnswer = Result Splitted Refusal

abbrev pub splitted : List ℕ → Scene → Splitted
splitted s sc =
    record {
      added_f = added_to s (given_first sc) (given_second sc);
      added_g = added_to s (given_second sc) (given_first sc);
      length = length (split_bytes s sc);
    }

abbrev pub answer : List ℕ → CheckedScene → SplitAnswer
answer s (Err r) = Err r
answer s (Ok sc) = Ok (splitted s sc)

-- the number and the values of every answer: "Every refusal has .. counts, lengths and all other results 0 .. and the lent buffer unchanged."
pub record SplitValues : Type 0 where
  pub number : ℕ
  pub place : ℕ
  pub added_f : ℕ
  pub added_g : ℕ
  pub length : ℕ

abbrev pub split_values : SplitAnswer → SplitValues
split_values (Err r) = record { number = number_of r.reason; place = r.place; added_f = 0; added_g = 0; length = 0 }
split_values (Ok w) = record { number = 0; place = 0; added_f = w.added_f; added_g = w.added_g; length = w.length }

-- "A call that fills a lent buffer gives the length it wrote and touches no later byte."
abbrev pub filled : List ℕ → List ℕ → CheckedScene → List ℕ
filled s buffer (Err r) = buffer
filled s buffer (Ok sc) = split_bytes s sc ++ drop (length (split_bytes s sc)) buffer

abbrev pub split_answer : List ℕ → List ℕ → SplitAnswer
split_answer s buffer = answer s (check_split s (length buffer))

abbrev pub split_buffer : List ℕ → List ℕ → List ℕ
split_buffer s buffer = filled s buffer (check_split s (length buffer))
