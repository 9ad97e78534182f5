-- The call to write an object as well-known binary into a lent buffer: its number, place and length, and the buffer after it.
use Rattle.std.specs.Prelude.{Result, Ok, Err, ℕ, cond, List, [], ◌++◌, leb, length, drop}
use Rattle.plane.specs.Plane.{Object, points, line, region}
use Rattle.scene.specs.declared.Refusal.{Refusal}
use Rattle.scene.specs.declared.Reason.TheVariants.{NoRoom, Malformed}
use Rattle.scene.specs.Read.{number_of, CheckedObject}
use Rattle.scene.specs.Conditions.{object, check_object}
use Rattle.wkb_writing.specs.Wkb.{wkb_of}

-- the length of what was written, or a refusal
abbrev pub WriteAnswer : Type 0
WriteAnswer = Result ℕ Refusal

-- "a region with 24 and a short buffer with 21, at place 0"
abbrev pub no_region : WriteAnswer
no_region = Err (record { reason = Malformed; place = 0 })

abbrev pub no_room : WriteAnswer
no_room = Err (record { reason = NoRoom; place = 0 })

abbrev pub fitted : ℕ → ℕ → WriteAnswer
fitted long room = cond (leb long room) (Ok long) no_room

-- an accepted object, and the length of the buffer
abbrev pub written_as : Object → ℕ → WriteAnswer
written_as (points l) room = fitted (length (wkb_of (points l))) room
written_as (line l) room = fitted (length (wkb_of (line l))) room
written_as (region l) room = no_region

-- "The writer refuses, after the object's own refusals": 1 to 7 and 10 to 14 over its bytes alone
abbrev pub written_if : List ℕ → ℕ → CheckedObject → WriteAnswer
written_if s room (Ok l) = written_as (object s l) room
written_if s room (Err r) = Err r

unfoldable pub write_of : List ℕ → ℕ → WriteAnswer
write_of s room = written_if s room (check_object s)

-- The buffer after the call: it begins with what was written and every later byte is as it was, or, on a refusal, it is as it was.
abbrev pub buffer_after : List ℕ → WriteAnswer → List ℕ → List ℕ
buffer_after wkb (Ok long) before = wkb ++ drop long before
buffer_after wkb (Err r) before = before

abbrev pub wkb_if : List ℕ → CheckedObject → List ℕ
wkb_if s (Ok l) = wkb_of (object s l)
wkb_if s (Err r) = []

unfoldable pub written_buffer : List ℕ → List ℕ → List ℕ
written_buffer s before = buffer_after (wkb_if s (check_object s)) (write_of s (length before)) before

-- "Where an answer is an enum, a definition states this paper's number and values for every one of its cases." What is written has number 0; "Every refusal has ..
-- all other results 0".
pub record WriteValues : Type 0 where
  pub number : ℕ
  pub place : ℕ
  pub length : ℕ

abbrev pub write_values : WriteAnswer → WriteValues
write_values (Ok long) = record { number = 0; place = 0; length = long }
write_values (Err r) = record { number = number_of r.reason; place = r.place; length = 0 }
