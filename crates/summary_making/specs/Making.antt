-- The call on one object: "From one object's bytes make a record of kind 83".
use Rattle.scene.specs.Read.{number_of, CheckedObject}
use Rattle.std.specs.Prelude.{ℕ, zero, suc, not, cond, Result, Ok, Err, List, [], ◌∷◌, ◌++◌, pos, neg_ℤ}
use Rattle.plane.specs.declared.Point.{Point}
use Rattle.plane.specs.declared.Halfsegment.{Halfsegment}
use Rattle.plane.specs.Plane.{limit}
use Rattle.scene.specs.declared.Shape.{Shape}
use Rattle.scene.specs.declared.Shape.TheVariants.{Points, Line, Region}
use Rattle.scene.specs.declared.Layout.{Layout}
use Rattle.scene.specs.declared.Refusal.{Refusal}
use Rattle.scene.specs.Read.{point_at, halfsegment_at, shape_number, place}
use Rattle.scene.specs.Conditions.{check_object}
use Rattle.flags.specs.Flags.{pack}
use Rattle.summary.specs.declared.Bounds.{Bounds}
use Rattle.summary.specs.declared.Summary.{Summary}
use Rattle.summary.specs.Summary.{flags_f, bytes_of}
use Rattle.summary_objects.specs.Objects.{summary_in}

-- ---- the answer

-- "A call on one object takes 1 to 7 and 10 to 14 over its bytes alone"
abbrev pub summarized : List ℕ → CheckedObject → Result Summary Refusal
summarized s (Ok l) = Ok (summary_in s l)
summarized s (Err r) = Err r

unfoldable pub summary_answer_of : List ℕ → Result Summary Refusal
summary_answer_of s = summarized s (check_object s)

-- "Where an answer is an enum, a definition states this paper's number and values for every one of its cases." What is made has number 0; "Every refusal has ..
-- all other results 0", so a record of zeros.
abbrev pub no_record : List ℕ
no_record = 0 ∷ 0 ∷ 0 ∷ 0 ∷ 0 ∷ 0 ∷ 0 ∷ 0 ∷ 0 ∷ 0 ∷ 0 ∷ 0 ∷ 0 ∷ 0 ∷ 0 ∷ 0 ∷ 0 ∷ 0 ∷ 0 ∷ 0 ∷ []

pub record SummaryValues : Type 0 where
  pub number : ℕ
  pub place : ℕ
  pub bytes : List ℕ

abbrev pub summary_values : Result Summary Refusal → SummaryValues
summary_values (Ok m) = record { number = 0; place = 0; bytes = bytes_of m }
summary_values (Err r) = record { number = number_of r.reason; place = r.place; bytes = no_record }

-- ---- on the way: the corners that the elements add to the box, one after the other

abbrev pub corners_of : Halfsegment → List Point
corners_of h = cond h.is_left (h.segment.left ∷ h.segment.right ∷ []) []

-- those of the element whose record stands at an offset
abbrev pub corners_at : List ℕ → Shape → ℕ → List Point
corners_at s Points at = point_at s at ∷ []
corners_at s Line at = corners_of (halfsegment_at s at)
corners_at s Region at = corners_of (halfsegment_at s at)

-- those of n elements from element i on
abbrev pub corners_from : List ℕ → Layout → ℕ → ℕ → List Point
corners_from s l zero i = []
corners_from s l (suc n) i = corners_at s l.shape (place l i) ++ corners_from s l n (suc i)

-- a box that any point in range makes its own
abbrev pub widest : Bounds
widest = record { least = record { x = pos limit; y = pos limit }; greatest = record { x = neg_ℤ (pos limit); y = neg_ℤ (pos limit) } }

-- ---- and the vector that an object has beside an empty object of its type

abbrev pub beside_empty : Summary → ℕ
beside_empty s = pack (flags_f s.shape s.shape (not s.empty) s.boundary)
