-- What the inner functions of reading promise: parts of the definitions in Read.antt, under names of their own.
use Rattle.std.specs.Prelude.{Result, Err, Ok}
use Rattle.scene.specs.Read.{Record}
use Rattle.std.specs.Prelude.{ℕ, ◌+◌, false, List, [], ◌∷◌}
use Rattle.plane.specs.declared.Segment.{Segment}
use Rattle.plane.specs.Plane.{segment_in_range, ordered}
use Rattle.scene.specs.declared.Shape.{Shape}
use Rattle.scene.specs.declared.Kind.{Kind}
use Rattle.scene.specs.declared.Kind.TheVariants.{Element}
use Rattle.scene.specs.declared.Refusal.{Refusal}
use Rattle.scene.specs.declared.Reason.TheVariants.{OutOfRange, EndsReversed}
use Rattle.scene.specs.Read.{byte, shape_of, unless, condition, judge, field_conditions, record_at, starts_object}

-- 3, 4, 5 of a record of kind k whose body is there
abbrev pub fields_at : List ℕ → ℕ → Kind → Record
fields_at s at k = judge Err (Ok k) (field_conditions s at k)

-- 4, 5 of a halfsegment record
abbrev pub segment_fields : Segment → ℕ → Shape → Record
segment_fields t at k =
    judge Err (Ok (Element k)) (condition OutOfRange (unless (segment_in_range t) at) ∷ condition EndsReversed (unless (ordered t) at) ∷ [])

-- the record where an object is due, the type that it gives in the place of its kind
abbrev pub typed : Shape → Record → Result Shape Refusal
typed k (Err r) = Err r
typed k (Ok j) = Ok k

abbrev pub type_at : List ℕ → ℕ → Result Shape Refusal
type_at s at = typed (shape_of (byte s (at + 1))) (record_at s at starts_object false)
