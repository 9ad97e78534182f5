-- A type record stands there, or the object is refused as that record is.
use Rattle.std.proofs.Common.{◌≡◌, ◌∙◌, ◌+◌, ◌≤◌, sym, refl, ap, ℕ, false, List, length, Ok, Err}
use Rattle.scene.specs.declared.Refusal.{Refusal}
use Rattle.scene.specs.declared.Shape.{Shape}
use Rattle.scene.specs.Read.{byte, shape_of, Record, record_at, starts_object, begun, read_object, CheckedObject}
use Rattle.scene.specs.Inner.{typed, type_at}
use Rattle.scene.proofs.Outcomes.{handed_on, never_taken, same_taken, same_refusal}
use Rattle.scene.proofs.Taken.{rest, type_record}
use Rattle.scene_reading.proofs.read_object.Goals as goal

module _ (s : List ℕ) (at : ℕ) where
  abbrev the_type : Shape
  the_type = shape_of (byte s (at + 1))

  not_begun : (r : Refusal) → type_at s at ≡ Err r → ◌≡◌ {A = CheckedObject} (Err r) (read_object s at)
  unfolding read_object
  not_begun r e = go (record_at s at starts_object false) e
    where
      go : (o : Record) → typed the_type o ≡ Err r → ◌≡◌ {A = CheckedObject} (Err r) (begun o (rest s the_type at 0))
      go (Err x) q = ap Err (sym (same_refusal q))
      go (Ok k) q = absurd (never_taken (sym q))

  begun_with : (k : Shape) → type_at s at ≡ Ok k → rest s k at 0 ≡ read_object s at
  unfolding read_object
  begun_with k e = go (record_at s at starts_object false) e
    where
      go : (o : Record) → typed the_type o ≡ Ok k → rest s k at 0 ≡ begun o (rest s the_type at 0)
      go (Err x) q = absurd (never_taken q)
      go (Ok j) q = ap (λ (t : Shape). rest s t at 0) (sym (same_taken q))

  begins : (k : Shape) → type_at s at ≡ Ok k → at + 2 ≤ length s
  begins k e = go (record_at s at starts_object false) refl e
    where
      go : (o : Record) → record_at s at starts_object false ≡ o → typed the_type o ≡ Ok k → at + 2 ≤ length s
      go (Err x) is q = absurd (never_taken q)
      go (Ok j) is q = type_record s at j is

pub returns-in_err-shape : goal.returns-in_err-shape
returns-in_err-shape c =
    handed_on c.from_residual.result c.from_residual.ensures.1
    ∙ not_begun c.args.s.now c.args.at c.in_err-shape.field-0.0 (sym c.type_record.ensures ∙ c.in_err-shape.was)

pub elements-requires : goal.elements-requires
elements-requires c = begins c.args.s.now c.args.at c.in_ok-shape.shape (sym c.type_record.ensures ∙ c.in_ok-shape.was)

pub returns : goal.returns
returns c =
    c.elements.ensures
    ∙ begun_with c.args.s.now c.args.at c.in_ok-shape.shape (sym c.type_record.ensures ∙ c.in_ok-shape.was)
