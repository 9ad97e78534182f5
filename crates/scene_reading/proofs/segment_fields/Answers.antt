-- Both ends are in range: the order of the ends decides.
use Rattle.scene.specs.declared.Reason.TheVariants.{EndsReversed}
use Rattle.std.proofs.Common.{◌≡◌, ◌∙◌, sym, ℕ, true, false, Ok, Err}
use Rattle.plane.specs.declared.Segment.{Segment}
use Rattle.plane.specs.Plane.{in_range, ordered}
use Rattle.scene.specs.declared.Shape.{Shape}
use Rattle.scene.specs.declared.Kind.TheVariants.{Element}
use Rattle.scene.specs.Read.{Record}
use Rattle.scene.specs.Inner.{segment_fields}
use Rattle.scene.proofs.Passed.{refusal}
use borrow.Author.Tests.{not-true, not-false}
use Rattle.plane.proofs.Compared.{upto_is}
use Rattle.scene_reading.proofs.segment_fields.Goals as goal

module _ (t : Segment) (at : ℕ) (k : Shape) (a : in_range t.left ≡ true) (b : in_range t.right ≡ true) where
  unordered : ordered t ≡ false → ◌≡◌ {A = Record} (Err (refusal EndsReversed at)) (segment_fields t at k)
  unordered e = rw (a, b, e)

  all_good : ordered t ≡ true → ◌≡◌ {A = Record} (Ok (Element k)) (segment_fields t at k)
  all_good e = rw (a, b, e)

pub returns-then-le : goal.returns-then-le
unfolding ordered
returns-then-le c =
    let a = c.args in
    c.at-then-le.ensures
    ∙ unordered a.segment a.at a.k (sym c.is_in_range.ensures ∙ c.if-not-is_in_range.false) (sym c.is_in_range-else-not-is_in_range.ensures ∙ c.if-not-is_in_range-2.false)
    (not-true _ (sym (upto_is a.segment.right a.segment.left) ∙ sym c.le.ensures ∙ c.if-le.true))

pub returns : goal.returns
unfolding ordered
returns c =
    let a = c.args in
    all_good a.segment a.at a.k (sym c.is_in_range.ensures ∙ c.if-not-is_in_range.false) (sym c.is_in_range-else-not-is_in_range.ensures ∙ c.if-not-is_in_range-2.false)
    (not-false _ (sym (upto_is a.segment.right a.segment.left) ∙ sym c.le.ensures ∙ c.if-le.false))
