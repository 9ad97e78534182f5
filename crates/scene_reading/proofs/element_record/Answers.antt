-- The tests that led to each return decide the definition.
use Rattle.std.proofs.Common.{◌≡◌, ℕ, true, false, List, refl, sym, ap, ◌∙◌, ⊎_elim, arith, eq-eqb}
use mathlib.Core.Bool.{not}
use borrow.Author.Tests.{not-true, not-false}
use Rattle.scene.proofs.Shapes.{is_same, same_numbers, same}
use Rattle.scene.specs.declared.Shape.{Shape}
use Rattle.scene.specs.declared.Kind.{Kind}
use Rattle.scene.specs.declared.Kind.TheVariants.{Start, Element, End, Unknown}
use Rattle.scene.specs.Read.{kind_at, shape_number, stands_in}
use Rattle.scene.proofs.Passed.{no_byte, not_allowed, no_room, cut_body, whole_body}
use Rattle.scene_reading.proofs.element_record.Goals as goal

-- an element of the same type is allowed
same_type : (s : List ℕ) (at : ℕ) (e k : Shape) → kind_at s at ≡ Element e → not (is_same e k) ≡ false → kind_at s at ≡ Element k
same_type s at e k is q = is ∙ ap Element (same e k (not-false (is_same e k) q))

allowed : (k : Shape) → stands_in k (Element k) ≡ true
allowed k = eq-eqb (shape_number k) (shape_number k) refl

pub returns-then-s-at : goal.returns-then-s-at
returns-then-s-at c = c.at.ensures ∙ sym (no_byte c.args.s.now c.args.at (stands_in c.args.k) c.args.full c.if-s-at.true)

pub returns-then-ne : goal.returns-then-ne
returns-then-ne c =
    let a = c.args in
    let is = sym c.from.ensures ∙ c.in-Element.is in
    c.at-then-ne.ensures
    ∙ sym (not_allowed a.s.now a.at (stands_in a.k) a.full (Element c.in-Element.e) c.if-s-at.false is
    (sym (same_numbers c.in-Element.e a.k) ∙ not-true (is_same c.in-Element.e a.k) (sym c.ne.ensures ∙ c.if-ne.true)))

pub returns-then-full : goal.returns-then-full
returns-then-full c =
    let a = c.args in
    let is = same_type a.s.now a.at c.in-Element.e a.k (sym c.from.ensures ∙ c.in-Element.is) (sym c.ne.ensures ∙ c.if-ne.false) in
    c.at-then-full.ensures ∙ sym (no_room a.s.now a.at (stands_in a.k) a.full (Element a.k) c.if-s-at.false is (allowed a.k) (ap not c.if-full.true))

pub returns-then-s-at-2 : goal.returns-then-s-at-2
returns-then-s-at-2 c =
    let a = c.args in
    let is = same_type a.s.now a.at c.in-Element.e a.k (sym c.from.ensures ∙ c.in-Element.is) (sym c.ne.ensures ∙ c.if-ne.false) in
    c.at-then-s-at-2.ensures
    ∙ sym (cut_body a.s.now a.at (stands_in a.k) a.full (Element a.k) c.if-s-at.false is (allowed a.k) (ap not c.if-full.false) (omega (arith, c.size.ensures)))

pub returns-else-s-at-2 : goal.returns-else-s-at-2
returns-else-s-at-2 c =
    let a = c.args in
    let is = same_type a.s.now a.at c.in-Element.e a.k (sym c.from.ensures ∙ c.in-Element.is) (sym c.ne.ensures ∙ c.if-ne.false) in
    c.fields.ensures
    ∙ sym (whole_body a.s.now a.at (stands_in a.k) a.full (Element a.k) c.if-s-at.false is (allowed a.k) (ap not c.if-full.false) (omega (arith, c.size.ensures, c.if-s-at.false)))

pub returns-in-End : goal.returns-in-End
returns-in-End c =
    let a = c.args in
    sym (whole_body a.s.now a.at (stands_in a.k) a.full End c.if-s-at.false (sym c.from.ensures ∙ c.in-End.is) refl refl (omega (arith, c.if-s-at.false)))

pub returns-in-Start : goal.returns-in-Start
returns-in-Start c =
    let a = c.args in
    let no = λ (k : Kind) (is : kind_at a.s.now a.at ≡ k) (n : stands_in a.k k ≡ false). sym (not_allowed a.s.now a.at (stands_in a.k) a.full k c.if-s-at.false is n) in
    c.at-in-Start.ensures ∙ ⊎_elim (λ e. no Start (sym c.from.ensures ∙ e) refl) (λ e. no Unknown (sym c.from.ensures ∙ e) refl) c.in-Start.is
