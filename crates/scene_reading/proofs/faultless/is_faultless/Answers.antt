-- The kind is that of the type's elements, and the fields are without fault; or a record so short, or of another kind, is no element.
use Rattle.std.proofs.Common.{◌≡◌, ◌∙◌, ◌+◌, ◌≤◌, refl, sym, ap, ⊎_elim, ℕ, Bool, true, false, ◌&&◌, T, List, length, arith, eq-eqb}
use mathlib.Core.Path.{subst⁻¹}
use Rattle.whole.proofs.Logic.{and_left, and_right, and_make, true_is}
use Rattle.scene.specs.declared.Shape.{Shape}
use Rattle.scene.specs.declared.Kind.TheVariants.{Start, Element, End, Unknown}
use Rattle.scene.specs.Read.{kind_at, shape_number, size, stands_in, fields_good, coordinates_good, ends_good}
use Rattle.scene.proofs.Passed.{Passed, passed, whole_body}
use Rattle.scene.proofs.Shapes.{same, unlike}
use Rattle.scene_reading.specs.Faultless.{are_fields_good, IsElement}
use Rattle.scene_reading.proofs.faultless.is_faultless.Goals as goal

each_true : (a b c : Bool) → T (a && (b && c)) → (a ≡ true) × (b ≡ true) × (c ≡ true)
each_true a b c t =
    let u = and_right a (b && c) t in
    (true_is a (and_left a (b && c) t), true_is b (and_left b c u), true_is c (and_right b c u))

same_type : {k k' : Shape} → Element k ≡ Element k' → k ≡ k'
same_type e = cc

module _ (s : List ℕ) (k : Shape) (at : ℕ) where
  -- what an answer is to say
  abbrev Says : Bool → Type 0
  Says r = (T r → IsElement s k at) × (IsElement s k at → T r)

  tests : IsElement s k at → Passed s at (stands_in k) false (Element k)
  tests e = passed s at (stands_in k) false (Element k) e

  says_no : {r : Bool} → r ≡ false → (IsElement s k at → ⊥) → Says r
  says_no q never = subst⁻¹ Says q (λ no. absurd no, λ e. absurd (never e))

  says : kind_at s at ≡ Element k → at + size k ≤ length s → {r : Bool} → r ≡ are_fields_good s k at → Says r
  says kind whole is = subst⁻¹ Says is (yes, passes)
    where
      yes : T (are_fields_good s k at) → IsElement s k at
      yes t =
          let all = each_true (fields_good s at (Element k)) (coordinates_good s at (Element k)) (ends_good s at (Element k)) t in
          whole_body s at (stands_in k) false (Element k) (omega arith) kind (eq-eqb (shape_number k) (shape_number k) refl) refl (omega arith)
          ∙ rw (all.0, all.1, all.2)

      passes : IsElement s k at → T (are_fields_good s k at)
      passes e =
          let p = tests e in
          and_make (fields_good s at (Element k)) (coordinates_good s at (Element k) && ends_good s at (Element k)) p.fields
          (and_make (coordinates_good s at (Element k)) (ends_good s at (Element k)) p.coordinates p.ends)

pub returns-then-s-at : goal.returns-then-s-at
returns-then-s-at c =
    let a = c.args in
    says_no a.s.now a.k a.at refl (λ e. omega (arith, c.size.ensures, c.requires, (tests a.s.now a.k a.at e).whole))

pub returns-then-eq : goal.returns-then-eq
returns-then-eq c =
    let a = c.args in
    says a.s.now a.k a.at (sym c.from.ensures ∙ c.in-Element.is ∙ ap Element (same c.in-Element.e a.k (sym c.eq.ensures ∙ c.if-eq.true)))
    (omega (arith, c.size.ensures)) c.are_fields_good.ensures

pub returns-else-eq : goal.returns-else-eq
returns-else-eq c =
    let a = c.args in
    says_no a.s.now a.k a.at c.if-eq.false
    (λ e. unlike c.in-Element.e a.k (sym c.eq.ensures ∙ c.if-eq.false) (same_type (sym c.in-Element.is ∙ c.from.ensures ∙ (tests a.s.now a.k a.at e).kind)))

pub returns-in-Start : goal.returns-in-Start
returns-in-Start c =
    let a = c.args in
    says_no a.s.now a.k a.at refl (λ e.
    let is = c.from.ensures ∙ (tests a.s.now a.k a.at e).kind in
    ⊎_elim (λ q. start (sym q ∙ is)) (⊎_elim (λ q. end (sym q ∙ is)) (λ q. unknown (sym q ∙ is))) c.in-Start.is)
  where
    start : {k : Shape} → Start ≡ Element k → ⊥
    start e = cc

    end : {k : Shape} → End ≡ Element k → ⊥
    end e = cc

    unknown : {k : Shape} → Unknown ≡ Element k → ⊥
    unknown e = cc
