-- The tests that led to each return decide the definition.
use Rattle.scene.specs.declared.Reason.TheVariants.{CutShort, WrongKind, WrongField}
use Rattle.std.proofs.Common.{◌≡◌, ◌∙◌, ◌+◌, ◌<◌, ◌≤◌, ⊎_elim, sym, refl, ap, ℕ, false, List, length, Result, Ok, Err, arith}
use borrow.Author.Tests.{le-leb, lt-leb}
use Rattle.scene.specs.declared.Kind.{Kind}
use Rattle.scene.specs.declared.Shape.{Shape}
use Rattle.scene.specs.declared.Refusal.{Refusal}
use Rattle.scene.specs.declared.Kind.TheVariants.{Start, Element, End, Unknown}
use Rattle.scene.specs.Read.{byte, shape_of, kind_at, starts_object, record_at}
use Rattle.scene.specs.Inner.{fields_at, typed, type_at}
use Rattle.scene.proofs.Passed.{refusal, no_byte, not_allowed, cut_body, whole_body}
use Rattle.scene_reading.proofs.type_record.Goals as goal

-- as the record is refused, so is the type
refused : (s : List ℕ) (at : ℕ) {r : Refusal} → record_at s at starts_object false ≡ Err r → ◌≡◌ {A = Result Shape Refusal} (Err r) (type_at s at)
refused s at e = ap (typed (shape_of (byte s (at + 1)))) (sym e)

module _ (s : List ℕ) (at : ℕ) (begins : at < length s) where
  other : (k : Kind) → kind_at s at ≡ k → starts_object k ≡ false → record_at s at starts_object false ≡ Err (refusal WrongKind at)
  other k is n = not_allowed s at starts_object false k begins is n

  module _ (is : kind_at s at ≡ Start) where
    cut : length s < at + 2 → record_at s at starts_object false ≡ Err (refusal CutShort at)
    cut h = cut_body s at starts_object false Start begins is refl refl (omega arith)

    module _ (h : at + 2 ≤ length s) where
      whole : record_at s at starts_object false ≡ fields_at s at Start
      whole = whole_body s at starts_object false Start begins is refl refl (omega arith)

      below : byte s (at + 1) < 1 → record_at s at starts_object false ≡ Err (refusal WrongField at)
      below l = whole ∙ rw (lt-leb 1 (byte s (at + 1)) l)

      above : 1 ≤ byte s (at + 1) → 3 < byte s (at + 1) → record_at s at starts_object false ≡ Err (refusal WrongField at)
      above l g = whole ∙ rw (le-leb 1 (byte s (at + 1)) l, lt-leb (byte s (at + 1)) 3 g)

      good : 1 ≤ byte s (at + 1) → byte s (at + 1) ≤ 3 → record_at s at starts_object false ≡ Ok Start
      good l g = whole ∙ rw (le-leb 1 (byte s (at + 1)) l, le-leb (byte s (at + 1)) 3 g)

pub returns-then-s-at : goal.returns-then-s-at
returns-then-s-at c = c.at.ensures ∙ refused c.args.s.now c.args.at (no_byte c.args.s.now c.args.at starts_object false c.if-s-at.true)

pub returns-then-s-at-lt2 : goal.returns-then-s-at-lt2
returns-then-s-at-lt2 c = c.at-then-s-at-lt2.ensures ∙ refused c.args.s.now c.args.at (cut c.args.s.now c.args.at c.if-s-at.false (sym c.from.ensures ∙ c.in-Start.is) (omega (arith, c.if-s-at-lt2.true, c.if-s-at.false)))

pub returns-then-n-lt1 : goal.returns-then-n-lt1
returns-then-n-lt1 c =
    let s = c.args.s.now in
    let at = c.args.at in
    let is = sym c.from.ensures ∙ c.in-Start.is in
    let h : at + 2 ≤ length s = omega (arith, c.if-s-at-lt2.false, c.if-s-at.false) in
    c.at-then-n-lt1.ensures ∙ refused s at (⊎_elim (below s at c.if-s-at.false is h) (λ o. above s at c.if-s-at.false is h o.0 o.1) c.then-n-lt1.either)

pub returns-else-n-gt3 : goal.returns-else-n-gt3
returns-else-n-gt3 c =
    let s = c.args.s.now in
    let at = c.args.at in
    ap Ok c.shape.ensures
    ∙ ap (typed (shape_of (byte s (at + 1))))
    (sym (good s at c.if-s-at.false (sym c.from.ensures ∙ c.in-Start.is) (omega (arith, c.if-s-at-lt2.false, c.if-s-at.false)) c.if-n-lt1.false c.if-n-gt3.false))

pub returns-in-Element : goal.returns-in-Element
returns-in-Element c =
    let s = c.args.s.now in
    let at = c.args.at in
    let no = λ (k : Kind) (is : kind_at s at ≡ k) (n : starts_object k ≡ false). refused s at (other s at c.if-s-at.false k is n) in
    c.at-in-Element.ensures
    ∙ ⊎_elim (λ e. no (Element e.0) (sym c.from.ensures ∙ e.1) refl) (⊎_elim (λ e. no End (sym c.from.ensures ∙ e) refl) (λ e. no Unknown (sym c.from.ensures ∙ e) refl)) c.in-Element.is
