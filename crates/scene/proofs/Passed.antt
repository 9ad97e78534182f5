-- What a record's answer says: which test failed, or that all passed.
use Rattle.scene.proofs.Outcomes.{never_taken, same_taken}
use Rattle.std.specs.Prelude.{Err, Ok}
use Rattle.scene.specs.Read.{Record}
use Prim.Native.Nat.{ℕ, ◌+◌, ◌<◌, ◌≤◌}
use mathlib.Core.Path.{◌≡◌, refl, subst, ◌∙◌}
use mathlib.Core.Bool.{Bool, true, false}
use mathlib.Core.List.{List}
use lib.ListN.{length}
use lib.Dec.{T, leb, ltb, leb→le}
use borrow.Author.Tests.{lt-ltb, le-ltb, le-leb, lt-leb, eqb-false}
use Rattle.scene.specs.declared.Shape.{Shape}
use Rattle.scene.specs.declared.Shape.TheVariants.{Points, Line, Region}
use Rattle.scene.specs.declared.Kind.{Kind}
use Rattle.scene.specs.declared.Refusal.{Refusal}
use Rattle.scene.specs.declared.Reason.{Reason}
use Rattle.scene.specs.declared.Reason.TheVariants.{CutShort, WrongKind, WrongField, OutOfRange, EndsReversed, TooMany}
use Rattle.scene.specs.Read.{kind_at, shape_number, body_length, unless, decide, judge, has_room, fields_good, coordinates_good, ends_good, field_conditions, record_conditions, record_at}

abbrev pub refusal : Reason → ℕ → Refusal
refusal n p = record { reason = n; place = p }

pub same_shape : (e k : Shape) → shape_number e ≡ shape_number k → e ≡ k
same_shape Points Points q = refl
same_shape Points Line q = absurd (eqb-false 1 2 refl q)
same_shape Points Region q = absurd (eqb-false 1 3 refl q)
same_shape Line Points q = absurd (eqb-false 2 1 refl q)
same_shape Line Line q = refl
same_shape Line Region q = absurd (eqb-false 2 3 refl q)
same_shape Region Points q = absurd (eqb-false 3 1 refl q)
same_shape Region Line q = absurd (eqb-false 3 2 refl q)
same_shape Region Region q = refl

-- ---- from the tests to the answer
module _ (s : List ℕ) (at : ℕ) (allowed : Kind → Bool) (full : Bool) where
  pub no_byte : length s ≤ at → record_at s at allowed full ≡ Err (refusal CutShort (length s))
  unfolding record_at
  no_byte h = rw (le-ltb at (length s) h)

  module _ (k : Kind) (begins : at < length s) (kind : kind_at s at ≡ k) where
    rest : record_at s at allowed full ≡ judge Err (Ok k) (record_conditions s at allowed full k)
    unfolding record_at
    rest = rw kind

    pub not_allowed : allowed k ≡ false → record_at s at allowed full ≡ Err (refusal WrongKind at)
    not_allowed a = rest ∙ rw (lt-ltb at (length s) begins, a)

    pub no_room : allowed k ≡ true → has_room full k ≡ false → record_at s at allowed full ≡ Err (refusal TooMany at)
    no_room a r = rest ∙ rw (lt-ltb at (length s) begins, a, r)

    module _ (a : allowed k ≡ true) (r : has_room full k ≡ true) where
      pub cut_body : length s < at + 1 + body_length k → record_at s at allowed full ≡ Err (refusal CutShort at)
      cut_body h = rest ∙ rw (lt-ltb at (length s) begins, a, r, lt-leb (at + 1 + body_length k) (length s) h)

      pub whole_body : at + 1 + body_length k ≤ length s → record_at s at allowed full ≡ judge Err (Ok k) (field_conditions s at k)
      whole_body h = rest ∙ rw (lt-ltb at (length s) begins, a, r, le-leb (at + 1 + body_length k) (length s) h)

-- ---- from the answer to the tests
pub record Passed (s : List ℕ) (at : ℕ) (allowed : Kind → Bool) (full : Bool) (k : Kind) : Type 0 where
  pub kind : kind_at s at ≡ k
  pub allows : T (allowed k)
  pub room : T (has_room full k)
  pub whole : at + 1 + body_length k ≤ length s
  pub fields : T (fields_good s at k)
  pub coordinates : T (coordinates_good s at k)
  pub ends : T (ends_good s at k)

passed_one : (n : Reason) (p : ℕ) (b : Bool) (r : Record) (k : Kind) → decide Err n (unless b p) r ≡ Ok k → T b × (r ≡ Ok k)
passed_one n p true r k e = (tt, e)
passed_one n p false r k e = absurd (never_taken e)

module _ (s : List ℕ) (at : ℕ) (allowed : Kind → Bool) (full : Bool) where
  passed_all : (k k' : Kind) → judge Err (Ok k) (record_conditions s at allowed full k) ≡ Ok k' → kind_at s at ≡ k → Passed s at allowed full k'
  passed_all k k' e q =
      let e₁ = passed_one CutShort (length s) (ltb at (length s)) _ k' e in
      let e₂ = passed_one WrongKind at (allowed k) _ k' e₁.1 in
      let e₆ = passed_one TooMany at (has_room full k) _ k' e₂.1 in
      let e₀ = passed_one CutShort at (leb (at + 1 + body_length k) (length s)) _ k' e₆.1 in
      let e₃ = passed_one WrongField at (fields_good s at k) _ k' e₀.1 in
      let e₄ = passed_one OutOfRange at (coordinates_good s at k) _ k' e₃.1 in
      let e₅ = passed_one EndsReversed at (ends_good s at k) _ k' e₄.1 in
      subst (Passed s at allowed full) (same_taken e₅.1)
      (record {
        kind = q;
        allows = e₂.0;
        room = e₆.0;
        whole = leb→le (at + 1 + body_length k) (length s) e₀.0;
        fields = e₃.0;
        coordinates = e₄.0;
        ends = e₅.0;
      })

  pub passed : (k : Kind) → record_at s at allowed full ≡ Ok k → Passed s at allowed full k
  unfolding record_at
  passed k e = passed_all (kind_at s at) k e refl
