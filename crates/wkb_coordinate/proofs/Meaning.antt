-- `coordinate_of` in other words: a float is taken for z exactly where it is finite, its value is z, and z is in range.
use Rattle.std.proofs.Common.{◌≡◌, ℕ, zero, suc, ◌<◌, ◌||◌, ⊎_elim, ◌*◌, ◌/◌, ◌%◌, ◌≤◌, Bool, true, false, cond, ◌&&◌, T, eqb, leb, ℤ, nat_abs, sym, refl, ap, ◌∙◌, subst, ap₂, le_trans, le_of_eq, div-add-mod', mul-one, mul-div_cancel, arith, eqb→eq, leb→le, eq-eqb, le-leb}
use mathlib.Core.Bool.{beq}
use native.Mathlib.Nat.{mul-mod_left, eq_of_mul-eq-mul_right, not-suc-le-zero}
use lib.Ieee.{Float, nan, inf, fin, up, down, eq, of_int, binary64}
use lib.Ieee.Exact.{HasValue}
use lib.Ieee.Fits.{down_pos}
use Rattle.plane.specs.Plane.{limit}
use Rattle.floats.specs.Value.{with_sign, Whole}
use Rattle.whole.proofs.Logic.{is_true, and_left, and_right, or_cases, true_is, beq_same}
use Rattle.floats.proofs.Operations.{of_int_whole, nat_abs_signed}
use Rattle.wkb_coordinate.specs.declared.Coordinate.TheVariants.{Whole as WholeNumber, Other}
use Rattle.wkb_coordinate.specs.Coordinate.{coordinate_of, TakenExactly}

pub taken_by_value : (x : Float) (z : ℤ) → Whole x z → nat_abs z ≤ limit → coordinate_of x ≡ WholeNumber z
taken_by_value x z w h = go x w.negative w.size w.value (le_trans (le_of_eq (sym (nat_abs_signed w.negative w.size) ∙ ap nat_abs w.is)) h) ∙ ap WholeNumber w.is
  where
    go : (x : Float) (s : Bool) (n : ℕ) → HasValue x s n 1 → n ≤ limit → coordinate_of x ≡ WholeNumber (with_sign s n)
    go nan s n v h = absurd v
    go (inf t) s n v h = absurd v
    go (fin t m e) s n v h = unfold coordinate_of in
        ap₂ (λ (b : Bool) (k : ℕ). cond b (WholeNumber (with_sign t k)) (Other (fin t m e)))
        (ap₂ ◌&&◌ (eq-eqb (m * up e % down e) 0 (ap (λ (k : ℕ). k % down e) is ∙ mul-mod_left n (down e))) (le-leb (m * up e / down e) limit (le_trans (le_of_eq size) h)))
        size
        ∙ ap (λ (b : Bool). WholeNumber (with_sign b n)) v.0
      where
        is : m * up e ≡ n * down e
        is = sym (mul-one (m * up e)) ∙ v.1

        size : m * up e / down e ≡ n
        size = ap (λ (k : ℕ). k / down e) is ∙ mul-div_cancel n (down_pos e)

pub value_of_taken : (x : Float) (z : ℤ) → coordinate_of x ≡ WholeNumber z → Whole x z × (nat_abs z ≤ limit)
unfolding coordinate_of
value_of_taken nan z k = cc
value_of_taken (inf s) z k = cc
value_of_taken (fin s m e) z k = go (eqb (m * up e % down e) 0) (leb (m * up e / down e) limit) refl refl k
  where
    go : (b d : Bool) → eqb (m * up e % down e) 0 ≡ b → leb (m * up e / down e) limit ≡ d
        → cond (b && d) (WholeNumber (with_sign s (m * up e / down e))) (Other (fin s m e)) ≡ WholeNumber z → Whole (fin s m e) z × (nat_abs z ≤ limit)
    go true true p q k =
        let is : with_sign s (m * up e / down e) ≡ z = cc in (
          record {
            negative = s;
            size = m * up e / down e;
            value = (refl, mul-one (m * up e) ∙ omega (arith, div-add-mod' (m * up e) (down e), eqb→eq (m * up e % down e) 0 (subst T (sym p) tt)));
            is = is;
          },
          le_trans (le_of_eq (sym (ap nat_abs is) ∙ nat_abs_signed s (m * up e / down e))) (leb→le (m * up e / down e) limit (subst T (sym q) tt)),
        )
    go true false p q k = cc
    go false d p q k = cc

pub taken_exactly : (x : Float) (z : ℤ) → TakenExactly x z
taken_exactly x z = record { if_whole = taken_by_value x z; only_if = value_of_taken x z }

-- ---- a float that equals a whole number in range has its value

of_zero : (s t : Bool) → with_sign s 0 ≡ with_sign t 0
of_zero true true = refl
of_zero true false = refl
of_zero false true = refl
of_zero false false = refl

pub equal_is_whole : (x : Float) (z : ℤ) → nat_abs z ≤ limit → eq (of_int binary64 z) x ≡ true → Whole x z
unfolding eq
equal_is_whole x z h q = let w = of_int_whole binary64 z (omega (arith, h)) in go (of_int binary64 z) x w.negative w.size w.value w.is q
  where
    go : (y x : Float) (t : Bool) (n : ℕ) → HasValue y t n 1 → with_sign t n ≡ z → eq y x ≡ true → Whole x z
    go nan x t n v i q = absurd v
    go (inf o) x t n v i q = absurd v
    go (fin o a d) nan t n v i q = cc
    go (fin o a d) (inf s) t n v i q = cc
    go (fin o a d) (fin s m e) t n v i q = record { negative = s; size = n; value = (refl, value); is = sign }
      where
        both : T (eqb (a * up d * down e) (m * up e * down d) && (beq o s || eqb (a * up d * down e) 0))
        both = is_true _ q

        same : a * up d * down e ≡ m * up e * down d
        same = eqb→eq (a * up d * down e) (m * up e * down d) (and_left (eqb (a * up d * down e) (m * up e * down d)) (beq o s || eqb (a * up d * down e) 0) both)

        left : a * up d ≡ n * down d
        left = sym (mul-one (a * up d)) ∙ v.1

        value : m * up e * 1 ≡ n * down e
        value = mul-one (m * up e) ∙ eq_of_mul-eq-mul_right (down d) (down_pos d) (m * up e) (n * down e) (sym same ∙ ap (λ (k : ℕ). k * down e) left ∙ swap n (down d) (down e))
          where
            swap : (n p r : ℕ) → n * p * r ≡ n * r * p
            swap n p r = omega arith

        sign : with_sign s n ≡ z
        sign =
            ⊎_elim (λ b. ap (λ (c : Bool). with_sign c n) (sym (beq_same o s (true_is (beq o s) b)) ∙ v.0) ∙ i) (λ b. ap (with_sign s) (none b) ∙ of_zero s t ∙ ap (with_sign t) (sym (none b)) ∙ i)
            (or_cases (beq o s) (eqb (a * up d * down e) 0) (and_right (eqb (a * up d * down e) (m * up e * down d)) (beq o s || eqb (a * up d * down e) 0) both))
          where
            zero_of : (n p r : ℕ) → 0 < p → 0 < r → n * p * r ≡ 0 → n ≡ 0
            zero_of zero p r k l f = refl
            zero_of (suc n) zero r k l f = absurd (not-suc-le-zero k)
            zero_of (suc n) (suc p) zero k l f = absurd (not-suc-le-zero l)
            zero_of (suc n) (suc p) (suc r) k l f = absurd (omega (arith, f))

            none : T (eqb (a * up d * down e) 0) → n ≡ 0
            none b = zero_of n (down d) (down e) (down_pos d) (down_pos e) (ap (λ (k : ℕ). k * down e) (sym left) ∙ eqb→eq (a * up d * down e) 0 b)

pub taken_where_equal : (x : Float) (z : ℤ) → eq (of_int binary64 z) x ≡ true → nat_abs z ≤ limit → coordinate_of x ≡ WholeNumber z
taken_where_equal x z q h = taken_by_value x z (equal_is_whole x z h q) h
