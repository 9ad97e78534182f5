-- A float cut to 32 bits: cast back, the number equals the float exactly where nothing was cut, and it is in range exactly where the float's whole part is.
use Rattle.std.proofs.Common.{◌≡◌, ℕ, zero, suc, ◌+◌, ◌-◌, ◌*◌, ◌^◌, ◌<◌, ◌≤◌, min, Bool, true, false, cond, ◌&&◌, ◌||◌, T, eqb, leb, ℤ, pos, neg_ℤ, nat_abs, sym, refl, ap, ◌∙◌, subst, ap₂, le_trans, le_of_eq, div-add-mod', zero-mul, mul-one, arith, eqb→eq, eq-eqb, ne_eqb, leb-false, leb-true}
use mathlib.Core.Bool.{beq}
use Rattle.std.proofs.lemmas.Bool.{lt-leb}
use borrow.Author.Tests.{eqb-false}
use lib.IntN.{pos-ne-negsuc}
use lib.Ieee.{Float, nan, inf, fin, binary64, up, down, eq, level, to_signed, of_int, round}
use lib.Ieee.Exact.{HasValue}
use lib.Ieee.Bits.{is_true}
use lib.Ieee.Fits.{down_pos}
use Rattle.plane.specs.Plane.{limit}
use Rattle.floats.specs.Value.{with_sign}
use Rattle.floats.proofs.Operations.{of_int_whole, nat_abs_signed}
use Rattle.wkb_coordinate.specs.declared.Coordinate.{Coordinate}
use Rattle.wkb_coordinate.specs.declared.Coordinate.TheVariants.{Whole as WholeNumber, Other}
use Rattle.wkb_coordinate.specs.Coordinate.{cut, rest, coordinate_of}

module _ (s : Bool) (m : ℕ) (e : ℤ) where
  -- 32 bits stop at a number beyond the limit
  beyond : limit < cut m e → limit < nat_abs (to_signed 31 (fin s m e))
  unfolding to_signed
  beyond h = go s
    where
      go : (s : Bool) → limit < nat_abs (cond s (neg_ℤ (pos (min (cut m e) (2 ^ 31)))) (pos (min (cut m e) (2 ^ 31 - 1))))
      go true = subst (λ (n : ℕ). limit < n) (sym (nat_abs_signed true (min (cut m e) (2 ^ 31)))) (omega (arith, h))
      go false = omega (arith, h)

module _ (s : Bool) (m : ℕ) (e : ℤ) (small : cut m e ≤ limit) where
  pub cut_is : to_signed 31 (fin s m e) ≡ with_sign s (cut m e)
  unfolding to_signed
  cut_is = go s
    where
      go : (s : Bool) → cond s (neg_ℤ (pos (min (cut m e) (2 ^ 31)))) (pos (min (cut m e) (2 ^ 31 - 1))) ≡ with_sign s (cut m e)
      go true = let k : min (cut m e) (2 ^ 31) ≡ cut m e = omega (arith, small) in ap (λ (n : ℕ). neg_ℤ (pos n)) k
      go false = let k : min (cut m e) (2 ^ 31 - 1) ≡ cut m e = omega (arith, small) in ap pos k

  -- the number cast back equals the float where nothing was cut, and only there
  size_is : (t : Bool) (n : ℕ) → with_sign t n ≡ with_sign s (cut m e) → n ≡ cut m e
  size_is t n k = sym (nat_abs_signed t n) ∙ ap nat_abs k ∙ nat_abs_signed s (cut m e)

  split : m * up e ≡ cut m e * down e + rest m e
  split = sym (div-add-mod' (m * up e) (down e))

  levels : (t : Bool) (a d : ℕ) → 0 < d → a * 1 ≡ cut m e * d → with_sign t (cut m e) ≡ with_sign s (cut m e) → level t (a * down e) s (m * up e * d) ≡ eqb (rest m e) 0
  levels t a d D k g = go (eqb (rest m e) 0) refl
    where
      left : a * down e ≡ cut m e * d * down e
      left = ap (λ (x : ℕ). x * down e) (sym (mul-one a) ∙ k)

      right : m * up e * d ≡ (cut m e * down e + rest m e) * d
      right = ap (λ (x : ℕ). x * d) split

      signs : (t s : Bool) (q b : ℕ) → with_sign t q ≡ with_sign s q → b ≡ q * (d * down e) → T (beq t s || eqb b 0)
      signs true true q b g k = tt
      signs false false q b g k = tt
      signs true false zero b g k = subst (λ (x : ℕ). T (eqb x 0)) (sym (k ∙ zero-mul (d * down e))) tt
      signs true false (suc q) b g k = absurd (neg_not_pos q g)
        where
          neg_not_pos : (q : ℕ) → neg_ℤ (pos (suc q)) ≡ pos (suc q) → ⊥
          neg_not_pos q g = pos-ne-negsuc (suc q) q (sym g)
      signs false true zero b g k = subst (λ (x : ℕ). T (eqb x 0)) (sym (k ∙ zero-mul (d * down e))) tt
      signs false true (suc q) b g k = absurd (pos-ne-negsuc (suc q) q g)

      go : (b : Bool) → eqb (rest m e) 0 ≡ b → level t (a * down e) s (m * up e * d) ≡ b
      go true r =
          let z : rest m e ≡ 0 = eqb→eq (rest m e) 0 (subst T (sym r) tt) in
          let same : a * down e ≡ m * up e * d = left ∙ swap (cut m e) d (down e) (rest m e) z ∙ sym right in
          ap₂ ◌&&◌ (eq-eqb (a * down e) (m * up e * d) same) (is_true (beq t s || eqb (a * down e) 0) (signs t s (cut m e) (a * down e) g (left ∙ assoc (cut m e) d (down e))))
        where
          swap : (q d p r : ℕ) → r ≡ 0 → q * d * p ≡ (q * p + r) * d
          swap q d p r z = omega (arith, ap (λ (x : ℕ). x * d) z)

          assoc : (q d p : ℕ) → q * d * p ≡ q * (d * p)
          assoc q d p = omega arith
      go false r =
          ap (λ (b : Bool). b && (beq t s || eqb (a * down e) 0))
          (ne_eqb (a * down e) (m * up e * d)
          (λ (k : a * down e ≡ m * up e * d).
          eqb-false (rest m e) 0 r (none (cut m e) d (down e) (rest m e) D (sym left ∙ k ∙ right))))
        where
          none : (q d p r : ℕ) → 0 < d → q * d * p ≡ (q * p + r) * d → r ≡ 0
          none q d p r D k = zero_of r d D (omega arith)
            where
              zero_of : (r d : ℕ) → 0 < d → r * d ≡ 0 → r ≡ 0
              zero_of zero d D k = refl
              zero_of (suc r) d D k = absurd (product r d D k)
                where
                  product : (r d : ℕ) → 0 < d → suc r * d ≡ 0 → ⊥
                  product r d D k = omega arith

  whole_eq : (x : Float) (t : Bool) (n : ℕ) → HasValue x t n 1 → with_sign t n ≡ with_sign s (cut m e) → eq x (fin s m e) ≡ eqb (rest m e) 0
  unfolding eq
  whole_eq nan t n v k = absurd v
  whole_eq (inf o) t n v k = absurd v
  whole_eq (fin o a d) t n v k =
      ap (λ (b : Bool). level b (a * up d * down e) s (m * up e * down d)) v.0
      ∙ levels t (a * up d) (down d) (down_pos d) (v.1 ∙ ap (λ (x : ℕ). x * down d) (size_is t n k)) (ap (with_sign t) (sym (size_is t n k)) ∙ k)

  back : eq (of_int binary64 (with_sign s (cut m e))) (fin s m e) ≡ eqb (rest m e) 0
  back =
      let w = of_int_whole binary64 (with_sign s (cut m e)) (le_trans (le_of_eq (nat_abs_signed s (cut m e))) (omega (arith, small))) in
      whole_eq (of_int binary64 (with_sign s (cut m e))) w.negative w.size w.value w.is

-- ---- what is taken
abbrev pub judged : ℤ → Float → Coordinate
judged z x = cond (eq (of_int binary64 z) x && leb (nat_abs z) limit) (WholeNumber z) (Other x)

pub judged_is : (x : Float) → judged (to_signed 31 x) x ≡ coordinate_of x
unfolding coordinate_of to_signed of_int round eq
judged_is nan = refl
judged_is (inf true) = refl
judged_is (inf false) = refl
judged_is (fin s m e) = go (leb (cut m e) limit) refl
  where
    go : (b : Bool) → leb (cut m e) limit ≡ b → judged (to_signed 31 (fin s m e)) (fin s m e) ≡ cond (eqb (rest m e) 0 && leb (cut m e) limit) (WholeNumber (with_sign s (cut m e))) (Other (fin s m e))
    go true h =
        let small = leb-true (cut m e) limit h in
        ap (λ (z : ℤ). judged z (fin s m e)) (cut_is s m e small)
        ∙ ap₂ (λ (b c : Bool). cond (b && c) (WholeNumber (with_sign s (cut m e))) (Other (fin s m e))) (back s m e small) (ap (λ (n : ℕ). leb n limit) (nat_abs_signed s (cut m e)))
    go false h =
        ap (λ (b : Bool). cond b (WholeNumber (to_signed 31 (fin s m e))) (Other (fin s m e))) (none (eq (of_int binary64 (to_signed 31 (fin s m e))) (fin s m e)) (lt-leb (nat_abs (to_signed 31 (fin s m e))) limit (beyond s m e (leb-false (cut m e) limit h))))
        ∙ sym (ap (λ (b : Bool). cond b (WholeNumber (with_sign s (cut m e))) (Other (fin s m e))) (none (eqb (rest m e) 0) h))
      where
        none : (b : Bool) {c : Bool} → c ≡ false → (b && c) ≡ false
        none true e = e
        none false e = refl
