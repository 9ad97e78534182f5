-- Comparisons of floats are exact: of two finite ones it is that of their values as fractions, with a whole number that of the value and the whole number.
use mathlib.Core.Path.{◌≡◌, refl, sym, ap, ap₂, ◌∙◌, subst}
use mathlib.Core.Logic.{◌⊎◌, inl, inr}
use mathlib.Core.Bool.{Bool, true, false, ◌&&◌, ◌||◌}
use mathlib.Core.List.{[], ◌∷◌}
use Prim.Native.Nat.{ℕ, zero, suc, ◌+◌, ◌*◌, ◌^◌, ◌≤◌, ◌<◌}
use native.Mathlib.Nat.{zero-add, mul-one, eq-or-lt_of_le}
use native.Mathlib.Omega.{arith}
use borrow.Author.Tests.{lt-ltb, le-ltb}
use lib.Dec.{T, ltb, eqb, leb→le, ltb→lt, lt→ltb, eqb→eq, eqb_refl}
use lib.IntN.{ℤ, pos, neg_ℤ, nat_abs, ◌*ℤ◌}
use lib.Signed.{lt_z, le_z}
use lib.Ieee.{Float, nan, inf, fin, Format, prec, up, down, lt, le, below, level, of_int}
use lib.Ieee.Exact.{HasValue}
use lib.Ieee.Fits.{down_pos}
use lib.Ieee.Scale.{finite}
use Rattle.whole.proofs.Logic.{same_test, and_left, and_right, and_make, or_cases, or_left, or_right}
use Rattle.whole.proofs.Balance.{P, N, neg_P, neg_N, pos_P, pos_N, le_z_read, le_z_make}
use Rattle.whole.proofs.Sign.{Pos, lit_pos, pos_mul, lt_z_times, le_z_times}
use Rattle.whole.proofs.Solver.{solve, var, con, ◌:*◌}
use Rattle.plane.specs.Plane.{Fraction}
use Rattle.floats.specs.Value.{with_sign, Whole, counted, value_of, over_one, at_most}
use Rattle.floats.proofs.Operations.{of_int_whole}

-- ---- ±a < ±b and ±a ≤ ±b as floats test them, and as whole numbers
below_is : (s : Bool) (a : ℕ) (t : Bool) (b : ℕ) → below s a t b ≡ lt_z (with_sign s a) (with_sign t b)
below_is false a false b = refl
below_is false a true zero = sym (le-ltb a 0 (omega arith))
below_is false a true (suc b) = refl
below_is true zero false b = ap (ltb 0) (zero-add b)
below_is true (suc a) false b = lt-ltb 0 (suc a + b) (omega arith)
below_is true zero true zero = refl
below_is true zero true (suc b) = le-ltb (suc b) 0 (omega arith)
below_is true (suc a) true zero = lt-ltb 0 (suc a) (omega arith)
below_is true (suc a) true (suc b) = same_test (ltb (suc b) (suc a)) (ltb b a) (λ t. lt→ltb b a (omega (arith, ltb→lt (suc b) (suc a) t))) (λ t. lt→ltb (suc b) (suc a) (omega (arith, ltb→lt b a t)))

eq_test : (a b : ℕ) → a ≡ b → T (eqb a b)
eq_test a b e = subst (λ (x : ℕ). T (eqb a x)) e (eqb_refl a)

abbrev not_above : Bool → ℕ → Bool → ℕ → Bool
not_above s a t b = below s a t b || level s a t b

at_most_is : (s : Bool) (a : ℕ) (t : Bool) (b : ℕ) → not_above s a t b ≡ le_z (with_sign s a) (with_sign t b)
at_most_is s a t b = same_test (not_above s a t b) (le_z (with_sign s a) (with_sign t b)) (λ h. le_z_make (with_sign s a) (with_sign t b) (forth s t h)) (λ h. back s t (le_z_read (with_sign s a) (with_sign t b) h))
  where
    forth : (s t : Bool) → T (not_above s a t b) → P (with_sign s a) + N (with_sign t b) ≤ P (with_sign t b) + N (with_sign s a)
    forth false false h = go (or_cases (ltb a b) (level false a false b) h)
      where
        go : T (ltb a b) ⊎ T (level false a false b) → P (pos a) + N (pos b) ≤ P (pos b) + N (pos a)
        go (inl k) = omega (arith, ltb→lt a b k, pos_P a, pos_N a, pos_P b, pos_N b)
        go (inr k) = omega (arith, eqb→eq a b (and_left (eqb a b) true k), pos_P a, pos_N a, pos_P b, pos_N b)
    forth false true h =
        omega (arith, eqb→eq a b (and_left (eqb a b) (eqb a 0) h), eqb→eq a 0 (and_right (eqb a b) (eqb a 0) h), pos_P a, pos_N a, pos_P b, pos_N b, neg_P (pos b), neg_N (pos b))
    forth true false h = omega (arith, pos_P a, pos_N a, pos_P b, pos_N b, neg_P (pos a), neg_N (pos a))
    forth true true h = go (or_cases (ltb b a) (level true a true b) h)
      where
        go : T (ltb b a) ⊎ T (level true a true b) → P (neg_ℤ (pos a)) + N (neg_ℤ (pos b)) ≤ P (neg_ℤ (pos b)) + N (neg_ℤ (pos a))
        go (inl k) = omega (arith, ltb→lt b a k, pos_P a, pos_N a, pos_P b, pos_N b, neg_P (pos a), neg_N (pos a), neg_P (pos b), neg_N (pos b))
        go (inr k) = omega (arith, eqb→eq a b (and_left (eqb a b) true k), pos_P a, pos_N a, pos_P b, pos_N b, neg_P (pos a), neg_N (pos a), neg_P (pos b), neg_N (pos b))

    back : (s t : Bool) → P (with_sign s a) + N (with_sign t b) ≤ P (with_sign t b) + N (with_sign s a) → T (not_above s a t b)
    back false false h = go (eq-or-lt_of_le k)
      where
        k : a ≤ b
        k = omega (arith, pos_P a, pos_N a, pos_P b, pos_N b)

        go : (a ≡ b) ⊎ (a < b) → T (ltb a b || (eqb a b && true))
        go (inl e) = or_right (ltb a b) (eqb a b && true) (and_make (eqb a b) true (eq_test a b e) tt)
        go (inr l) = or_left (ltb a b) (eqb a b && true) (lt→ltb a b l)
    back false true h =
        and_make (eqb a b) (eqb a 0) (eq_test a b (omega (arith, pos_P a, pos_N a, pos_P b, pos_N b, neg_P (pos b), neg_N (pos b))))
        (eq_test a 0 (omega (arith, pos_P a, pos_N a, pos_P b, pos_N b, neg_P (pos b), neg_N (pos b))))
    back true false h = go a b
      where
        go : (a b : ℕ) → T (ltb 0 (a + b) || (eqb a b && eqb a 0))
        go zero zero = tt
        go zero (suc b) = or_left (ltb 0 (0 + suc b)) (eqb 0 (suc b) && eqb 0 0) (lt→ltb 0 (0 + suc b) (omega arith))
        go (suc a) b = or_left (ltb 0 (suc a + b)) (eqb (suc a) b && eqb (suc a) 0) (lt→ltb 0 (suc a + b) (omega arith))
    back true true h = go (eq-or-lt_of_le k)
      where
        k : b ≤ a
        k = omega (arith, pos_P a, pos_N a, pos_P b, pos_N b, neg_P (pos a), neg_N (pos a), neg_P (pos b), neg_N (pos b))

        go : (b ≡ a) ⊎ (b < a) → T (ltb b a || (eqb a b && true))
        go (inl e) = or_right (ltb b a) (eqb a b && true) (and_make (eqb a b) true (eq_test a b (sym e)) tt)
        go (inr l) = or_left (ltb b a) (eqb a b && true) (lt→ltb b a l)

-- ---- a factor
times : (s : Bool) (n d : ℕ) → with_sign s (n * d) ≡ with_sign s n *ℤ pos d
times false n d = refl
times true zero d = ap (λ (x : ℕ). neg_ℤ (pos x)) (zero_times d) ∙ sym (ap pos (zero_times d))
  where
    zero_times : (d : ℕ) → 0 * d ≡ 0
    zero_times d = omega arith
times true (suc n) d = refl

-- ---- two finite floats
pub le_exact : (x y : Float) → T (finite x) → T (finite y) → le x y ≡ at_most (value_of x) (value_of y)
unfolding le lt
le_exact nan y p q = absurd p
le_exact (inf s) y p q = absurd p
le_exact (fin s m e) nan p q = absurd q
le_exact (fin s m e) (inf t) p q = absurd q
le_exact (fin s m e) (fin t n c) p q = at_most_is s (m * up e * down c) t (n * up c * down e) ∙ ap₂ le_z (times s (m * up e) (down c)) (times t (n * up c) (down e))

-- ---- a float that is a whole number
value_whole : (x : Float) (z : ℤ) → Whole x z → T (finite x) × ((value_of x).over ≡ z *ℤ pos (value_of x).under)
value_whole x z w = go x w.value
  where
    s : Bool
    s = w.negative

    n : ℕ
    n = w.size

    go : (x : Float) → HasValue x s n 1 → T (finite x) × ((value_of x).over ≡ z *ℤ pos (value_of x).under)
    go nan v = absurd v
    go (inf t) v = absurd v
    go (fin t m e) v =
        (tt, ap₂ with_sign v.0 (sym (mul-one (m * up e)) ∙ v.1) ∙ times s n (down e) ∙ ap (λ (y : ℤ). y *ℤ pos (down e)) w.is)

-- it may be taken for the whole number, on either side
module _ (p : Fraction) (y : Float) (z : ℤ) (w : Whole y z) where
  abbrev d : ℤ
  d = pos (value_of y).under

  abbrev u : ℤ
  u = pos p.under

  above_zero : Pos d
  above_zero = lit_pos (value_of y).under (value_of y).above_zero

  own : p.over *ℤ d ≡ d *ℤ (p.over *ℤ pos 1)
  own = solve (p.over ∷ d ∷ []) (var 0 :* var 1) (var 1 :* (var 0 :* con (pos 1))) tt

  others : (value_of y).over *ℤ u ≡ d *ℤ (z *ℤ u)
  others = ap (λ (x : ℤ). x *ℤ u) (value_whole y z w).1 ∙ solve (z ∷ d ∷ u ∷ []) ((var 0 :* var 1) :* var 2) (var 1 :* (var 0 :* var 2)) tt

  pub most_whole : at_most p (value_of y) ≡ at_most p (over_one z)
  most_whole = ap₂ le_z own others ∙ le_z_times above_zero (p.over *ℤ pos 1) (z *ℤ u)

  pub least_whole : at_most (value_of y) p ≡ at_most (over_one z) p
  least_whole = ap₂ le_z others own ∙ le_z_times above_zero (z *ℤ u) (p.over *ℤ pos 1)

-- ---- so the comparison of a finite float with a whole number that its format counts is exact
module _ (f : Format) (x : Float) (h : T (finite x)) (z : ℤ) (c : T (counted f z)) where
  converted : Whole (of_int f z) z
  converted = of_int_whole f z (leb→le (nat_abs z) (2 ^ prec f) c)

  finite_converted : T (finite (of_int f z))
  finite_converted = (value_whole (of_int f z) z converted).0

  pub le_counted : le x (of_int f z) ≡ at_most (value_of x) (over_one z)
  le_counted = le_exact x (of_int f z) h finite_converted ∙ most_whole (value_of x) (of_int f z) z converted

  pub counted_le : le (of_int f z) x ≡ at_most (over_one z) (value_of x)
  counted_le = le_exact (of_int f z) x finite_converted h ∙ least_whole (value_of x) (of_int f z) z converted

-- ---- and of two whole numbers it is theirs
pub lt_whole : (x y : Float) (u v : ℤ) → Whole x u → Whole y v → lt x y ≡ lt_z u v
unfolding lt
lt_whole x y u v p q = go x y (value_whole x u p) (value_whole y v q)
  where
    go : (x y : Float) → T (finite x) × ((value_of x).over ≡ u *ℤ pos (value_of x).under) → T (finite y) × ((value_of y).over ≡ v *ℤ pos (value_of y).under) → lt x y ≡ lt_z u v
    go nan y g h = absurd g.0
    go (inf s) y g h = absurd g.0
    go (fin s m e) nan g h = absurd h.0
    go (fin s m e) (inf t) g h = absurd h.0
    go (fin s m e) (fin t n c) g h =
        below_is s (m * up e * down c) t (n * up c * down e)
        ∙ ap₂ lt_z (times s (m * up e) (down c) ∙ ap (λ (x : ℤ). x *ℤ pos (down c)) g.1 ∙ solve (u ∷ pos (down e) ∷ pos (down c) ∷ []) ((var 0 :* var 1) :* var 2) ((var 1 :* var 2) :* var 0) tt)
        (times t (n * up c) (down e) ∙ ap (λ (x : ℤ). x *ℤ pos (down e)) h.1 ∙ solve (v ∷ pos (down e) ∷ pos (down c) ∷ []) ((var 0 :* var 2) :* var 1) ((var 1 :* var 2) :* var 0) tt)
        ∙ lt_z_times (pos_mul (lit_pos (down e) (down_pos e)) (lit_pos (down c) (down_pos c))) u v
