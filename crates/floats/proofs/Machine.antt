-- Machine integers as single floats: 32 bits hold what a single float counts, so it is read back from its bits, and the cast of it loses nothing. And a test of
-- both ends of a range for one on the size.
use mathlib.Core.Path.{◌≡◌, sym, subst}
use mathlib.Core.Bool.{Bool, ◌&&◌}
use Prim.Native.Nat.{ℕ, suc, ◌+◌, ◌^◌, ◌≤◌}
use native.Mathlib.Omega.{arith}
use lib.Dec.{T, leb, leb→le, le→leb, lt→ltb}
use lib.IntN.{ℤ, pos, negsuc, neg_ℤ, nat_abs}
use lib.Signed.{mag, le_z}
use lib.Ieee.{Format, binary32, prec, in_float}
use mir.Syntax.{w32}
use mir.Val.{SFits, to_z, of_z}
use mir.Facts.{to_z-of_z}
use Rattle.whole.proofs.Logic.{same_test, and_left, and_right, and_make}
use Rattle.whole.proofs.Balance.{P, N, neg_P, neg_N, le_z_read, le_z_make}
use Rattle.floats.specs.Value.{counted}

in_float_lem : (f : Format) (z : ℤ) → T (counted f z) → T (in_float f z)
unfolding in_float
in_float_lem f (pos n) t = t
in_float_lem f (negsuc n) t = lt→ltb n (2 ^ prec f) (leb→le (suc n) (2 ^ prec f) t)

mag_small : (z : ℤ) → mag z ≤ nat_abs z
mag_small (pos n) = omega arith
mag_small (negsuc n) = omega arith

module _ (z : ℤ) (t : T (counted binary32 z)) where
  pub counted_fits : SFits w32 z
  counted_fits = record { sfits = omega (arith, mag_small z, leb→le (nat_abs z) 16777216 t) }

  pub counted_back : to_z w32 (of_z w32 z) ≡ z
  counted_back = to_z-of_z counted_fits

  pub cast_asks : T (in_float binary32 (to_z w32 (of_z w32 z)))
  cast_asks = subst (λ (x : ℤ). T (in_float binary32 x)) (sym counted_back) (in_float_lem binary32 z t)

-- ---- -n ≤ z and z ≤ n
pub size_test : (n : ℕ) (z : ℤ) → (le_z (neg_ℤ (pos n)) z && le_z z (pos n)) ≡ leb (nat_abs z) n
unfolding P N
size_test n z =
    same_test (lower && upper) (leb (nat_abs z) n)
    (λ t. le→leb (nat_abs z) n (small z (le_z_read (neg_ℤ (pos n)) z (and_left lower upper t)) (le_z_read z (pos n) (and_right lower upper t))))
    (λ t. and_make lower upper (le_z_make (neg_ℤ (pos n)) z (least z (leb→le (nat_abs z) n t))) (le_z_make z (pos n) (most z (leb→le (nat_abs z) n t))))
  where
    lower : Bool
    lower = le_z (neg_ℤ (pos n)) z

    upper : Bool
    upper = le_z z (pos n)

    small : (z : ℤ) → P (neg_ℤ (pos n)) + N z ≤ P z + N (neg_ℤ (pos n)) → P z + N (pos n) ≤ P (pos n) + N z → nat_abs z ≤ n
    small (pos m) h k = omega arith
    small (negsuc m) h k = omega (arith, neg_P (pos n), neg_N (pos n))

    least : (z : ℤ) → nat_abs z ≤ n → P (neg_ℤ (pos n)) + N z ≤ P z + N (neg_ℤ (pos n))
    least (pos m) h = omega (arith, neg_P (pos n), neg_N (pos n))
    least (negsuc m) h = omega (arith, neg_P (pos n), neg_N (pos n))

    most : (z : ℤ) → nat_abs z ≤ n → P z + N (pos n) ≤ P (pos n) + N z
    most (pos m) h = omega arith
    most (negsuc m) h = omega arith
