-- The estimate is a whole number within 524,288 of the side value, so a size above that tells the side: the differences are exact, each product is below
-- 2 ^ 42 and moves by at most 2 ^ 17, and their difference is below 2 ^ 43 and moves by at most 2 ^ 18.
use mathlib.Core.Path.{◌≡◌, refl, sym, ap, ap₂, ◌∙◌}
use mathlib.Core.Bool.{Bool, true, false, ◌&&◌, false≢true}
use Prim.Native.Nat.{ℕ, zero, suc, ◌+◌, ◌≤◌, ◌<◌}
use native.Mathlib.Nat.{mul-le-mul, le_trans, le_of_eq, lt_of_le_of_lt, lt_irrefl, not-suc-le-zero}
use native.Mathlib.Omega.{arith}
use lib.Dec.{T, lit<, lit≤}
use lib.IntN.{ℤ, pos, negsuc, nat_abs, ◌-ℤ◌, ◌*ℤ◌}
use lib.Signed.{lt_z}
use lib.Ieee.{Float, binary32, sub, mul, of_int}
use mir.Facts.{and_yes}
use Rattle.whole.proofs.Balance.{P, N, sub_balanceℤ, lt_z_read}
use Rattle.plane.specs.declared.Point.{Point}
use Rattle.plane.specs.declared.Turn.TheVariants.{Left as LeftTurn, Right as RightTurn}
use Rattle.plane.specs.Plane.{side, turn_of, turn}
use Rattle.plane.proofs.Machine.{within_x, within_y, nat_abs_difference, nat_abs_product}
use Rattle.floats.specs.Value.{Whole, Near}
use Rattle.floats.proofs.Operations.{Rounded, mul_rounded, sub_rounded, of_int_whole, exact, halves, close}
use Rattle.floats.proofs.Compared.{lt_whole}
use Rattle.estimate.specs.Estimate.{range, in_range, all_in_range, apart, float_side, most, least, side_by, certain, side_number, Promised}

-- ---- points in the range
module _ (a b c : Point) (t : T (all_in_range a b c)) where
  pub first_in : T (in_range a)
  unfolding all_in_range
  first_in = (and_yes (in_range a) (in_range b && in_range c) t).0

  both_in : T (in_range b && in_range c)
  unfolding all_in_range
  both_in = (and_yes (in_range a) (in_range b && in_range c) t).1

  pub second_in : T (in_range b)
  second_in = (and_yes (in_range b) (in_range c) both_in).0

  pub third_in : T (in_range c)
  third_in = (and_yes (in_range b) (in_range c) both_in).1

-- ---- a difference of coordinates is exact, and at most 2,000,000 in size
record Factor (x : Float) (z : ℤ) : Type 0 where
  pub is : Whole x z
  pub small : nat_abs z ≤ 2000000

factor : (u v : ℤ) → nat_abs u ≤ range → nat_abs v ≤ range → Factor (apart u v) (u -ℤ v)
factor u v h k = record { is = exact (apart u v) (u -ℤ v) difference; small = small }
  where
    small : nat_abs (u -ℤ v) ≤ 2000000
    small = omega (arith, nat_abs_difference u v)

    difference : Rounded (apart u v) 0 (u -ℤ v)
    difference =
        sub_rounded binary32 0 0 (lit≤ tt) (lit≤ tt) (of_int binary32 u) (of_int binary32 v) u v (of_int_whole binary32 u (omega arith)) (of_int_whole binary32 v (omega arith))
        (lt_of_le_of_lt small (lit< tt))

-- ---- a product of two differences
record Product (x : Float) (z : ℤ) : Type 0 where
  pub is : Rounded x 131072 z
  pub small : nat_abs z ≤ 4000000000000

product : {x y : Float} {u v : ℤ} → Factor x u → Factor y v → Product (mul binary32 x y) (u *ℤ v)
product {x} {y} {u} {v} p q = record { is = mul_rounded binary32 18 131072 (lit≤ tt) (lit≤ tt) x y u v p.is q.is (lt_of_le_of_lt small (lit< tt)); small = small }
  where
    small : nat_abs (u *ℤ v) ≤ 4000000000000
    small = le_trans (le_of_eq (nat_abs_product u v)) (le_trans (mul-le-mul p.small q.small) (lit≤ tt))

-- ---- the difference of two products
far : (u v : ℤ) (d : ℕ) → Near d u v → nat_abs u ≤ nat_abs v + d
unfolding P N
far u v d h = go u v (halves d u v h)
  where
    go : (u v : ℤ) → (P u + N v ≤ P v + N u + d) × (P v + N u ≤ P u + N v + d) → nat_abs u ≤ nat_abs v + d
    go (pos a) (pos b) k = omega arith
    go (pos a) (negsuc b) k = omega arith
    go (negsuc a) (pos b) k = omega arith
    go (negsuc a) (negsuc b) k = omega arith

errors : (m n u v w : ℤ) → Near 131072 m u → Near 131072 n v → Near 262144 w (m -ℤ n) → Near 524288 w (u -ℤ v)
errors m n u v w h k l =
    let p = halves 131072 m u h in
    let q = halves 131072 n v k in
    let r = halves 262144 w (m -ℤ n) l in
    close 524288 w (u -ℤ v) (omega (arith, p, q, r, sub_balanceℤ m n, sub_balanceℤ u v)) (omega (arith, p, q, r, sub_balanceℤ m n, sub_balanceℤ u v))

difference : {x y : Float} {u v : ℤ} → Product x u → Product y v → Rounded (sub binary32 x y) 524288 (u -ℤ v)
difference {x} {y} {u} {v} p q = record { near = r.near; whole = r.whole; by = errors m n u v r.near p.is.by q.is.by r.by }
  where
    m : ℤ
    m = p.is.near

    n : ℤ
    n = q.is.near

    r : Rounded (sub binary32 x y) 262144 (m -ℤ n)
    r =
        sub_rounded binary32 19 262144 (lit≤ tt) (lit≤ tt) x y m n p.is.whole q.is.whole
        (omega (arith, p.small, q.small, nat_abs_difference m n, far m u 131072 p.is.by, far n v 131072 q.is.by))

module _ (a b c : Point) (t : T (all_in_range a b c)) where
  -- a difference of coordinates, of two of the points
  across : (p q : Point) → T (in_range p) → T (in_range q) → Factor (apart q.x p.x) (q.x -ℤ p.x)
  across p q h k = factor q.x p.x (within_x range q k) (within_x range p h)

  up : (p q : Point) → T (in_range p) → T (in_range q) → Factor (apart q.y p.y) (q.y -ℤ p.y)
  up p q h k = factor q.y p.y (within_y range q k) (within_y range p h)

  side_near : Rounded (float_side a b c) 524288 (side a b c)
  unfolding float_side side
  side_near = let i = first_in a b c t in let j = second_in a b c t in let k = third_in a b c t in
      difference (product (across a b i j) (up a c i k)) (product (up a b i j) (across a c i k))

-- ---- the two tests, in whole numbers
told : (x : Float) (z : ℤ) → Whole x z → certain x ≡ side_by (lt_z (pos 524288) z) (lt_z z (negsuc 524287))
unfolding certain
told x z w = ap₂ side_by (lt_whole most x (pos 524288) z above w) (lt_whole x least z (negsuc 524287) w below)
  where
    above : Whole most (pos 524288)
    above = record { negative = false; size = 524288; value = (refl, refl); is = refl }

    below : Whole least (negsuc 524287)
    below = record { negative = true; size = 524288; value = (refl, refl); is = refl }

-- ---- so a side that is told is the exact one
left_by : (l r : Bool) → side_number (side_by l r) ≡ pos 1 → T l
left_by true r e = tt
left_by false true e = absurd (false≢true (ap (lt_z (pos 0)) e))
left_by false false e = absurd (false≢true (ap (lt_z (pos 0)) e))

right_by : (l r : Bool) → side_number (side_by l r) ≡ negsuc 0 → T r
right_by true r e = absurd (false≢true (ap (λ (z : ℤ). lt_z z (pos 0)) e))
right_by false true e = tt
right_by false false e = absurd (false≢true (ap (λ (z : ℤ). lt_z z (pos 0)) e))

left_turn : (z : ℤ) → N z < P z → turn_of z ≡ LeftTurn
unfolding P N
left_turn (pos zero) h = absurd (lt_irrefl 0 h)
left_turn (pos (suc n)) h = refl
left_turn (negsuc n) h = absurd (not-suc-le-zero h)

right_turn : (z : ℤ) → P z < N z → turn_of z ≡ RightTurn
unfolding P N
right_turn (pos n) h = absurd (not-suc-le-zero h)
right_turn (negsuc n) h = refl

-- ---- "that lies within 524,288 of the exact whole number for all coordinates in 01's range. Where its size is above 524,288 the side is certain and
-- equals the exact test's"
pub promised : (a b c : Point) → T (all_in_range a b c) → Promised a b c (float_side a b c) (side_number (certain (float_side a b c)))
unfolding turn N P
promised a b c t =
    record {
      nearby = z;
      whole = n.whole;
      error = n.by;
      told = is;
      left = λ e. left_turn (side a b c) (omega (arith, lt_z_read (pos 524288) z (left_by (lt_z (pos 524288) z) (lt_z z (negsuc 524287)) (sym is ∙ e)), halves 524288 z (side a b c) n.by));
      right = λ e. right_turn (side a b c) (omega (arith, lt_z_read z (negsuc 524287) (right_by (lt_z (pos 524288) z) (lt_z z (negsuc 524287)) (sym is ∙ e)), halves 524288 z (side a b c) n.by));
    }
  where
    n : Rounded (float_side a b c) 524288 (side a b c)
    n = side_near a b c t

    z : ℤ
    z = n.near

    is : side_number (certain (float_side a b c)) ≡ side_number (side_by (lt_z (pos 524288) z) (lt_z z (negsuc 524287)))
    is = ap side_number (told (float_side a b c) z n.whole)
