-- How large the terms of the sums are, for coordinates within any limit up to 10,000,000: so many that two objects have elements fit 64 bits.
use Prim.Native.Nat.{ℕ, ◌*◌, ◌≤◌}
use native.Mathlib.Nat.{mul-le-mul}
use native.Mathlib.Omega.{arith}
use mathlib.Core.Bool.{Bool, true, false}
use lib.Dec.{T}
use lib.IntN.{ℤ, pos, nat_abs, ◌-ℤ◌, ◌*ℤ◌}
use Rattle.whole.specs.Count.{bit}
use Rattle.plane.specs.declared.Segment.{Segment}
use Rattle.plane.specs.Plane.{within}
use Rattle.plane.proofs.Machine.{nat_abs_difference, nat_abs_product, within_x, within_y}
use Rattle.plane.specs.Shoelace.{shoelace, weighed}

-- the widest range, and what a product of two coordinates in it, or a segment's value, is at most
abbrev pub widest : ℕ
widest = 10000000

abbrev pub most_product : ℕ
most_product = 100000000000000

abbrev pub most_term : ℕ
most_term = 200000000000000

pub product_most : (a b : ℤ) → nat_abs a ≤ widest → nat_abs b ≤ widest → nat_abs (a *ℤ b) ≤ most_product
product_most a b h k = rw (nat_abs_product a b) (mul-le-mul h k)

pub record Within (n : ℕ) (t : Segment) : Type 0 where
  pub of_left : T (within n t.left)
  pub of_right : T (within n t.right)

module _ {n : ℕ} (wide : n ≤ widest) where
  pub shoelace_most : {t : Segment} → Within n t → nat_abs (shoelace t) ≤ most_term
  unfolding shoelace
  shoelace_most {t} w =
      let a = within_x n t.left w.of_left in
      let b = within_y n t.left w.of_left in
      let c = within_x n t.right w.of_right in
      let d = within_y n t.right w.of_right in
      omega (arith, nat_abs_difference (t.left.x *ℤ t.right.y) (t.right.x *ℤ t.left.y), product_most t.left.x t.right.y (omega arith) (omega arith), product_most t.right.x t.left.y (omega arith) (omega arith))

pub weighed_most : (a b : Bool) (v : ℤ) → nat_abs (weighed a b v) ≤ nat_abs v
unfolding weighed
weighed_most a b v = rw (nat_abs_product (pos (bit a) -ℤ pos (bit b)) v) (go a b)
  where
    go : (a b : Bool) → nat_abs (pos (bit a) -ℤ pos (bit b)) * nat_abs v ≤ nat_abs v
    go false false = omega arith
    go false true = omega arith
    go true false = omega arith
    go true true = omega arith
