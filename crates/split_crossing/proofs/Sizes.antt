-- How large a side value is, and that it is read from its bits.
use Prim.Native.Nat.{◌*◌, ◌≤◌}
use native.Mathlib.Nat.{mul-le-mul}
use native.Mathlib.Omega.{arith}
use mathlib.Core.Path.{◌≡◌, ap, ◌∙◌}
use lib.Dec.{T}
use lib.IntN.{ℤ, nat_abs, ◌-ℤ◌, ◌*ℤ◌}
use mir.Syntax.{w64}
use mir.Val.{to_z, of_z}
use mir.Facts.{to_z-of_z}
use Rattle.plane.specs.declared.Point.{Point}
use Rattle.plane.specs.Plane.{limit, in_range, side}
use Rattle.plane.proofs.Machine.{nat_abs_difference, nat_abs_product, small_fits, within_x, within_y}

product_small : (a b c d : ℤ) → nat_abs a ≤ limit → nat_abs b ≤ limit → nat_abs c ≤ limit → nat_abs d ≤ limit → nat_abs ((a -ℤ b) *ℤ (c -ℤ d)) ≤ 4 * (limit * limit)
product_small a b c d ha hb hc hd =
    omega (arith, nat_abs_product (a -ℤ b) (c -ℤ d), mul-le-mul (far a b ha hb) (far c d hc hd))
  where
    far : (a b : ℤ) → nat_abs a ≤ limit → nat_abs b ≤ limit → nat_abs (a -ℤ b) ≤ 2 * limit
    far a b h k = omega (arith, nat_abs_difference a b)

pub side_small : (a b c : Point) → T (in_range a) → T (in_range b) → T (in_range c) → nat_abs (side a b c) ≤ 8 * (limit * limit)
unfolding side
side_small a b c ha hb hc =
    omega (
      arith,
      nat_abs_difference ((b.x -ℤ a.x) *ℤ (c.y -ℤ a.y)) ((b.y -ℤ a.y) *ℤ (c.x -ℤ a.x)),
      product_small b.x a.x c.y a.y (within_x limit b hb) (within_x limit a ha) (within_y limit c hc) (within_y limit a ha),
      product_small b.y a.y c.x a.x (within_y limit b hb) (within_y limit a ha) (within_x limit c hc) (within_x limit a ha),
    )

pub side_back : {z v : ℤ} → z ≡ v → nat_abs v ≤ 8 * (limit * limit) → to_z w64 (of_z w64 z) ≡ v
side_back {z} {v} e h = ap (λ r. to_z w64 (of_z w64 r)) e ∙ to_z-of_z (small_fits v (omega arith))
