-- A coordinate of well-known binary: a float, and the whole number in range that it is, if it is one. "A coordinate that is not a whole number in range goes back
-- to the user as the number that was read" (02, Paper 9).
use Rattle.std.specs.Prelude.{◌≡◌, ℕ, ◌*◌, ◌/◌, ◌%◌, ◌≤◌, cond, ◌&&◌, ℤ, eqb, leb, nat_abs, Float}
use Rattle.std.specs.Float.{nan, inf, fin}
use Rattle.std.specs.Float.Ieee.{up, down}
use Rattle.floats.specs.Value.{with_sign}
use Rattle.floats.specs.Value.{Whole as WholeValue}
use Rattle.plane.specs.Plane.{limit}
use Rattle.wkb_coordinate.specs.declared.Coordinate.{Coordinate}
use Rattle.wkb_coordinate.specs.declared.Coordinate.TheVariants.{Whole, Other}

-- `fin s m e` stands for m times 2 ^ e, which is m * up e over down e: its size without what it has beyond a whole number, and that rest, over down e
abbrev pub cut : ℕ → ℤ → ℕ
cut m e = m * up e / down e

abbrev pub rest : ℕ → ℤ → ℕ
rest m e = m * up e % down e

-- a whole number in range: nothing is cut, and what is left is at most the limit. -0 is 0.
unfoldable pub coordinate_of : Float → Coordinate
coordinate_of nan = Other nan
coordinate_of (inf s) = Other (inf s)
coordinate_of (fin s m e) = cond (eqb (rest m e) 0 && leb (cut m e) limit) (Whole (with_sign s (cut m e))) (Other (fin s m e))

-- That is: a float is taken for z exactly where it is finite, its value is z, and z is in range.
pub record TakenExactly (x : Float) (z : ℤ) : Type 0 where
  pub if_whole : WholeValue x z → nat_abs z ≤ limit → coordinate_of x ≡ Whole z
  pub only_if : coordinate_of x ≡ Whole z → WholeValue x z × (nat_abs z ≤ limit)
