-- Document 02, Paper 10: the side value in single floats, the side that it tells, and what both say of the exact side value.
use Rattle.std.specs.Prelude.{ℕ, ◌≡◌, Bool, true, false, ◌&&◌, cond, T, ℤ, pos, negsuc, Float}
use Rattle.std.specs.Int.Signed.{lt_z}
use Rattle.std.specs.Float.{fin, binary32}
use Rattle.std.specs.Float.Ieee.{of_int, sub, mul, lt}
use Rattle.plane.specs.declared.Point.{Point}
use Rattle.plane.specs.declared.Turn.TheVariants.{Left as LeftTurn, Right as RightTurn}
use Rattle.plane.specs.Plane.{within, side, turn}
use Rattle.floats.specs.Value.{Whole, Near}
use Rattle.estimate.specs.declared.Side.{Side}
use Rattle.estimate.specs.declared.Side.TheVariants.{Left, Right, Close}
use Rattle.estimate.specs.declared.Estimated.{Estimated}

-- "for all coordinates in 01's range"; "The estimate of Paper 10 keeps its old range": a number of its own, whatever the coordinate limit is
abbrev pub range : ℕ
range = 1000000

abbrev pub in_range : Point → Bool
in_range p = within range p

unfoldable pub all_in_range : Point → Point → Point → Bool
all_in_range a b c = in_range a && (in_range b && in_range c)

-- "(bx - ax) times (cy - ay) less (by - ay) times (cx - ax), above zero on the left, each operation rounded once"
abbrev pub apart : ℤ → ℤ → Float
apart u v = sub binary32 (of_int binary32 u) (of_int binary32 v)

abbrev pub rounded : Float → Float → Float → Float → Float
rounded u v w z = sub binary32 (mul binary32 u v) (mul binary32 w z)

unfoldable pub float_side : Point → Point → Point → Float
float_side a b c = rounded (apart b.x a.x) (apart c.y a.y) (apart b.y a.y) (apart c.x a.x)

-- 524,288 and its opposite, as floats: 2 ^ 19
abbrev pub most : Float
most = fin false 1 (pos 19)

abbrev pub least : Float
least = fin true 1 (pos 19)

-- "Where its size is above 524,288 the side is certain and equals the exact test's; otherwise the answer is "close"."
abbrev pub side_by : Bool → Bool → Side
side_by left right = cond left Left (cond right Right Close)

unfoldable pub certain : Float → Side
certain x = side_by (lt most x) (lt x least)

-- "A point outside the range gives "close" and estimate 0."
unfoldable pub estimated : Point → Point → Point → Estimated
estimated a b c =
    cond (all_in_range a b c) (record { estimate = float_side a b c; side = certain (float_side a b c) })
    (record { estimate = fin false 0 (pos 0); side = Close })

-- "Where an answer is an enum, a definition states this paper's number and values for every one of its cases." The paper has no numbers here; these are ours.
abbrev pub side_number : Side → ℤ
side_number Left = pos 1
side_number Right = negsuc 0
side_number Close = pos 0

-- What is promised of an estimate x and the number s of its side, in whole numbers. For points in the range it "lies within 524,288 of the exact whole number": it is a
-- whole number itself, z. The side is left exactly where z is above 524,288, and right exactly where it is below -524,288; and a side that is told "equals the exact
-- test's".
pub record Promised (a b c : Point) (x : Float) (s : ℤ) : Type 0 where
  pub nearby : ℤ
  pub whole : Whole x nearby
  pub error : Near 524288 nearby (side a b c)
  pub told : s ≡ side_number (side_by (lt_z (pos 524288) nearby) (lt_z nearby (negsuc 524287)))
  pub left : s ≡ side_number Left → turn a b c ≡ LeftTurn
  pub right : s ≡ side_number Right → turn a b c ≡ RightTurn

abbrev pub EstimateHolds : Point → Point → Point → Float → ℤ → Type 0
EstimateHolds a b c x s = T (all_in_range a b c) → Promised a b c x s
