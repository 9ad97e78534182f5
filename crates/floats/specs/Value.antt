-- The value of a float: as a fraction, and as a whole number where it is one. Floats are those of `lib.Ieee`, Rust's f32 and f64.
use Rattle.std.specs.Prelude.{ℕ, ◌+◌, ◌*◌, ◌^◌, ◌≤◌, ◌≡◌, Bool, true, false, T, leb, ℤ, pos, neg_ℤ, nat_abs, ◌-ℤ◌, ◌*ℤ◌, Float}
use Rattle.std.proofs.Common.{lit≤}
use Rattle.std.specs.Int.Signed.{le_z}
use Rattle.std.specs.Float.{nan, inf, fin, Format}
use Rattle.std.specs.Float.Ieee.{prec, up, down}
use Rattle.std.specs.Float.Ieee.Exact.{HasValue}
use Rattle.std.specs.Float.Ieee.Fits.{down_pos}
use Rattle.plane.specs.Plane.{Fraction}

-- n with a sign; both zeros are zero
abbrev pub with_sign : Bool → ℕ → ℤ
with_sign true n = neg_ℤ (pos n)
with_sign false n = pos n

-- x is finite and its value is the whole number z
pub record Whole (x : Float) (z : ℤ) : Type 0 where
  pub negative : Bool
  pub size : ℕ
  pub value : HasValue x negative size 1
  pub is : with_sign negative size ≡ z

-- |x - y| ≤ d
abbrev pub Near : ℕ → ℤ → ℤ → Type 0
Near d x y = nat_abs (x -ℤ y) ≤ d

abbrev pub Within : ℕ → ℕ → ℕ → Type 0
Within d x y = (x ≤ y + d) × (y ≤ x + d)

-- the whole numbers that a format counts without a gap
abbrev pub counted : Format → ℤ → Bool
counted f z = leb (nat_abs z) (2 ^ prec f)

-- The value of a finite float, `fin s m e`: m times 2 ^ e, as a fraction, which is up e over down e. The others have none; they stand at 0.
abbrev pub value_of : Float → Fraction
value_of nan = record { over = pos 0; under = 1; above_zero = lit≤ tt }
value_of (inf s) = record { over = pos 0; under = 1; above_zero = lit≤ tt }
value_of (fin s m e) = record { over = with_sign s (m * up e); under = down e; above_zero = down_pos e }

-- a whole number as a fraction
abbrev pub over_one : ℤ → Fraction
over_one z = record { over = z; under = 1; above_zero = lit≤ tt }

-- p is at most q
abbrev pub at_most : Fraction → Fraction → Bool
at_most p q = le_z (p.over *ℤ pos q.under) (q.over *ℤ pos p.under)

-- q lies in the stretch from p to r, ends included
abbrev pub InStretch : Fraction → Fraction → Fraction → Type 0
InStretch p r q = T (at_most p q) × T (at_most q r)
