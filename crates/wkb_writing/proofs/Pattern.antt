-- The bit pattern of a whole number's float: it has 64 bits, is no NaN's, and is read back as the number.
use Prim.Native.Nat.{◌^◌, ◌<◌, ◌≤◌}
use native.Mathlib.Omega.{arith}
use mathlib.Core.Path.{◌≡◌, ap, ◌∙◌}
use mathlib.Core.Bool.{not}
use lib.Dec.{T}
use lib.IntN.{ℤ, pos, negsuc, nat_abs}
use lib.Ieee.{Float, nan, inf, fin, binary64, is_nan, of_int, of_bits}
use lib.Ieee.Bits.{to_bits-lt, of_bits-to_bits}
use lib.Ieee.Fits.{of_int-fits}
use mir.Syntax.{w32}
use mir.Val.{SFits}
use Rattle.floats.specs.Value.{Whole}
use Rattle.floats.proofs.Operations.{of_int_whole}
use Rattle.plane.specs.Plane.{limit}
use Rattle.wkb_coordinate.specs.declared.Coordinate.{Coordinate}
use Rattle.wkb_coordinate.specs.Coordinate.{coordinate_of}
use Rattle.wkb_coordinate.proofs.Meaning.{taken_by_value}
use Rattle.wkb_writing.specs.Wkb.{pattern}

pub pattern_small : (z : ℤ) → pattern z < 2 ^ 64
unfolding pattern
pattern_small z = to_bits-lt binary64 (of_int binary64 z) (of_int-fits binary64 z)

no_nan : (x : Float) (z : ℤ) → Whole x z → T (not (is_nan x))
unfolding is_nan
no_nan nan z w = absurd w.value
no_nan (inf s) z w = tt
no_nan (fin s m e) z w = tt

near : (z : ℤ) → SFits w32 z → nat_abs z ≤ 2 ^ 53
near (pos n) h = omega (arith, h.sfits)
near (negsuc n) h = omega (arith, h.sfits)

-- of every number that the machine holds in 32 bits
pub no_nan_bits : (z : ℤ) → SFits w32 z → T (not (is_nan (of_int binary64 z)))
no_nan_bits z h = no_nan (of_int binary64 z) z (of_int_whole binary64 z (near z h))

pub pattern_back : (z : ℤ) → nat_abs z ≤ limit → coordinate_of (of_bits binary64 (pattern z)) ≡ Coordinate.Whole z
unfolding pattern
pattern_back z h =
    ap coordinate_of (of_bits-to_bits binary64 (of_int binary64 z) (of_int-fits binary64 z))
    ∙ taken_by_value (of_int binary64 z) z (of_int_whole binary64 z (omega arith)) h
