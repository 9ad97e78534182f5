-- A coordinate in range fits 32 bits.
use Rattle.std.proofs.Common.{◌≡◌, ◌≤◌, ℤ, nat_abs, arith}
use mir.Syntax.{w32}
use mir.Val.{to_z, of_z}
use mir.Facts.{to_z-of_z}
use Rattle.plane.specs.Plane.{limit}
use Rattle.plane.proofs.Machine.{half_fits}

pub back : (z : ℤ) → nat_abs z ≤ limit → to_z w32 (of_z w32 z) ≡ z
back z h = to_z-of_z (half_fits z (omega arith))
