-- The four bytes of a number in two's complement are those of `unsigned`, one after the other.
use Rattle.std.proofs.Common.{◌≡◌, ℕ, ◌/◌, refl, ap, ◌∙◌, [], ℤ, pos, negsuc, w32, arith}
use Rattle.std.proofs.lemmas.Int.{to_z-of_z}
use Rattle.std.specs.Int.{cast_unsigned, to_le_bytes}
use Rattle.scene_written.specs.Bytes.{unsigned, digit, coordinate_then}
use Rattle.scene_writing.proofs.records.coordinate.Goals as goal

raised : (z : ℤ) → cast_unsigned w32 z ≡ unsigned z
raised (pos n) = refl
raised (negsuc n) = refl

by_one : (n : ℕ) → n / 1 ≡ n
by_one n = omega arith

digits : (z : ℤ) → to_le_bytes w32 (unsigned z) ≡ coordinate_then z []
unfolding digit
digits z = rw by_one

pub returns : goal.returns
returns c =
    c.to_le_bytes.ensures
    ∙ ap (to_le_bytes w32) (ap (cast_unsigned w32) (to_z-of_z w32 c.args.z c.ranges.z) ∙ raised c.args.z)
    ∙ digits c.args.z
