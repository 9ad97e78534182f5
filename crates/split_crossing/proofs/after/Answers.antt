-- Neither the difference nor the product nor the sum leaves 32 bits.
use Rattle.std.proofs.Common.{arith, pos, ◌+ℤ◌, ◌-ℤ◌, ◌*ℤ◌}
use mir.Syntax.{w32}
use mir.Facts.{to_z-of_z}
use Rattle.std.proofs.lemmas.Int.{to_z_pos}
use Rattle.plane.proofs.Machine.{half_fits, nat_abs_sum, nat_abs_difference}
use Rattle.split_crossing.proofs.after.Goals as goal

pub returns : goal.returns
returns c =
    let m = c.args.m in
    let by = c.args.n -ℤ m in
    let way = pos c.args.steps *ℤ by in
    rw (
      to_z-of_z c.ranges.m,
      to_z-of_z c.ranges.n,
      to_z_pos w32 c.args.steps (omega (arith, c.requires.2)),
      to_z-of_z (half_fits by (omega (arith, nat_abs_difference c.args.n m, c.requires.0, c.requires.1))),
      to_z-of_z (half_fits way (omega (arith, c.requires.3))),
    )
    (to_z-of_z (half_fits (m +ℤ way) (omega (arith, nat_abs_sum m way, c.requires.0, c.requires.3))))
