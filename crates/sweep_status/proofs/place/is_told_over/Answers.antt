-- Told right is below.
use Rattle.std.proofs.Common.{ℤ, pos, sym}
use Rattle.std.specs.Int.Signed.{lt_z}
use Rattle.plane.proofs.Machine.{is_right, right_is, told}
use Rattle.sweep_status.proofs.place.is_told_over.Goals as goal

pub returns-in-Some-Right : goal.returns-in-Some-Right
returns-in-Some-Right c _ =
    let u = c.args.u in
    sym (told is_right (λ (z : ℤ). lt_z z (pos 0)) right_is u.left u.right c.args.p c.in-Some-Right.ensures c.in-Some-Right.field-0-is)
