-- Told left is above.
use Rattle.std.proofs.Common.{ℤ, pos, sym}
use Rattle.std.specs.Int.Signed.{lt_z}
use Rattle.plane.proofs.Machine.{left_test, left_is, told}
use Rattle.sweep_status.proofs.place.is_told_under.Goals as goal

pub returns-in-Some-Left : goal.returns-in-Some-Left
returns-in-Some-Left c _ =
    let u = c.args.u in
    sym (told left_test (λ (z : ℤ). lt_z (pos 0) z) left_is u.left u.right c.args.p c.in-Some-Left.ensures c.in-Some-Left.field-0-is)
