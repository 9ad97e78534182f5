use Rattle.std.proofs.Common.{◌≡◌, arith}
use Rattle.rows.proofs.Closed.{closed}
use Rattle.rows.proofs.lower.Goals as goal

pub returns : goal.returns
returns g c =
    let h = c.loop-i.invariant in
    let done : c.loop-i.i ≡ c.args.k = omega (arith, h.from) in
    closed c.loop-i.row c.args.row.now c.args.k c.loop-i.held c.args.value c.requires (rw done at h.below) (rw done at h.moved)
