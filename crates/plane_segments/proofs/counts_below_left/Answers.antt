-- The tests of the definition, at doubled coordinates.
use Rattle.std.proofs.Common.{◌≡◌, ◌&&◌, true, false, pos, rules}
use Rattle.std.specs.Int.Signed.{lt_z, le_z}
use Rattle.plane.specs.Plane.{side, halved, counts_below_left}
use Rattle.plane.proofs.Grid.{below_left_halved}
use Rattle.plane_segments.proofs.counts_below_left.Goals as goal
use Rattle.plane_segments.proofs.counts_below_left.Goals.{Joined-left-m, then-left-m, else-left-m}

-- the flag where the ways of the first two tests meet
flag : (c : Joined-left-m) → c.if-left-m.value ≡ (lt_z c.doubled-left.result.x c.args.m.x && le_z c.args.m.x c.doubled-right.result.x)
flag c =
    elim c.if-left-m.branch [
      | then-left-m w ↦ (let a : lt_z c.doubled-left.result.x c.args.m.x ≡ true = search rules in rw a (search rules))
      | else-left-m w ↦ (let a : lt_z c.doubled-left.result.x c.args.m.x ≡ false = search rules in rw a (search rules))
    ]

-- and the definition, by the flag
counted : (c : Joined-left-m) →
    counts_below_left (halved c.args.m) c.args.s ≡ (c.if-left-m.value && lt_z (pos 0) (side c.doubled-left.result c.doubled-right.result c.args.m))
counted c =
    let l = c.doubled-left in
    let r = c.doubled-right in
    rw (flag c)
    (below_left_halved c.args.s l.result r.result c.args.m (record { x_is = l.ensures.0; y_is = l.ensures.1 }) (record { x_is = r.ensures.0; y_is = r.ensures.1 }))

pub returns-then-m-right : goal.returns-then-m-right
returns-then-m-right c = rw (counted (goal.at.returns-then-m-right c).Joined-left-m, c.if-m-right.true) c.turns.ensures

pub returns-else-m-right : goal.returns-else-m-right
returns-else-m-right c = rw (counted (goal.at.returns-else-m-right c).Joined-left-m, c.if-m-right.false)
