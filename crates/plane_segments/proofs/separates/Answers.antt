-- Opposite turns are side values of opposite signs.
use Rattle.std.proofs.Common.{arith}
use Rattle.plane.specs.Plane.{opposite, turn, side}
use Rattle.plane.proofs.Machine.{left_is, right_is, turn_asks}
use Rattle.plane_segments.proofs.separates.Goals as goal

pub turn_from-requires : goal.turn_from-requires
turn_from-requires c = turn_asks c.args.s c.args.p c.requires.0 c.requires.1

pub turns-requires : goal.turns-requires
turns-requires c = turn_asks c.args.s c.args.q c.requires.0 c.requires.2

pub turns-requires-in-Right : goal.turns-requires-in-Right
turns-requires-in-Right c = turn_asks c.args.s c.args.q c.requires.0 c.requires.2

pub returns-in-Left : goal.returns-in-Left
unfolding opposite turn
returns-in-Left c =
    let z = side c.args.s.left c.args.s.right c.args.p in
    let l = left_is z in
    let r = right_is z in
    grind arith

pub returns-in-Straight : goal.returns-in-Straight
unfolding opposite turn
returns-in-Straight c =
    let z = side c.args.s.left c.args.s.right c.args.p in
    let l = left_is z in
    let r = right_is z in
    grind arith

pub returns-in-Right : goal.returns-in-Right
unfolding opposite turn
returns-in-Right c =
    let z = side c.args.s.left c.args.s.right c.args.p in
    let l = left_is z in
    let r = right_is z in
    grind arith
