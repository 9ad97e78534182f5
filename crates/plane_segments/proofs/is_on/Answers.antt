-- A grid point lies on a segment when there is no turn and it is neither before the left end nor after the right.
use Rattle.std.proofs.Common.{arith}
use Rattle.plane.proofs.Machine.{turn_asks}
use Rattle.plane.proofs.Grid.{on_by_side}
use Rattle.plane.proofs.Compared.{upto_is}
use Rattle.plane_segments.proofs.is_on.Goals as goal

pub turns-requires : goal.turns-requires
turns-requires c = turn_asks c.args.s c.args.p c.requires.0 c.requires.1

pub returns-then-le : goal.returns-then-le
returns-then-le c = let e = on_by_side c.args.s c.args.p in let l = upto_is c.args.s.left c.args.p in let r = upto_is c.args.p c.args.s.right in grind arith

pub returns-else-le : goal.returns-else-le
returns-else-le c = let e = on_by_side c.args.s c.args.p in let l = upto_is c.args.s.left c.args.p in grind arith
