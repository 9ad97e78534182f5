use Rattle.std.proofs.Common.{arith}
use Rattle.plane.proofs.Compared.{before_is}
use Rattle.split_crossing.proofs.Sides.{inside_by}
use Rattle.split_crossing.proofs.Stepped.has_inside.Goals as goal

pub returns-then-lt : goal.returns-then-lt
returns-then-lt c =
    let o = c.args.self in
    let e = inside_by o.segment o.next o.count o.steps c.args.p c.requires in let l = before_is o.segment.left c.args.p in let r = before_is c.args.p o.segment.right in grind arith

pub returns-else-lt : goal.returns-else-lt
returns-else-lt c =
    let o = c.args.self in
    let e = inside_by o.segment o.next o.count o.steps c.args.p c.requires in let l = before_is o.segment.left c.args.p in grind arith
