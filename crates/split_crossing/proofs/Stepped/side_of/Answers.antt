use Rattle.plane.proofs.Machine.{in_doubled, left_in_range}
use Rattle.split_crossing.proofs.Stepped.side_of.Goals as goal

pub side-requires : goal.side-requires
side-requires c = let o = c.args.self in (in_doubled o.segment.left (left_in_range o.segment o.in_range), in_doubled o.next o.steps.next_in_range, in_doubled c.args.p c.requires)
