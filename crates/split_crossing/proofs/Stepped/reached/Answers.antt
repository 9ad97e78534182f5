-- So many steps are no longer than all of them, which lead to the right end.
use Rattle.std.proofs.Common.{arith}
use mir.Facts.{to_z-of_z}
use Rattle.plane.specs.Plane.{limit}
use Rattle.plane.proofs.Machine.{near_fits, within_x, within_y, left_in_range}
use Rattle.split_crossing.proofs.Stepping.{way_across, way_up}
use Rattle.split_crossing.proofs.Stepped.reached.Goals as goal

pub after-requires : goal.after-requires
after-requires c =
    let o = c.args.self in
    let left = within_x limit o.segment.left (left_in_range o.segment o.in_range) in
    let next = within_x limit o.next o.steps.next_in_range in
    let way = way_across o.segment o.next o.count o.steps o.in_range c.args.steps c.requires in
    rw (to_z-of_z (near_fits o.segment.left.x (omega (arith, left))), to_z-of_z (near_fits o.next.x (omega (arith, next))))
    (left, next, omega (arith, c.requires, o.steps.few), way)

pub after-requires-2 : goal.after-requires-2
after-requires-2 c =
    let o = c.args.self in
    let left = within_y limit o.segment.left (left_in_range o.segment o.in_range) in
    let next = within_y limit o.next o.steps.next_in_range in
    let way = way_up o.segment o.next o.count o.steps o.in_range c.args.steps c.requires in
    rw (to_z-of_z (near_fits o.segment.left.y (omega (arith, left))), to_z-of_z (near_fits o.next.y (omega (arith, next))))
    (left, next, omega (arith, c.requires, o.steps.few), way)
