-- The coordinates' sums fit.
use Rattle.std.proofs.Common.{◌*◌}
use Rattle.plane.specs.Plane.{limit}
use Rattle.plane.proofs.Machine.{within_x, within_y, is_within, total_fits, total_back, total_small}
use Rattle.plane_segments.proofs.sum.Goals as goal

pub overflow_add-result : goal.overflow_add-result
overflow_add-result c =
    total_fits c.args.p.x c.args.q.x (within_x limit c.args.p c.requires.0) (within_x limit c.args.q c.requires.1)

pub overflow_add-result-2 : goal.overflow_add-result-2
overflow_add-result-2 c =
    total_fits c.args.p.y c.args.q.y (within_y limit c.args.p c.requires.0) (within_y limit c.args.q c.requires.1)

pub returns : goal.returns
returns c =
    let p = c.args.p in
    let q = c.args.q in
    let px = within_x limit p c.requires.0 in
    let py = within_y limit p c.requires.0 in
    let qx = within_x limit q c.requires.1 in
    let qy = within_y limit q c.requires.1 in (
      total_back p.x q.x px qx,
      total_back p.y q.y py qy,
      is_within (2 * limit) _ (total_small p.x q.x px qx) (total_small p.y q.y py qy),
    )
