-- For a vertical segment an odd number has to count, and for any other an even one.
use Rattle.std.proofs.Common.{ap, ap₂, ◌∙◌}
use Rattle.std.specs.Bool.{beq}
use Rattle.whole.specs.Count.{odd}
use Rattle.plane.specs.Plane.{interior_above}
use Rattle.plane.proofs.Machine.{bits_eqb, left_in_doubled, right_in_doubled, doubled_held}
use Rattle.scene_writing.specs.Rows.{segments_in}
use Rattle.wkb_interiors.proofs.Columns.{by_tests}
use Rattle.wkb_interiors.proofs.interior_above.Goals as goal

pub returns : goal.returns
unfolding odd
returns c =
    let middle = c.new-middle.result in
    let t = middle.segment in
    let left = doubled_held t.left (left_in_doubled t middle.is.good) in
    let right = doubled_held t.right (right_in_doubled t middle.is.good) in
    let l = segments_in c.args.row.ends.now in
    ap₂ beq (ap odd c.count.ensures) (bits_eqb left.x_fits right.x_fits) ∙ by_tests l t ∙ ap (interior_above l) c.new-middle.ensures
