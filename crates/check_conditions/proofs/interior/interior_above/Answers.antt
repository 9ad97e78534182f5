-- The rule for upright segments, or the one for the others.
use Rattle.std.proofs.Common.{◌≡◌, ◌∙◌, sym, ap, not}
use mathlib.Core.Bool.{or-false}
use mir.Syntax.{w32}
use mir.Val.{of_z}
use Rattle.whole.specs.Count.{odd}
use Rattle.plane.proofs.Machine.{bits_eq, eq_z_yes, eq_z_no, left_in_doubled, right_in_doubled, doubled_held}
use Rattle.scene_segments.specs.Walked.{count_below}
use Rattle.check_conditions.proofs.interior.interior_above.Goals as goal

pub returns-then-t : goal.returns-then-t
unfolding odd
returns-then-t c =
    let t = c.args.t in
    let left = doubled_held t.left (left_in_doubled t c.requires.1) in
    let right = doubled_held t.right (right_in_doubled t c.requires.1) in
    let upright : t.left.x ≡ t.right.x = bits_eq left.x_fits right.x_fits c.if-t.true in
    rw (eq_z_yes t.left.x t.right.x upright) (ap odd c.count_for_ia.ensures ∙ sym (or-false (odd (count_below c.args.o.bytes.now c.args.o.layout t))))

pub returns-else-t : goal.returns-else-t
unfolding odd
returns-else-t c =
    let t = c.args.t in
    rw (eq_z_no t.left.x t.right.x (λ e. c.if-t.false (ap (of_z w32) e))) (ap not (ap odd c.count_for_ia-else-t.ensures))
