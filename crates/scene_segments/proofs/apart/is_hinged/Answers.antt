-- By an end that the two have in common.
use Rattle.std.proofs.Common.{sym, pos, ◌∙◌}
use borrow.Author.Tests.{not-true}
use Rattle.whole.proofs.Logic.{is_true}
use Rattle.plane.proofs.Machine.{eq_z_false}
use Rattle.scene_segments.proofs.Parted.{begins_at, ends_at, beside_clear}
use Rattle.scene_segments.proofs.apart.is_hinged.Goals as goal

pub returns-then-is_end : goal.returns-then-is_end
returns-then-is_end c q =
    (beside_clear c.args.t c.args.u c.requires.1 c.requires.3
    (begins_at (is_true _ (sym c.is_end.ensures ∙ c.if-is_end.true)) (eq_z_false _ (pos 0) (not-true _ (sym c.is_off.ensures ∙ q))))).0

pub returns-then-is_end-2 : goal.returns-then-is_end-2
returns-then-is_end-2 c q =
    (beside_clear c.args.t c.args.u c.requires.1 c.requires.3
    (ends_at (is_true _ (sym c.is_end-2.ensures ∙ c.if-is_end-2.true)) (eq_z_false _ (pos 0) (not-true _ (sym c.is_off-then-is_end-2.ensures ∙ q))))).0
