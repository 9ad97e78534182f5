-- 16, or the scene.
use Rattle.std.proofs.Common.{◌∙◌, sym}
use Rattle.overlap.proofs.Checked.{sixteen, passed}
use Rattle.overlap.proofs.refusals.judge.Goals as goal

pub returns-in-Some : goal.returns-in-Some
returns-in-Some c s = c.at.ensures ∙ sym (sixteen s c.args.scene c.in-Some.place (sym (c.regions_fault.ensures s) ∙ c.in-Some.is))

pub returns-in-None : goal.returns-in-None
returns-in-None c s = sym (passed s c.args.scene (sym (c.regions_fault.ensures s) ∙ c.in-None.is))
