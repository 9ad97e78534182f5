-- Where nothing is wanted 9 finds nothing, so the check is the scene's own, and each vector is masked by 0.
use Rattle.std.proofs.Common.{◌∙◌, sym}
use Rattle.scene.proofs.Outcomes.{handed_on}
use Rattle.flags_vectors.proofs.Answered.{none_refused, none_taken}
use Rattle.flags_vectors.proofs.question.unflagged.Goals as goal

pub returns-in_err-scene : goal.returns-in_err-scene
returns-in_err-scene c wanted none =
    handed_on c.from_residual.result c.from_residual.ensures.1
    ∙ sym (none_refused wanted none c.args.s.now c.in_err-scene.field-0.0 (sym c.check_scene.ensures.0 ∙ c.in_err-scene.was))

pub returns : goal.returns
returns c wanted none = sym (none_taken wanted none c.args.s.now c.in_ok-scene.scene (sym c.check_scene.ensures.0 ∙ c.in_ok-scene.was))
