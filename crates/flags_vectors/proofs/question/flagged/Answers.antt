-- The checks may refuse; of a scene that they take, the vectors.
use Rattle.std.proofs.Common.{◌∙◌, sym, ap}
use Rattle.scene.proofs.Outcomes.{handed_on}
use Rattle.flags_vectors.specs.Vectors.{given_vectors}
use Rattle.flags_vectors.proofs.Answered.{refused, told}
use Rattle.flags_vectors.proofs.question.flagged.Goals as goal

pub returns-in_err-scene : goal.returns-in_err-scene
returns-in_err-scene c =
    handed_on c.from_residual.result c.from_residual.ensures.1
    ∙ sym (refused c.args.s.now c.args.wanted c.in_err-scene.field-0.0 (sym c.asked.ensures.is ∙ c.in_err-scene.was))

pub returns : goal.returns
returns c =
    let a = c.in_ok-scene.field-0 in
    sym (told c.args.s.now c.args.wanted a (sym c.asked.ensures.is ∙ c.in_ok-scene.was) (c.as_given-vectors.ensures ∙ ap (given_vectors a.scene) c.swept_vectors.ensures))
