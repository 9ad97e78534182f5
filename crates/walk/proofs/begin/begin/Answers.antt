-- Refused as the vectors question is, or begun.
use Rattle.std.proofs.Common.{◌∙◌, sym, ap, length}
use Rattle.scene.proofs.Outcomes.{handed_on}
use Rattle.flags_masks.specs.declared.FlagMasks.{FlagMasks}
use Rattle.flags_vectors.specs.Vectors.{these}
use Rattle.flags_vectors.proofs.Answered.{asked_taken}
use Rattle.walk.specs.Walked.{begun_as}
use Rattle.walk.proofs.Beginning.{begin_refused, begin_taken}
use Rattle.walk.proofs.Theorems.{promised, after_begun}
use Rattle.walk.proofs.begin.begin.Goals as goal

pub returns-in_err-scene-clause-is : goal.returns-in_err-scene-clause-is
returns-in_err-scene-clause-is c =
    let a = c.args in
    handed_on c.from_residual.result c.from_residual.ensures.1
    ∙ sym (begin_refused a.s.now (these a.want_f a.want_g) (length a.ground.now) c.in_err-scene.field-0.0 (sym c.asked.ensures.is ∙ c.in_err-scene.was))

pub returns-clause-is : goal.returns-clause-is
returns-clause-is c =
    let a = c.args in
    c.begun.ensures.is ∙ sym (begin_taken a.s.now (these a.want_f a.want_g) (length a.ground.now) c.in_ok-scene.field-0 (sym c.asked.ensures.is ∙ c.in_ok-scene.was))

pub returns-clause-ground : goal.returns-clause-ground
returns-clause-ground c = after_begun c.args.s.now c.in_ok-scene.field-0.scene c.args.ground.now c.begun.new.ground c.begun.result c.begun.ensures.ground

pub returns-clause-promised : goal.returns-clause-promised
returns-clause-promised c =
    let a = c.args in
    let m = c.in_ok-scene.field-0 in
    let taken = asked_taken a.s.now (these a.want_f a.want_g) m (sym c.asked.ensures.is ∙ c.in_ok-scene.was) in
    promised a.s.now a.want_f a.want_g m.scene taken.0 a.ground.now c.begun.new.ground c.begun.result
    (c.begun.ensures.is ∙ ap (λ (k : FlagMasks). begun_as a.s.now m.scene k (length a.ground.now)) taken.1) c.begun.ensures.ground
