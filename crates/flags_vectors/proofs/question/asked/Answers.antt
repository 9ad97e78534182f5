-- Reading, 9, then 10 to 15, each of which may refuse.
use Rattle.std.proofs.Common.{◌∙◌, sym, ap, Ok}
use Rattle.scene.proofs.Outcomes.{handed_on}
use Rattle.flags_masks.specs.declared.FlagMasks.{FlagMasks}
use Rattle.flags_vectors.specs.Vectors.{stray_in}
use Rattle.flags_vectors.proofs.Answered.{unread, stray, at_fault, taken, sound}
use Rattle.flags_vectors.proofs.question.asked.Goals as goal

pub returns-in_err-scene-clause-is : goal.returns-in_err-scene-clause-is
returns-in_err-scene-clause-is c =
    handed_on c.from_residual.result c.from_residual.ensures.1
    ∙ sym (unread c.args.s.now c.args.wanted c.in_err-scene.field-0.0 (sym c.read_scene.ensures ∙ c.in_err-scene.was))

pub returns-then-any_stray-clause-is : goal.returns-then-any_stray-clause-is
returns-then-any_stray-clause-is c =
    let sc = c.in_ok-scene.scene in
    c.at.ensures ∙ sym (stray c.args.s.now sc (sym c.read_scene.ensures ∙ c.in_ok-scene.was) c.args.wanted (sym (c.any_stray.ensures ∙ ap (stray_in sc) c.masks_for-masks.ensures) ∙ c.if-any_stray.true))

pub returns-in_err-noted_verdict-clause-is : goal.returns-in_err-noted_verdict-clause-is
returns-in_err-noted_verdict-clause-is c =
    let sc = c.in_ok-scene.scene in
    let r = c.from_residual-in_err-noted_verdict in
    handed_on r.result r.ensures.1
    ∙ sym (at_fault c.args.s.now sc (sym c.read_scene.ensures ∙ c.in_ok-scene.was) c.args.wanted (sym (c.any_stray.ensures ∙ ap (stray_in sc) c.masks_for-masks.ensures) ∙ c.if-any_stray.false)
    c.in_err-noted_verdict.field-0.0 (sym c.noted_verdict.ensures.is.0 ∙ c.in_err-noted_verdict.was))

pub returns-clause-is : goal.returns-clause-is
returns-clause-is c =
    let sc = c.in_ok-scene.scene in
    ap (λ (m : FlagMasks). Ok (record { scene = sc; masks = m })) c.masks_for-masks.ensures
    ∙ sym (taken c.args.s.now sc (sym c.read_scene.ensures ∙ c.in_ok-scene.was) c.args.wanted (sym (c.any_stray.ensures ∙ ap (stray_in sc) c.masks_for-masks.ensures) ∙ c.if-any_stray.false)
    (sym c.noted_verdict.ensures.is.0 ∙ c.in_ok-noted_verdict.was))

pub returns-clause-noted : goal.returns-clause-noted
returns-clause-noted c =
    let sc = c.in_ok-scene.scene in (
      sound c.args.s.now sc (sym c.read_scene.ensures ∙ c.in_ok-scene.was) (sym c.noted_verdict.ensures.is.0 ∙ c.in_ok-noted_verdict.was),
      c.noted_verdict.ensures.is.1 c.in_ok-noted_verdict.was,
    )
