use Rattle.std.proofs.Common.{◌∙◌, sym, refl}
use Rattle.scene.proofs.Outcomes.{handed_on}
use Rattle.split.proofs.Judged.{raw_unread, raw_read}
use Rattle.split.proofs.raw.check.Goals as goal

pub returns-in_err-scene : goal.returns-in_err-scene
returns-in_err-scene c = handed_on c.from_residual.result c.from_residual.ensures.1 ∙ sym (raw_unread c.args.s.now c.in_err-scene.field-0.0 (sym c.read_scene.ensures ∙ c.in_err-scene.was))

pub returns-in_err-objects_verdict : goal.returns-in_err-objects_verdict
returns-in_err-objects_verdict c =
    let e = handed_on c.from_residual-in_err-objects_verdict.result c.from_residual-in_err-objects_verdict.ensures.1 in
    let v = sym c.objects_verdict.ensures ∙ c.in_err-objects_verdict.was in
    e ∙ sym (raw_read c.args.s.now c.in_ok-scene.scene (sym c.read_scene.ensures ∙ c.in_ok-scene.was) ∙ rw v refl)

pub returns : goal.returns
returns c =
    let v = sym c.objects_verdict.ensures ∙ c.in_ok-objects_verdict.was in
    sym (raw_read c.args.s.now c.in_ok-scene.scene (sym c.read_scene.ensures ∙ c.in_ok-scene.was) ∙ rw v refl)
