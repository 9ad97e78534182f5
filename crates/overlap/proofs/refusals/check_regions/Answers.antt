-- Reading, 10 to 15, then 16, each of which may refuse; with the notes of a scene that the sweep accepts.
use Rattle.std.proofs.Common.{◌∙◌, sym}
use Rattle.scene.proofs.Outcomes.{handed_on}
use Rattle.overlap.proofs.Checked.{unread, at_fault, sound_regions, noted_judged, not_noted, regions_lent}
use Rattle.overlap.proofs.refusals.check_regions.Goals as goal

pub returns-in_err-scene : goal.returns-in_err-scene
returns-in_err-scene c =
    let e = handed_on c.from_residual.result c.from_residual.ensures.1 in
    let is = e ∙ sym (unread c.args.s.now c.in_err-scene.field-0.0 (sym c.read_scene.ensures ∙ c.in_err-scene.was)) in
    record { is = (is, not_noted e); lent = regions_lent is (not_noted e) }

pub returns-in_err-noted_verdict : goal.returns-in_err-noted_verdict
returns-in_err-noted_verdict c =
    let r = c.from_residual-in_err-noted_verdict in
    let e = handed_on r.result r.ensures.1 in
    let is = e ∙ sym (at_fault c.args.s.now c.in_ok-scene.scene (sym c.read_scene.ensures ∙ c.in_ok-scene.was) c.in_err-noted_verdict.field-0.0 (sym c.noted_verdict.ensures.is.0 ∙ c.in_err-noted_verdict.was)) in
    record { is = (is, not_noted e); lent = regions_lent is (not_noted e) }

pub returns : goal.returns
returns c =
    let s = c.args.s.now in
    let sc = c.in_ok-scene.scene in
    let is = c.judge.ensures s ∙ sound_regions s sc (sym c.read_scene.ensures ∙ c.in_ok-scene.was) (sym c.noted_verdict.ensures.is.0 ∙ c.in_ok-noted_verdict.was) in
    let noted = noted_judged s sc (c.judge.ensures s) (c.noted_verdict.ensures.is.1 c.in_ok-noted_verdict.was) in
    record { is = (is, noted); lent = regions_lent is noted }
