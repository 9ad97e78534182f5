-- The check, the type, and what is written.
use Rattle.std.proofs.Common.{sym, ap, ◌∙◌, length}
use Rattle.scene.proofs.Outcomes.{handed_on}
use Rattle.check_verdict.proofs.Laws.{sound_object}
use Rattle.check_verdict.proofs.CheckedMeans.{checked_object_means}
use Rattle.scene.specs.Conditions.{object}
use Rattle.wkb_writing.specs.Wkb.{wkb_of}
use Rattle.wkb_writing.specs.Writing.{WriteAnswer, buffer_after}
use Rattle.wkb_writing.proofs.Answered.{region_refused, refused_answer, taken_answer}
use Rattle.wkb_writing.proofs.write.Goals as goal

pub returns-in_err-layout : goal.returns-in_err-layout
returns-in_err-layout c =
    let s = c.args.s.now in
    let e = refused_answer s c.args.wkb.now c.in_err-layout.field-0.0 (sym c.check_object.ensures.0 ∙ c.in_err-layout.was) (checked_object_means s) in
    (handed_on c.from_residual.result c.from_residual.ensures.1 ∙ e.0, e.1, e.2)

pub returns-then-is_region : goal.returns-then-is_region
returns-then-is_region c =
    let s = c.args.s.now in
    let l = c.in_ok-layout.layout in
    taken_answer s c.args.wkb.now l (sym c.check_object.ensures.0 ∙ c.in_ok-layout.was) (checked_object_means s)
    (c.at.ensures ∙ region_refused s l (length c.args.wkb.now) (sym c.if-is_region.ensures)) (sym (ap (λ (r : WriteAnswer). buffer_after (wkb_of (object s l)) r c.args.wkb.now) c.at.ensures))

pub invariant_of-fill : goal.invariant_of-fill
invariant_of-fill c = record { read = (sound_object c.args.s.now c.in_ok-layout.layout (sym c.check_object.ensures.0 ∙ c.in_ok-layout.was)).read }

pub returns : goal.returns
returns c =
    let s = c.args.s.now in
    taken_answer s c.args.wkb.now c.in_ok-layout.layout (sym c.check_object.ensures.0 ∙ c.in_ok-layout.was) (checked_object_means s) c.fill.ensures.0 c.fill.ensures.1
