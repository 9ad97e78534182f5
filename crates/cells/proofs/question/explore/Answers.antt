-- Each case of the answer, and what it says.
use Rattle.std.proofs.Common.{◌∙◌, ap, Ok, Err}
use Rattle.flags_masks.specs.declared.Wanted.{Wanted}
use Rattle.scene.proofs.Outcomes.{handed_on}
use Rattle.flags_vectors.proofs.Answered.{all_tidy, was_refused, was_taken}
use Rattle.cells.specs.Explored.{explored_by}
use Rattle.cells.proofs.Taken.{as_explored}
use Rattle.cells.proofs.question.explore.Goals as goal

pub returns-in_err-answer : goal.returns-in_err-answer
returns-in_err-answer c =
    let s = c.args.s.now in
    let r = c.in_err-answer.field-0.0 in
    as_explored s (Err r) (was_refused Wanted.All all_tidy s c.answer.ensures r c.in_err-answer.was) (handed_on c.from_residual.result c.from_residual.ensures.1)

pub returns : goal.returns
returns c =
    let s = c.args.s.now in
    let a = c.in_ok-answer.answer in
    let w = was_taken Wanted.All all_tidy s c.answer.ensures a.scene a.vectors c.in_ok-answer.was in
    as_explored s (Ok a.scene) w.0 (ap Ok (c.explored.ensures ∙ ap (explored_by a.scene) w.1))
