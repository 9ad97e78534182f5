-- An object that is read is refused, or taken, as the scene is that it and an empty one form.
use Rattle.std.proofs.Common.{sym, ◌∙◌}
use Rattle.scene.proofs.Taken.{taken_alone}
use Rattle.scene.proofs.Outcomes.{handed_on}
use Rattle.check_verdict.proofs.Verdicts.{object_refused}
use Rattle.check_alone.proofs.Alone.{short}
use Rattle.summary_making.proofs.Summarized.{refused_alone, taken_so, refused_answer, made_answer}
use Rattle.summary_making.proofs.summarize.Goals as goal

pub returns-in_err-layout : goal.returns-in_err-layout
returns-in_err-layout c =
    let s = c.args.s.now in
    let r = c.in_err-layout.field-0.0 in
    refused_answer s r (object_refused s r (sym c.read_alone.ensures ∙ c.in_err-layout.was)) (handed_on c.from_residual.result c.from_residual.ensures.1)

pub invariant_of-o : goal.invariant_of-o
invariant_of-o c = record { read = (taken_alone c.args.s.now c.in_ok-layout.layout (sym c.read_alone.ensures ∙ c.in_ok-layout.was)).read }

pub answer-requires : goal.answer-requires
answer-requires c = short c.args.s.now c.in_ok-layout.layout (sym c.read_alone.ensures ∙ c.in_ok-layout.was)

pub returns-in_err-answer : goal.returns-in_err-answer
returns-in_err-answer c =
    let s = c.args.s.now in
    let r = c.in_err-answer.field-0.0 in
    let e = c.from_residual-in_err-answer in
    refused_answer s r (refused_alone s c.in_ok-layout.layout (sym c.read_alone.ensures ∙ c.in_ok-layout.was) c.answer.ensures r c.in_err-answer.was) (handed_on e.result e.ensures.1)

pub made-requires : goal.made-requires
made-requires c =
    let v = c.in_ok-answer.answer in
    taken_so c.args.s.now c.in_ok-layout.layout (sym c.read_alone.ensures ∙ c.in_ok-layout.was) c.answer.ensures v.scene v.vectors c.in_ok-answer.was

pub returns : goal.returns
returns c =
    let v = c.in_ok-answer.answer in
    let taken = taken_so c.args.s.now c.in_ok-layout.layout (sym c.read_alone.ensures ∙ c.in_ok-layout.was) c.answer.ensures v.scene v.vectors c.in_ok-answer.was in
    made_answer c.args.s.now c.in_ok-layout.layout taken.0 c.made.ensures
