-- A scene that the sweep accepts is noted in lent bytes too; and of one that it refuses the verdict is a refusal.
use Rattle.std.proofs.Common.{◌∙◌, sym, subst, T}
use Rattle.whole.proofs.Logic.{is_true}
use Rattle.sweep_notes.proofs.Kept.{once_laid}
use Rattle.check_verdict.proofs.noted_verdict.Goals as goal

pub returns-then-is_swept-clause-lent : goal.returns-then-is_swept-clause-lent
returns-then-is_swept-clause-lent c =
    once_laid c.args.read.read (λ sound. c.is_swept.ensures.1 (is_true c.is_swept.result c.if-is_swept.true))

pub returns-clause-lent : goal.returns-clause-lent
returns-clause-lent c =
    once_laid c.args.read.read
    (λ sound. absurd (subst T c.if-is_swept.false (c.is_swept.ensures.0.complete (sym c.plain_verdict.ensures ∙ sound))))
