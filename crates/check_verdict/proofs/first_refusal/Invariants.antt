-- None of the flaws before is found, so the verdict is that of the rest.
use Rattle.std.proofs.Common.{◌≡◌, drop}
use Rattle.scene.specs.Read.{Fault}
use Rattle.scene.specs.declared.Flaw.{Flaw}
use Rattle.check_verdict.specs.Refusals.{flawed, verdict, Finds}
use Rattle.check_verdict.proofs.first_refusal.Given as goal

abbrev pub invariant-loop-flaw : goal.invariant-loop-flaw
invariant-loop-flaw g l = (found : Flaw → Fault) → Finds (λ n o. g.F.Fn.post l.fault (n, tt) o) found → verdict (flawed found l.flaws) ≡ verdict (flawed found (drop l.flaw-index l.flaws))
