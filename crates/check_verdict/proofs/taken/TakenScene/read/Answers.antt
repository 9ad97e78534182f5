-- A scene is taken only if it is read.
use Rattle.std.proofs.Common.{subst}
use Rattle.check_verdict.specs.SharedPoints.{CheckedMeans}
use Rattle.check_verdict.proofs.CheckedMeans.{checked_means}
use Rattle.check_verdict.proofs.taken.TakenScene.read.Goals as goal

pub invariant_of-result : goal.invariant_of-result
invariant_of-result c =
    let o = c.args.self in
    record { read = (subst (CheckedMeans o.bytes.now) o.taken (checked_means o.bytes.now)).0 }
