use Rattle.std.proofs.Common.{◌≡◌, true, drop}
use Rattle.whole.specs.Count.{every}
use Rattle.scene_writing.specs.Named.{earlier_in}
use Rattle.scene_writing.proofs.order.scan.Given as goal

abbrev pub invariant-loop-k : goal.invariant-loop-k
invariant-loop-k l = every (earlier_in l.row.ends.now l.h) (drop l.k l.order) ≡ true
