-- The last comparison decides where the first three do not.
use Rattle.std.proofs.Common.{rules}
use Rattle.summary.specs.Summary.{beside}
use Rattle.summary_far.proofs.are_beside.Goals as goal
use Rattle.summary_far.proofs.are_beside.Goals.{then-b-c, else-b-c}

pub returns-else-b-c-2 : goal.returns-else-b-c-2
unfolding beside
returns-else-b-c-2 c = elim c.if-b-c.branch [
  | then-b-c w ↦ search rules
  | else-b-c w ↦ search rules
]
