-- The two literals are 524,288 and its opposite.
use lib.Ieee.{of_bits, neg}
use Rattle.estimate.specs.Estimate.{certain}
use Rattle.estimate.proofs.side_of.Goals as goal

pub returns-then-estimate : goal.returns-then-estimate
unfolding certain of_bits
returns-then-estimate c = simp c.if-estimate.true

pub returns-then-estimate-2 : goal.returns-then-estimate-2
unfolding certain of_bits neg
returns-then-estimate-2 c = simp (c.if-estimate.false, c.if-estimate-2.true)

pub returns-else-estimate-2 : goal.returns-else-estimate-2
unfolding certain of_bits neg
returns-else-estimate-2 c = simp (c.if-estimate.false, c.if-estimate-2.false)
