-- Neither the difference nor the sum leaves 32 bits.
use Rattle.std.proofs.Common.{arith}
use Rattle.std.proofs.lemmas.Int.{ints}
use Rattle.split_crossing.specs.Crossing.{steps_from}
use Rattle.split_crossing.proofs.towards.Goals as goal

pub returns-then-n-m : goal.returns-then-n-m
unfolding steps_from
returns-then-n-m c = grind (arith, ints)

pub returns-else-n-m : goal.returns-else-n-m
unfolding steps_from
returns-else-n-m c = grind (arith, ints)
