-- What is left, from here and from the point before, comes to what the whole does.
use Rattle.wkb_gathering.proofs.Walking.{Along}
use Rattle.wkb_gathering.proofs.row_into.Given as goal

abbrev pub invariant-loop : goal.invariant-loop
invariant-loop g l = Along l.s l.little l.n l.from l.fn.row l.counter l.at l.before l.row
