-- What the loop of `asked_cells` keeps: the cells asked before `at` have their bits.
use Rattle.flags.proofs.Marks.{Gathering}
use Rattle.cells_pattern.specs.Asked.{named_cell}
use Rattle.cells_pattern.proofs.pattern.asked_cells.Given as goal

abbrev pub invariant-loop-at : goal.invariant-loop-at
invariant-loop-at l = record { named : Gathering (named_cell l.p) 9 l.cells l.at }
