-- What is left, from here, comes to what the whole does.
use Rattle.wkb_grammar.specs.Grammar.{ring_at}
use Rattle.wkb_rows.specs.Rows.{ends_cmp}
use Rattle.wkb_gathering.specs.Keys.{row_ends}
use Rattle.wkb_gathering.proofs.Walking.{Each}
use Rattle.wkb_gathering.proofs.rings_into.Given as goal

abbrev pub invariant-loop : goal.invariant-loop
invariant-loop g l = Each ends_cmp row_ends (ring_at l.s l.little) l.n l.from l.fn.row l.counter l.at l.row
