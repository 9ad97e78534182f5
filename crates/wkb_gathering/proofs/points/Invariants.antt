-- What is left, from here, comes to what the whole does.
use Rattle.std.proofs.Common.{[]}
use Rattle.std.specs.Ordering.{nat_cmp}
use Rattle.wkb_grammar.specs.Grammar.{point_part}
use Rattle.wkb_gathering.specs.Keys.{part_keys}
use Rattle.wkb_gathering.proofs.Walking.{Each}
use Rattle.wkb_gathering.proofs.points.Given as goal

abbrev pub invariant-loop : goal.invariant-loop
invariant-loop g l = Each nat_cmp part_keys (point_part l.s) l.n 9 [] l.counter l.at l.row
