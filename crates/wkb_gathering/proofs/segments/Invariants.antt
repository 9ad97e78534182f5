-- What is left, from here, comes to what the whole does.
use Rattle.std.proofs.Common.{[]}
use Rattle.wkb_grammar.specs.Grammar.{part_at}
use Rattle.wkb_rows.specs.Rows.{ends_cmp}
use Rattle.wkb_gathering.specs.Keys.{part_ends}
use Rattle.wkb_gathering.proofs.Walking.{Each}
use Rattle.wkb_gathering.proofs.segments.Given as goal

abbrev pub invariant-loop : goal.invariant-loop
invariant-loop g l = Each ends_cmp part_ends (part_at l.s l.kind) l.n 9 [] l.counter l.at l.row
