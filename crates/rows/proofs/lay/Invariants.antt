-- The first i - 1 values are laid, and the next one is in hand.
use Rattle.std.proofs.Common.{◌≡◌, ◌-◌, ◌++◌, take, drop, get_or}
use Rattle.rows.proofs.lay.Given as goal

abbrev pub invariant-loop-i : goal.invariant-loop-i
invariant-loop-i g l = record {
  laid : l.row ≡ take (l.i - 1) l.fn.values ++ drop (l.i - 1) l.fn.row;
  in_hand : l.held ≡ get_or l.fn.values (l.i - 1) l.held;
}
