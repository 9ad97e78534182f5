-- The answer is that of the search over the rest, from the nearest so far.
use Rattle.std.proofs.Common.{◌≡◌, drop}
use Rattle.split_pieces.specs.Pieces.{next_cut}
use Rattle.split_cuts.proofs.pieces.next_cut.Given as goal

abbrev pub invariant-loop-c : goal.invariant-loop-c
invariant-loop-c l = next_cut l.cuts l.p l.fn.r ≡ next_cut (drop l.c-index l.cuts) l.p l.q
