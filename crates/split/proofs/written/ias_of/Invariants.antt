-- The row has the ia of the pieces so far.
use Rattle.std.proofs.Common.{◌≡◌, ◌++◌, drop}
use Rattle.arrayvec.specs.ArrayVec.{array_vec_len}
use Rattle.split.specs.Cut.{ias_of}
use Rattle.split.proofs.written.ias_of.Given as goal

abbrev pub invariant-loop-p : goal.invariant-loop-p
invariant-loop-p l = record {
  all : ias_of l.pieces ≡ l.row.items ++ ias_of (drop l.p-index l.pieces);
  many : array_vec_len l.row ≡ l.p-index;
}
