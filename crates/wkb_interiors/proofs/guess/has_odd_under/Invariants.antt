-- Those that stay are no more than those that were looked at.
use Rattle.std.proofs.Common.{◌≡◌, ◌≤◌}
use Rattle.arrayvec.specs.ArrayVec.{array_vec_len}
use Rattle.wkb_interiors.proofs.guess.has_odd_under.Given as goal

abbrev pub invariant-loop-k : goal.invariant-loop-k
invariant-loop-k l = record {
  few : l.kept ≤ l.k;
  same : array_vec_len l.active ≡ array_vec_len l.initial.active;
}
