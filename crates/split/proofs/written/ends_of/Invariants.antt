-- The row has the ends of the pieces so far.
use Rattle.std.proofs.Common.{◌≡◌, ◌++◌, map, drop}
use Rattle.arrayvec.specs.ArrayVec.{array_vec_len}
use Rattle.scene_keys.specs.Keyed.{ends_of}
use Rattle.split_cuts.specs.Listed.{segments_of}
use Rattle.split.proofs.written.ends_of.Given as goal

abbrev pub invariant-loop-p : goal.invariant-loop-p
invariant-loop-p l = record {
  all : map ends_of (segments_of l.pieces) ≡ l.row.items ++ map ends_of (segments_of (drop l.p-index l.pieces));
  many : array_vec_len l.row ≡ l.p-index;
}
