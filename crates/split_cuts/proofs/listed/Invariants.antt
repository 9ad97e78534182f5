-- The list so far and that of the rest are the whole list.
use Rattle.std.proofs.Common.{◌≡◌, ◌++◌, ◌≤◌}
use Rattle.arrayvec.specs.ArrayVec.{array_vec_len}
use Rattle.scene_segments.proofs.Walk.{between}
use Rattle.split_cuts.specs.Listed.{listed}
use Rattle.split_cuts.proofs.Listing.{listed_from}
use Rattle.split_cuts.proofs.listed.Given as goal

abbrev pub invariant-loop-i : goal.invariant-loop-i
invariant-loop-i l = record {
  all : listed l.o.bytes.now l.o.layout ≡ l.list.items ++ listed_from l.o.bytes.now l.o.layout (between l.i l.o.layout.count);
  room : array_vec_len l.list ≤ l.i;
}
