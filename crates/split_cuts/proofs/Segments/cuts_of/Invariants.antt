-- The cuts by the segments so far are found, three at most by each, and whether one of these crosses off the grid.
use Rattle.std.proofs.Common.{◌≡◌, ◌++◌, ◌*◌, ◌≤◌, ◌||◌, drop}
use Rattle.whole.specs.Count.{some}
use Rattle.arrayvec.specs.ArrayVec.{array_vec_len}
use Rattle.split_crossing.specs.Cuts.{cuts}
use Rattle.split_cuts.specs.Listed.{segments_of}
use Rattle.split_cuts.specs.Split.{crosses_off}
use Rattle.split_cuts.proofs.Segments.cuts_of.Given as goal

abbrev pub invariant-loop-u : goal.invariant-loop-u
invariant-loop-u l = record {
  all : cuts (segments_of l.self.list.now) l.fn.t ≡ l.found.items ++ cuts (segments_of (drop l.u-index l.self.list.now)) l.fn.t;
  off : some (crosses_off l.fn.t) (segments_of l.self.list.now) ≡ (l.is_off || some (crosses_off l.fn.t) (segments_of (drop l.u-index l.self.list.now)));
  room : array_vec_len l.found ≤ 3 * l.u-index;
}
