-- The pieces of the segments so far and those of the rest are all of them.
use Rattle.std.proofs.Common.{◌≡◌, ◌++◌, drop}
use Rattle.split_cuts.specs.Listed.{segments_of}
use Rattle.split_cuts.specs.Split.{split_pieces}
use Rattle.split_cuts.proofs.Segments.split.Given as goal

abbrev pub invariant-loop-whole : goal.invariant-loop-whole
invariant-loop-whole l =
    split_pieces (segments_of l.other.list.now) l.self.list.now ≡ l.row.items ++ split_pieces (segments_of l.other.list.now) (drop l.whole-index l.self.list.now)
