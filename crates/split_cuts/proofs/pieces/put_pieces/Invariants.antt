-- The pieces so far and those from p on are all of them.
use Rattle.std.proofs.Common.{◌≡◌, ◌++◌, ◌-◌, length}
use Rattle.split_pieces.specs.Pieces.{pieces_from}
use Rattle.split_cuts.specs.Split.{with_ia}
use Rattle.split_cuts.proofs.pieces.put_pieces.Given as goal

abbrev pub invariant-loop : goal.invariant-loop
invariant-loop l =
    l.fn.row.items ++ with_ia l.whole.ia (pieces_from (length l.cuts) l.cuts l.whole.segment.left l.whole.segment.right)
    ≡ l.row.items ++ with_ia l.whole.ia (pieces_from (length l.cuts - l.counter) l.cuts l.p l.whole.segment.right)
