-- The loop of `put_points` keeps the room.
use Rattle.std.proofs.Common.{◌≡◌, length}
use Rattle.test_notation.proofs.Writer.put_points.Given as goal

abbrev pub invariant-loop-x : goal.invariant-loop-x
invariant-loop-x l = length l.self.out.now ≡ length l.initial.self.out.now
