-- The loop of `write` keeps the room.
use Rattle.std.proofs.Common.{◌≡◌, length}
use Rattle.test_notation.proofs.write.Given as goal

abbrev pub invariant-loop-c : goal.invariant-loop-c
invariant-loop-c l = length l.writer.out.now ≡ length l.initial.writer.out.now
