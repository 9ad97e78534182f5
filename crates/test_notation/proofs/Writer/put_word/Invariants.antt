-- The loop of `put_word` keeps the room.
use Rattle.std.proofs.Common.{◌≡◌, length}
use Rattle.test_notation.proofs.Writer.put_word.Given as goal

abbrev pub invariant-loop-b : goal.invariant-loop-b
invariant-loop-b l = length l.self.out.now ≡ length l.initial.self.out.now
