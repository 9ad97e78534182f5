-- What the loop of `next_left` keeps: from `i` on there is no left halfsegment before `k`.
use Rattle.flags_classes.specs.Walked.{NoneLeft}
use Rattle.flags_classes.proofs.merged.next_left.Given as goal

abbrev pub invariant-loop-k : goal.invariant-loop-k
invariant-loop-k l = NoneLeft l.o.bytes.now l.o.layout l.i l.k
