-- What the loop of `sums_of` keeps: each sum and that of the segments that are left make up the whole, and no sum is larger than so many segments make it.
use Rattle.std.proofs.Common.{◌+◌, ◌≡◌}
use Rattle.areas.proofs.Walking.{Makes, Most}
use Rattle.areas.proofs.sums.sums_of.Given as goal

abbrev pub invariant-loop-next : goal.invariant-loop-next
invariant-loop-next l = record {
  same : l.next-iterator.regions ≡ l.fn.regions;
  makes : Makes l.fn.regions.read.bytes.now l.fn.regions.read.scene l.sums l.next-iterator.merged.i l.next-iterator.merged.j;
  most : Most l.sums (l.next-iterator.merged.i + l.next-iterator.merged.j);
}
