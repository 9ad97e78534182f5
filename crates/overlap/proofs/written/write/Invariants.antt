-- What the loop of `write` keeps: the bytes of the segments that are passed are written, `n` of them, and the buffer is as it was from there on.
use Rattle.std.proofs.Common.{◌≡◌}
use Rattle.overlap.proofs.Listing.{all_bytes, bytes_from}
use Rattle.overlap.proofs.Filled.{Filled}
use Rattle.overlap.proofs.written.write.Given as goal

abbrev pub invariant-loop-next : goal.invariant-loop-next
invariant-loop-next l = record {
  same : l.next-iterator.regions ≡ l.fn.regions;
  filled : Filled (all_bytes l.fn.regions.read.bytes.now l.fn.regions.read.scene.f l.fn.regions.read.scene.g) l.fn.list l.n (bytes_from l.fn.regions.read.bytes.now l.fn.regions.read.scene.f l.fn.regions.read.scene.g l.next-iterator.merged.i l.next-iterator.merged.j) l.list;
}
