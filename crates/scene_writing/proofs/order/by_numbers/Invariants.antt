use Rattle.std.proofs.Common.{◌≡◌, length}
use Rattle.scene_writing.specs.Named.{AreHalves, AreRising}
use Rattle.scene_writing.proofs.order.by_numbers.Given as goal

abbrev pub invariant-loop-k : goal.invariant-loop-k
invariant-loop-k l = record {
  halves : AreHalves l.row.ends.now l.order.items;
  rising : AreRising l.row.ends.now l.order.items;
  many : length l.order.items ≡ l.k;
}
