use Rattle.std.proofs.Common.{◌≡◌, ◌*◌, [], T, length}
use Rattle.scene_writing.specs.Settled.{settle}
use Rattle.scene_writing.specs.Named.{earlier_in, AreHalves, AreRising, names_of}
use Rattle.scene_writing.proofs.order.one_by_one.Given as goal

abbrev pub invariant-loop-index : goal.invariant-loop-index
invariant-loop-index l = record {
  so_far : l.order.items ≡ settle (earlier_in l.row.ends.now) [] (names_of l.index);
  halves : AreHalves l.row.ends.now l.order.items;
  rising : T l.rises → AreRising l.row.ends.now l.order.items;
  many : length l.order.items ≡ 2 * l.index;
}
