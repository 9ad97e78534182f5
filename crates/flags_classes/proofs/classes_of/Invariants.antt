-- What the loop of `classes_of` keeps: the marks so far and those of the elements that are left are all, and what is passed of either object comes before
-- what is left of the other.
use Rattle.std.proofs.Common.{◌≡◌}
use Rattle.flags_classes.proofs.Walking.{Walking}
use Rattle.flags_classes.proofs.classes_of.Given as goal

abbrev pub invariant-loop-step : goal.invariant-loop-step
invariant-loop-step l = record {
  same : (l.step-iterator.pair.bytes.now ≡ l.taken.bytes.now) × (l.step-iterator.pair.own ≡ l.taken.scene.f) × (l.step-iterator.pair.other ≡ l.taken.scene.g);
  walking : Walking l.taken.bytes.now l.taken.scene.f l.taken.scene.g l.notes l.of_f.0 l.of_g.0 l.step-iterator.i l.step-iterator.j;
}
