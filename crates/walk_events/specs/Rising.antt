-- "in the merged order": each event strictly after all before it. proofs/Ordering.antt says that the events of a sound scene are in this order.
use Rattle.std.specs.Prelude.{ℕ, List, T}
use Rattle.whole.proofs.Logic.{Sorted}
use Rattle.scene.specs.declared.Scene.{Scene}
use Rattle.walk_events.specs.Events.{Taken, event_before, as_event}

module _ (s : List ℕ) (sc : Scene) where
  abbrev pub Rises : List Taken → Type 0
  Rises = Sorted (λ x y. T (event_before (as_event s sc x) (as_event s sc y)))
