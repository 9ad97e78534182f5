-- The sweep over a scene where the conditions 11 to 15 find no fault does not stop: its regions end evenly, at each event the tests hold, there is room
-- for a segment that begins, and each active segment ends later.
use Prim.Native.Nat.{ℕ, ◌<◌, ◌≤◌}
use mathlib.Core.Path.{◌≡◌}
use mathlib.Core.Bool.{Bool, true}
use mathlib.Core.List.{List}
use lib.ListN.{length}
use Rattle.scene.specs.declared.Scene.{Scene}
use Rattle.scene.specs.Read.{IsScene}
use Rattle.sweep_laws.specs.Evenly.{RegionsEndEvenly}
use Rattle.sweep_laws.specs.Swept.{is_beginning, total, InOrder, Passes}
use Rattle.sweep_laws.specs.Event.{Taken, CanTake}
use Rattle.sweep_laws.proofs.Begun.{reached, Next}
use Rattle.sweep_laws.proofs.Ordered.{orderly}
use Rattle.sweep_laws.proofs.Run.{AllEndLater, Run}
use Rattle.sweep_laws.proofs.Chosen.{Chosen}
use Rattle.sweep_laws.proofs.EventOrder.{rises, After, Earliest}
use Rattle.sweep_laws.proofs.Fairness.{fair, sound}
use Rattle.sweep_laws.proofs.Lasting.{lasts, can_take}
use Rattle.sweep_laws.proofs.Room.{room_left}
use Rattle.sweep_laws.proofs.Evenly.{ends_evenly}

module _ (s : List ℕ) (sc : Scene) (is : IsScene s sc) (order : InOrder s sc) (passes : Passes s sc) where
  pub regions_end_evenly : RegionsEndEvenly s sc
  regions_end_evenly first region = ends_evenly (sound s sc is order passes first) region

  module _ {i j : ℕ} {entries : List ℕ} (run : Run s sc i j entries) (later : AllEndLater s sc i j entries) (first : Bool)
      (it : Chosen s sc (orderly s sc is order) i j first) where
    module _ (within : (b : Bool) → reached s sc i j b ≤ total s sc b) where
      pub goes_on : After s sc i j → Earliest s sc i j first → CanTake s sc first (reached s sc i j first) entries
      goes_on after earliest = can_take s sc (orderly s sc is order) (rises s sc is order) (fair s sc is order passes) run later first it.more after within it.least earliest

      pub room : is_beginning s sc first (reached s sc i j first) ≡ true → length entries < 1024
      room begins = room_left s sc (orderly s sc is order) (fair s sc is order passes) run later within first it.more begins

    pub all_later : {i' j' : ℕ} → Next s sc first i j i' j' → {notes new : List ℕ} {note : ℕ} → Taken s sc first (reached s sc i j first) notes entries new note → AllEndLater s sc i' j' new
    all_later next t = lasts s sc (orderly s sc is order) (rises s sc is order) (fair s sc is order passes) run later first it.more next t
