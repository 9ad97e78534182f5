-- One pass for 10 over an object's records: what it asks of the test of two of them, and what the test is to tell.
use Rattle.std.specs.Prelude.{ℕ, ◌-◌, ◌<◌, ◌≡◌, Bool, List}
use Rattle.scene.specs.declared.Layout.{Layout}
use Rattle.scene.specs.Read.{place}
use Rattle.scene.specs.Conditions.{is_in_order}

module _ (l : Layout) where
  -- it may be asked of the records of an element and of the one before
  abbrev pub AsksNeighbours : (ℕ → ℕ → Type 0) → Type 0
  AsksNeighbours Takes = (i : ℕ) → 0 < i → i < l.count → Takes (place l (i - 1)) (place l i)

  -- and what it may answer is whether they are in order
  abbrev pub TellsOrder : List ℕ → (ℕ → ℕ → Bool → Type 0) → Type 0
  TellsOrder s Answers = (i : ℕ) → 0 < i → i < l.count → (r : Bool) → Answers (place l (i - 1)) (place l i) r → r ≡ is_in_order s l (i - 1) i
