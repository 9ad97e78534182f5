-- What the answer of an event says: an event that has been taken is done, and each one that can be taken is.
use Rattle.std.specs.Prelude.{ℕ, ◌≡◌, Option, Some, None}
use Rattle.sweep_notes.specs.declared.Note.{Note}
use Rattle.sweep_notes.specs.Numbers.{note_number}

-- Done: by the number of the note
pub record Steps (Done : ℕ → Type 0) (Can : Type 0) (r : Option Note) : Type 0 where
  pub done : (note : Note) → r ≡ Some note → Done (note_number note)
  pub goes_on : Can → r ≡ None → ⊥
