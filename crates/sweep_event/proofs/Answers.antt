-- The answers of an event: one that stops, where the event cannot be taken, and one that goes on, where it is done.
use Rattle.std.proofs.Common.{◌≡◌, ℕ, Some, None, subst}
use Rattle.sweep_notes.specs.declared.Note.{Note}
use Rattle.sweep_notes.specs.Numbers.{note_number}
use Rattle.sweep_event.specs.Steps.{Steps}

module _ {Done : ℕ → Type 0} {Can : Type 0} where
  pub stops : (Can → ⊥) → Steps Done Can None
  stops f = record { done = λ note e. absurd (cc); goes_on = λ can e. f can }

  pub on : {note : Note} → Done (note_number note) → Steps Done Can (Some note)
  on {note} d = record { done = λ other e. let q : note ≡ other = cc in subst (λ (n : Note). Done (note_number n)) q d; goes_on = λ can e. absurd (cc) }
