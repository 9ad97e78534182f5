-- A note as the definitions of the flags read it.
use Rattle.std.specs.Prelude.{ℕ, eqb, cond}
use Rattle.sweep_notes.specs.declared.Note.{Note}
use Rattle.sweep_notes.specs.declared.Note.TheVariants.{Even, Odd, On}

abbrev pub note_number : Note → ℕ
note_number Even = 0
note_number Odd = 1
note_number On = 2

-- A number as the definitions of the flags and of the sides read it: 0 even, 1 odd, any other on.
abbrev pub as_read : ℕ → ℕ
as_read n = cond (eqb n 0) 0 (cond (eqb n 1) 1 2)
