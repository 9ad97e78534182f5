-- The second loop begins where the first one ends, and at its end all the notes are read.
use Rattle.std.proofs.Common.{◌≡◌, ◌∙◌, ◌+◌, sym, subst, List, ℕ, take, arith}
use Rattle.std.specs.Prelude.{map}
use Rattle.std.proofs.lemmas.List.{take_all}
use Rattle.sweep_laws.specs.Noted.{Noted}
use Rattle.sweep_notes.specs.Numbers.{as_read}
use Rattle.sweep_notes.proofs.Kept.{kept_read}
use Rattle.sweep_notes.proofs.Notes.of_bytes.Goals as goal

-- as far as another number
read_to : (notes bytes : List ℕ) (k i : ℕ) → k ≡ i → take k notes ≡ map as_read (take k bytes) → take i notes ≡ map as_read (take i bytes)
read_to notes bytes k i e same = subst (λ (n : ℕ). take n notes ≡ map as_read (take n bytes)) e same

pub loop-j-init : goal.loop-j-init
loop-j-init c =
    let h = c.loop-k in
    record {
      room = h.invariant.room;
      read = read_to h.notes c.args.bytes.now h.k 1024 (omega arith) h.invariant.read;
    }

pub returns : goal.returns
returns c =
    let h = c.loop-j in
    let bytes = c.args.bytes.now in
    let is = sym (take_all 2048 h.notes (omega (arith, h.invariant.room))) ∙ read_to h.notes bytes (1024 + h.j) 2048 (omega arith) h.invariant.read in
    record {
      is = is;
      noted = λ s scene few noted. subst (Noted s scene) (sym is) (kept_read s scene few bytes noted);
    }
