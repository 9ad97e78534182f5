-- A list of notes that holds the same number for each element of a scene says the same of it: notes with more behind them, and bytes as they are read.
use Rattle.std.proofs.Common.{ℕ, ◌<◌, ◌≤◌, ◌≡◌, ◌∙◌, sym, ap, subst, Bool, true, false, List, ◌++◌, length, get_or, take, drop, arith, length-append, length-drop}
use Rattle.std.specs.Prelude.{map, cond}
use Rattle.std.proofs.lemmas.List.{get_or_append_left}
use Rattle.scene.specs.declared.Scene.{Scene}
use Rattle.scene.specs.Read.{IsScene}
use Rattle.scene.specs.Conditions.{has_segments}
use Rattle.sweep_laws.specs.Swept.{total, slot}
use Rattle.sweep_laws.specs.Noted.{Noted}
use Rattle.sweep_laws.proofs.Objects.{few_elements}
use Rattle.sweep_notes.specs.Numbers.{as_read}
use Rattle.sweep_notes.specs.Lent.{Laid, OnceLaid}
use Rattle.sweep_notes.proofs.AsRead.{note_read, bit_read, on_or_bit_read}

-- where the note of an element stands
slot_within : (first : Bool) (k : ℕ) → k < 1024 → slot first k < 2048
slot_within true k h = omega arith
slot_within false k h = omega arith

-- of an object with segments, or of none
within : (b : Bool) (n k : ℕ) → n ≤ 1024 → k < cond b n 0 → k < 1024
within true n k few h = omega arith
within false n k few h = absurd (omega arith)

module _ (s : List ℕ) (sc : Scene) (few : (sc.f.count ≤ 1024) × (sc.g.count ≤ 1024)) where
  few_of_all : (first : Bool) (k : ℕ) → k < total s sc first → k < 1024
  few_of_all true k h = within (has_segments sc.f.shape) sc.f.count k few.0 h
  few_of_all false k h = within (has_segments sc.g.shape) sc.g.count k few.1 h

  -- what the sweep notes goes over from a to b
  kept : (a b : List ℕ) → ((k n : ℕ) → k < 2048 → as_read n ≡ n → get_or a k 0 ≡ n → get_or b k 0 ≡ n) → Noted s sc a → Noted s sc b
  kept a b over noted = record {
    of_segments = λ first k h none. over (slot first k) _ (slot_within first k (few_of_all first k h)) (bit_read _) (noted.of_segments first k h none);
    of_points = λ points others k h ends. over k _ (omega (arith, few.0, h)) (on_or_bit_read _ _) (noted.of_points points others k h ends);
  }

  pub kept_before : (notes more : List ℕ) → length notes ≡ 2048 → Noted s sc notes → Noted s sc (notes ++ more)
  kept_before notes more all = kept notes (notes ++ more) (λ k n h _ e. get_or_append_left notes more 0 k (omega arith) ∙ e)

  pub kept_read : (bytes : List ℕ) → Noted s sc bytes → Noted s sc (map as_read (take 2048 bytes))
  kept_read bytes = kept bytes (map as_read (take 2048 bytes)) (λ k n h is e. note_read bytes k h ∙ ap as_read e ∙ is)

-- ---- of a scene that was read, in lent bytes into which they are laid

pub laid_length : {notes old new : List ℕ} → 2048 ≤ length old → Laid notes old new → length new ≡ length old
laid_length {notes} {old} h laid =
    ap length laid.is ∙ length-append notes (drop 2048 old) ∙ omega (arith, h, laid.all, length-drop 2048 old)

pub few_in_scene : (s : List ℕ) (sc : Scene) → IsScene s sc → (sc.f.count ≤ 1024) × (sc.g.count ≤ 1024)
few_in_scene s sc is = (few_elements s sc is true, few_elements s sc is false)

module _ {s : List ℕ} {sc : Scene} (is : IsScene s sc) where
  pub laid_noted : {notes old new : List ℕ} → Laid notes old new → Noted s sc notes → Noted s sc new
  laid_noted {notes} {old} laid noted =
      subst (Noted s sc) (sym laid.is) (kept_before s sc (few_in_scene s sc is) notes (drop 2048 old) laid.all noted)

  pub once_laid : {P : Type 0} {notes : List ℕ} → (P → Noted s sc notes) → OnceLaid notes (λ bytes. P → Noted s sc bytes)
  once_laid noted old new h laid = (laid_length h laid, λ p. laid_noted laid (noted p))
