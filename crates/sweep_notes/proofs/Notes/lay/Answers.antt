-- One byte after the other is the note there; at the end all the notes are laid.
use Rattle.std.proofs.Common.{ℕ, ◌+◌, ◌-◌, ◌<◌, ◌≤◌, ◌≡◌, ◌∙◌, sym, ap, ap₂, subst, List, ◌++◌, length, get_or, set, drop, length-append, arith, rules}
use Rattle.std.specs.Prelude.{map}
use lib.Seq.{paste}
use Rattle.std.proofs.lemmas.List.{get_or_append_left, get_or-append_right, length-map}
use Rattle.std.proofs.lemmas.List.Edits.{paste_none, paste_more, paste_all}
use Rattle.std.proofs.Math.ListN.{get_or-map}
use Rattle.sweep_laws.specs.Noted.{Noted}
use Rattle.sweep_notes.specs.declared.Note.{Note}
use Rattle.sweep_notes.specs.declared.Note.TheVariants.{Even}
use Rattle.sweep_notes.specs.Numbers.{note_number}
use Rattle.sweep_notes.proofs.Kept.{kept_before}
use Rattle.sweep_notes.proofs.Notes.lay.Goals as goal

-- ---- the notes of F, and of G after them

abbrev numbers : (f g : List Note) → List ℕ
numbers f g = map note_number f ++ map note_number g

module _ (f g : List Note) (f_room : length f ≡ 1024) where
  mapped : length (map note_number f) ≡ 1024
  mapped = length-map f note_number ∙ f_room

  of_f_at : (k : ℕ) → k < 1024 → note_number (get_or f k Even) ≡ get_or (numbers f g) k 0
  of_f_at k h = sym (get_or_append_left (map note_number f) (map note_number g) 0 k (omega (arith, mapped)) ∙ get_or-map note_number f k Even)

  of_g_at : (j : ℕ) → note_number (get_or g j Even) ≡ get_or (numbers f g) (1024 + j) 0
  of_g_at j = sym (get_or-append_right (map note_number f) (map note_number g) 1024 (1024 + j) 0 mapped (omega arith) ∙ ap (λ n. get_or (map note_number g) n 0) here ∙ get_or-map note_number g j Even)
    where
      here : 1024 + j - 1024 ≡ j
      here = omega arith

  both : length g ≡ 1024 → length (numbers f g) ≡ 2048
  both g_room = length-append (map note_number f) (map note_number g) ∙ ap₂ ◌+◌ mapped (length-map g note_number ∙ g_room)

-- ---- the bytes

-- one note more
laid_next : (bytes notes sofar : List ℕ) (k n : ℕ) → 2048 ≤ length bytes → length notes ≡ 2048 → k < 2048 → sofar ≡ paste bytes 0 notes k → n ≡ get_or notes k 0
    → set sofar k n ≡ paste bytes 0 notes (k + 1)
laid_next bytes notes sofar k n room all h e is =
    ap₂ (λ l n. set l k n) e is
    ∙ ap (λ i. set (paste bytes 0 notes k) i (get_or notes k 0)) first
    ∙ paste_more bytes 0 notes k 0 (omega arith) (omega arith)
  where
    first : k ≡ 0 + k
    first = omega arith

-- as far as another number
laid_to : (bytes notes sofar : List ℕ) (k i : ℕ) → k ≡ i → sofar ≡ paste bytes 0 notes k → sofar ≡ paste bytes 0 notes i
laid_to bytes notes sofar k i e same = subst (λ (n : ℕ). sofar ≡ paste bytes 0 notes n) e same

pub loop-k-init : goal.loop-k-init
loop-k-init c = record {
  room = λ h. absurd (omega arith);
  laid = paste_none c.args.bytes.now 0 c.args.self.now;
}

pub loop-k-preserved : goal.loop-k-preserved
loop-k-preserved c =
    let i = c.self.inside in
    let h = c.loop-k in
    let f_room : length i.of_f ≡ 1024 = search rules in
    let g_room : length i.of_g ≡ 1024 = search rules in
    let here = rw c.self.view_is at (of_f_at i.of_f i.of_g f_room h.k c.loop-k-test.true) in
    let all = rw c.self.view_is at (both i.of_f i.of_g f_room g_room) in
    record {
      room = λ _. all;
      laid = laid_next c.args.bytes.now c.args.self.now h.bytes h.k c.from.result c.requires all (omega arith) h.invariant.laid (c.from.ensures ∙ here);
    }

pub loop-j-init : goal.loop-j-init
loop-j-init c =
    let h = c.loop-k in
    record {
      room = h.invariant.room (omega arith);
      laid = laid_to c.args.bytes.now c.args.self.now h.bytes h.k 1024 (omega arith) h.invariant.laid;
    }

pub loop-j-preserved : goal.loop-j-preserved
loop-j-preserved c =
    let i = c.self.inside in
    let h = c.loop-j in
    let f_room : length i.of_f ≡ 1024 = search rules in
    let here = rw c.self.view_is at (of_g_at i.of_f i.of_g f_room h.j) in
    let next = laid_next c.args.bytes.now c.args.self.now h.bytes (1024 + h.j) c.from-in-loop-j.result c.requires h.invariant.room (omega arith) h.invariant.laid (c.from-in-loop-j.ensures ∙ here) in
    record {
      room = h.invariant.room;
      laid = laid_to c.args.bytes.now c.args.self.now _ (1024 + h.j + 1) (1024 + (h.j + 1)) (omega arith) next;
    }

pub returns : goal.returns
returns c =
    let h = c.loop-j in
    let notes = c.args.self.now in
    let bytes = c.args.bytes.now in
    let is = laid_to bytes notes h.bytes (1024 + h.j) 2048 (omega arith) h.invariant.laid ∙ paste_all bytes 0 notes 2048 (sym h.invariant.room) in
    record {
      is = record { all = h.invariant.room; is = is };
      room = h.auto.bytes ∙ c.loop-k.auto.bytes;
      noted = λ s scene few noted. subst (Noted s scene) (sym is) (kept_before s scene few notes (drop 2048 bytes) h.invariant.room noted);
    }
