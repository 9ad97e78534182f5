-- `flags_meetings::marks_of_notes` meets its contract, element by element.
use Rattle.std.proofs.Common.{arith, ℕ, ◌+◌, ◌<◌, ◌≡◌, List, get_or, bit_or, sym, ap, ◌∙◌}
use lib.Bits.{or_zero_r}
use Rattle.scene_segments.proofs.Walk.{between_next, between_none}
use Rattle.flags.proofs.Marks.{or_assoc, gather}
use Rattle.flags_meetings.specs.Keyed.{mark_of_note, marks_of_notes}
use Rattle.flags_meetings.proofs.marks_of_notes.Goals as goal

abbrev mark : List ℕ → ℕ → ℕ
mark notes m = mark_of_note (get_or notes m 0)

-- one element more
further : (notes : List ℕ) (sofar m j : ℕ) → m < j → bit_or (bit_or sofar (mark notes m)) (marks_of_notes notes (m + 1) j) ≡ bit_or sofar (marks_of_notes notes m j)
further notes sofar m j h = or_assoc sofar (mark notes m) (marks_of_notes notes (m + 1) j) ∙ ap (bit_or sofar) (sym (ap (gather (mark notes)) (between_next m j h)))

pub loop-m-preserved : goal.loop-m-preserved
loop-m-preserved c =
    let h = c.loop-m in
    let z = c.args in
    ap (λ x. bit_or x (marks_of_notes z.notes.now (h.m + 1) z.j)) (c.with-marks.ensures ∙ ap (bit_or h.marks.0) (c.mark_of_note.ensures ∙ ap mark_of_note c.of.ensures)) ∙ further z.notes.now h.marks.0 h.m z.j c.loop-m-test.true ∙ h.invariant

pub returns : goal.returns
returns c =
    let h = c.loop-m in
    let z = c.args in
    sym (or_zero_r h.marks.0) ∙ ap (λ l. bit_or h.marks.0 (gather (mark z.notes.now) l)) (sym (between_none h.m z.j (omega arith))) ∙ h.invariant
