-- `flags_meetings::meeting` meets its contract: each way through the tests gives the marks of the run. Where no element has the point, there are none; where
-- the notes do not matter, the elements are alike.
use Rattle.std.proofs.Common.{arith, ℕ, ◌-◌, ◌≤◌, ◌≡◌, Bool, true, false, not, ◌&&◌, List, [], ◌∷◌, get_or, bit_or, sym, ap, ap₂, ◌∙◌}
use mathlib.Core.Bool.{and-false}
use lib.Bits.{or_zero_r}
use lib.Dec.{eqb, ltb}
use borrow.Author.Tests.{ne_eqb, lt-ltb}
use Rattle.plane.specs.Plane.{is_boundary}
use Rattle.scene_segments.proofs.Walk.{between}
use Rattle.flags.specs.Flags.{pack}
use Rattle.flags.proofs.Boundary.{boundary_none}
use Rattle.flags.proofs.Marks.{gather}
use Rattle.flags_meetings.specs.Keyed.{marks_of_f, marks_of_g, marks, mark_of_note, marks_of_notes}
use Rattle.flags_meetings.proofs.Runs.{gather_same, gather_run}
use Rattle.flags_meetings.proofs.meeting.Goals as goal

there : (n : ℕ) → (n ≡ 0 → ⊥) → (eqb n 0 ≡ false) × (ltb 0 n ≡ true)
there n h = (ne_eqb n 0 h, lt-ltb 0 n (omega (arith, h)))

-- a run of F
module _ (notes : List ℕ) (i j b : ℕ) (on : i ≤ j) (some : j - i ≡ 0 → ⊥) where
  of_f_alone : marks_of_g (j - i) b ≡ 0
  of_f_alone = rw (there (j - i) some).0

  alike : (x : ℕ) → ((n : ℕ) → marks_of_f (j - i) b n ≡ x) → x ≡ marks notes i j b
  alike x each =
      sym
      (ap₂ bit_or (gather_run (λ m. marks_of_f (j - i) b (get_or notes m 0)) x i j on (λ e. absurd (some (omega arith))) (λ m h k. each (get_or notes m 0))) of_f_alone
      ∙ or_zero_r x)

  by_notes : ((n : ℕ) → mark_of_note n ≡ marks_of_f (j - i) b n) → marks_of_notes notes i j ≡ marks notes i j b
  by_notes each =
      gather_same (λ m. mark_of_note (get_or notes m 0)) (λ m. marks_of_f (j - i) b (get_or notes m 0)) i j (λ m h k. each (get_or notes m 0))
      ∙ sym (ap (bit_or (gather (λ m. marks_of_f (j - i) b (get_or notes m 0)) (between i j))) of_f_alone ∙ or_zero_r (gather (λ m. marks_of_f (j - i) b (get_or notes m 0)) (between i j)))

  -- a point of both, by its kind in F and in G
  of_both : (x y : Bool) → (b ≡ 0 → ⊥) → x ≡ is_boundary (j - i) → y ≡ is_boundary b
      → pack (false ∷ false ∷ false ∷ (x && y) ∷ (x && not y) ∷ (not x && y) ∷ (not x && not y) ∷ []) ≡ marks notes i j b
  of_both x y h e q =
      let f = there (j - i) some in
      let g = there b h in
      alike (pack (false ∷ false ∷ false ∷ (x && y) ∷ (x && not y) ∷ (not x && y) ∷ (not x && not y) ∷ [])) (λ n. simp (f.1, g.0, g.1, sym e, sym q, and-false))

pub returns-then-is_bound-2 : goal.returns-then-is_bound-2
returns-then-is_bound-2 c =
    let z = c.args in
    let bound = sym c.is_bound-then-b-eq0.ensures ∙ c.if-is_bound-2.true in
    c.marks_of_notes.ensures
    ∙ by_notes z.notes.now z.i z.j z.b c.requires.0 c.if-a-eq0.false (λ n. simp ((there (z.j - z.i) c.if-a-eq0.false).1, c.if-b-eq0.true, boundary_none, bound))

pub returns-else-is_bound-2 : goal.returns-else-is_bound-2
returns-else-is_bound-2 c =
    let z = c.args in
    let bound = sym c.is_bound-then-b-eq0.ensures ∙ c.if-is_bound-2.false in
    alike z.notes.now z.i z.j z.b c.requires.0 c.if-a-eq0.false 0 (λ n. simp ((there (z.j - z.i) c.if-a-eq0.false).1, c.if-b-eq0.true, boundary_none, bound))

pub returns-in-true-true : goal.returns-in-true-true
returns-in-true-true c = let z = c.args in of_both z.notes.now z.i z.j z.b c.requires.0 c.if-a-eq0.false true true c.if-b-eq0.false c.in-true-true.ensures c.in-true-true.ensures'

pub returns-in-true-false : goal.returns-in-true-false
returns-in-true-false c = let z = c.args in of_both z.notes.now z.i z.j z.b c.requires.0 c.if-a-eq0.false true false c.if-b-eq0.false c.in-true-false.ensures c.in-true-false.ensures'

pub returns-in-false-true : goal.returns-in-false-true
returns-in-false-true c = let z = c.args in of_both z.notes.now z.i z.j z.b c.requires.0 c.if-a-eq0.false false true c.if-b-eq0.false c.in-false-true.ensures c.in-false-true.ensures'

pub returns-in-false-false : goal.returns-in-false-false
returns-in-false-false c = let z = c.args in of_both z.notes.now z.i z.j z.b c.requires.0 c.if-a-eq0.false false false c.if-b-eq0.false c.in-false-false.ensures c.in-false-false.ensures'
