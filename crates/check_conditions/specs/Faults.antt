-- The conditions 10 to 15 as tests of one element: what the functions of this crate promise. Each test rests on the conditions
-- before it and looks at fewer elements than its definition in scene's Conditions.antt; where they hold, the earliest record at fault is the same
-- (proofs/Earliest.antt).
use Rattle.scene.specs.Read.{Fault}
use Rattle.std.specs.Prelude.{ℕ, ◌+◌, Bool, not, ◌&&◌, cond, List, eqb}
use Rattle.scene.specs.declared.Layout.{Layout}
use Rattle.scene.specs.declared.Flaw.{Flaw}
use Rattle.scene.specs.declared.Flaw.TheVariants.{Misplaced, Unpaired, Touching, OddEnd, WrongIa, TouchingAcross}
use Rattle.scene.specs.Conditions.{elements, has_segments, half, left_test, earliest, is_misplaced}
use Rattle.scene_segments.specs.Walked.{touches_from}
use Rattle.check_conditions.specs.Partners.{has_partner}
use Rattle.check_conditions.specs.Odd.{begins_oddly, is_mismarked}

module _ (s : List ℕ) (l : Layout) where
  -- 12 and 15: by the left halfsegments of other from the element k on
  abbrev pub touches_any : Layout → ℕ → ℕ → Bool
  touches_any other k i = left_test s l i && touches_from s other (half s l i).segment k

-- has the element i of l a flaw? For 15, other is the scene's other object
module _ (s : List ℕ) (l other : Layout) where
  abbrev pub is_at_fault : Flaw → ℕ → Bool
  is_at_fault Misplaced i = is_misplaced s l i
  is_at_fault Unpaired i = has_segments l.shape && not (has_partner s l i)
  is_at_fault Touching i = touches_any s l l (i + 1) i
  is_at_fault OddEnd i = begins_oddly s l i
  is_at_fault WrongIa i = is_mismarked s l i
  is_at_fault TouchingAcross i = touches_any s l other 0 i

  abbrev pub fault_under : Flaw → Fault
  fault_under f = earliest l (is_at_fault f) (elements l)

  -- the same by the number of the condition: what is none of 10 to 14 is 15
  abbrev pub is_at_fault_by : ℕ → ℕ → Bool
  is_at_fault_by n i =
      cond (eqb n 10) (is_misplaced s l i)
      (cond (eqb n 11) (has_segments l.shape && not (has_partner s l i))
      (cond (eqb n 12) (touches_any s l l (i + 1) i)
      (cond (eqb n 13) (begins_oddly s l i)
      (cond (eqb n 14) (is_mismarked s l i) (touches_any s l other 0 i)))))

  abbrev pub fault_by : ℕ → Fault
  fault_by n = earliest l (is_at_fault_by n) (elements l)
