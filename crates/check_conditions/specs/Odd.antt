-- The conditions 13 and 14 as tests of one element. Each rests on the conditions before it and looks at fewer elements than its definition in scene's
-- Conditions.antt; where they hold, the earliest record at fault is the same (proofs/Earliest.antt).
use Rattle.std.specs.Prelude.{ℕ, ◌-◌, Bool, not, ◌&&◌, ◌||◌, List, ltb}
use Rattle.std.specs.Bool.{beq}
use Rattle.whole.specs.Count.{odd}
use Rattle.plane.specs.declared.Point.{Point}
use Rattle.plane.specs.declared.Segment.{Segment}
use Rattle.plane.specs.Plane.{is_same_point, dominating}
use Rattle.scene.specs.declared.Layout.{Layout}
use Rattle.scene.specs.Conditions.{indices, is_region, half, ia}
use Rattle.scene_segments.specs.Walked.{vertical, count_below, count_until}

module _ (s : List ℕ) (l : Layout) where
  -- 13: of those that stand together at one dominating point, by the first
  abbrev pub is_first_at : ℕ → Bool
  is_first_at i = not (ltb 0 i && is_same_point (dominating (half s l (i - 1))) (dominating (half s l i)))

  abbrev pub stands_at : Point → ℕ → Bool
  stands_at p i = is_same_point (dominating (half s l i)) p

  -- as many segments end there as elements stand there, from the element i on: up to the first that stands elsewhere
  unfoldable pub together : ℕ → ℕ
  together i = count_until (λ j. not (stands_at (dominating (half s l i)) j)) (stands_at (dominating (half s l i))) (indices (l.count - i) i)

  abbrev pub begins_oddly : ℕ → Bool
  begins_oddly i = is_region l.shape && (is_first_at i && odd (together i))

  -- 14: of the two halfsegments, which have one ia, by the left one
  abbrev pub interior_by : Segment → Bool
  interior_by t = (vertical t && odd (count_below s l t)) || (not (vertical t) && not (odd (count_below s l t)))

  abbrev pub is_mismarked : ℕ → Bool
  is_mismarked i = is_region l.shape && ((half s l i).is_left && not (beq (ia s l i) (interior_by (half s l i).segment)))
