-- What the searches over the elements of an object ask of one record, and what those that stop early find.
use Rattle.std.specs.Prelude.{ℕ, ◌+◌, ◌-◌, ◌≤◌, ◌≡◌, Bool, false, not, ◌&&◌, ◌||◌, cond, List, [], ◌∷◌, length, T}
use Rattle.std.specs.Bool.{beq}
use Rattle.std.specs.Int.Signed.{lt_z}
use Rattle.whole.specs.Count.{eq_z, bit}
use Rattle.plane.specs.declared.Segment.{Segment}
use Rattle.plane.specs.declared.Halfsegment.{Halfsegment}
use Rattle.plane.specs.Plane.{segment_in_range, is_same_segment, midpoint, counts_below, counts_below_left, touch}
use Rattle.scene.specs.declared.Layout.{Layout}
use Rattle.scene.specs.Read.{segment_at}
use Rattle.scene.specs.Conditions.{indices, half, left_test}

-- the record of a halfsegment whose ends are in range
abbrev pub Readable : List ℕ → ℕ → Type 0
Readable s at = (at + 18 ≤ length s) × T (segment_in_range (segment_at s at))

-- it is a left one, and its segment passes a test
abbrev pub left_with : (Segment → Bool) → Halfsegment → Bool
left_with f h = h.is_left && f h.segment

-- a test may be asked of every segment in range; and what it may answer is what passes
abbrev pub TakesSegments : (Segment → Type 0) → Type 0
TakesSegments Takes = (t : Segment) → T (segment_in_range t) → Takes t

abbrev pub Tests : (Segment → Bool → Type 0) → (Segment → Bool) → Type 0
Tests Answers passes = (t : Segment) (r : Bool) → Answers t r → r ≡ passes t

-- 11: two halfsegments, with their ia, "of opposite d, equal ends and ia"
abbrev pub partners : Halfsegment → Bool → Halfsegment → Bool → Bool
partners h a k b = not (beq h.is_left k.is_left) && is_same_segment h.segment k.segment && beq a b

-- ---- searches that stop early

-- "some" and "how many" of those before the first that stops the search
module _ (stops passes : ℕ → Bool) where
  abbrev pub some_until : List ℕ → Bool
  some_until [] = false
  some_until (i ∷ is) = cond (stops i) false (passes i || some_until is)

  abbrev pub count_until : List ℕ → ℕ
  count_until [] = 0
  count_until (i ∷ is) = cond (stops i) 0 (bit (passes i) + count_until is)

-- u begins right of where t ends: where elements are in order, so do the later ones
abbrev pub beyond : Segment → Segment → Bool
beyond t u = lt_z t.right.x u.left.x

abbrev pub vertical : Segment → Bool
vertical t = eq_z t.left.x t.right.x

-- 14: u is counted for t's ia, which is by those just left of the midpoint where t is vertical
abbrev pub is_below : Segment → Segment → Bool
is_below t u = cond (vertical t) (counts_below_left (midpoint t) u) (counts_below (midpoint t) u)

module _ (s : List ℕ) (l : Layout) (t : Segment) where
  abbrev pub is_beyond : ℕ → Bool
  is_beyond i = left_test s l i && beyond t (half s l i).segment

  -- does t touch a segment of l, by its left halfsegments from the element k on?
  unfoldable pub touches_from : ℕ → Bool
  touches_from k = some_until is_beyond (λ i. left_test s l i && touch t (half s l i).segment) (indices (l.count - k) k)

  unfoldable pub count_below : ℕ
  count_below = count_until is_beyond (λ i. left_test s l i && is_below t (half s l i).segment) (indices l.count 0)
