-- Where elements are in order, the left halfsegments after one that begins right of t's end begin there too: none of them touches t, and none counts for
-- its ia. So the searches that stop there find what is defined over all segments.
use Rattle.std.specs.Prelude.{None}
use Prim.Native.Nat.{ℕ, ◌-◌, ◌<◌, ◌≤◌}
use native.Mathlib.Nat.{eq-or-lt_of_le}
use native.Mathlib.Omega.{arith}
use mathlib.Core.Path.{◌≡◌, sym, ap, subst, subst₂, ◌∙◌}
use mathlib.Core.Logic.{⊎_elim}
use mathlib.Core.Bool.{Bool, true, false, ◌&&◌, cond}
use mathlib.Core.List.{List, [], ◌∷◌}
use lib.Dec.{T, T_not}
use lib.IntN.{ℤ, pos, ◌+ℤ◌, ◌-ℤ◌, ◌*ℤ◌, +ℤ_invr}
use lib.Signed.{lt_z, le_z}
use Rattle.whole.specs.Count.{some, count}
use Rattle.whole.proofs.Solver.{var, con, opp, ◌:+◌, ◌:-◌, ◌:*◌, solve}
use Rattle.whole.proofs.Sign.{Pos, NonNeg, Neg, pos_nonneg, zero_nonneg, pos_neg, nonneg_clash, pos_add, pos_add_nonneg, lt_z_pos, pos_lt_z, le_z_nonneg}
use Rattle.whole.proofs.Logic.{and_left, and_right, and_never, or_cases, is_false, true_is, refute}
use Rattle.plane.specs.declared.Point.{Point}
use Rattle.plane.specs.declared.Segment.{Segment}
use Rattle.plane.specs.declared.Halfsegment.{Halfsegment}
use Rattle.plane.specs.Plane.{before, is_same_point, ordered, dominating, comes_before, midpoint, side_at, counts_below, counts_below_left, touch}
use Rattle.plane.proofs.Equal.{same_point_read}
use Rattle.plane.proofs.OnSegment.{ordered_read, width}
use Rattle.scene.specs.declared.Layout.{Layout}
use Rattle.scene.specs.Read.{IsObject}
use Rattle.scene.specs.Conditions.{has_segments, half, left_test, segments, out_of_order}
use Rattle.scene_segments.specs.Walked.{beyond, vertical, is_below, is_beyond, touches_from, count_below}
use Rattle.scene_segments.proofs.Elements.{half_good}
use Rattle.scene_segments.proofs.Indices.{halves_rise}
use Rattle.scene_segments.proofs.Parted.{parted_across}
use Rattle.scene_segments.proofs.Until.{all_some, all_counted}
use Rattle.scene_segments.proofs.Walk.{between, all_between, left_passes, count_segments}

-- ---- two segments

-- a segment that begins right of t's midpoint, or ends left of it, is not counted for t's ia
module _ (t u : Segment) where
  abbrev from : ℤ
  from = u.left.x *ℤ pos 2

  abbrev to : ℤ
  to = u.right.x *ℤ pos 2

  abbrev middle : ℤ
  middle = t.left.x +ℤ t.right.x

  by_both : (T (counts_below_left (midpoint t) u) → ⊥) → (T (counts_below (midpoint t) u) → ⊥) → is_below t u ≡ false
  by_both upright slanting = go (vertical t)
    where
      go : (v : Bool) → cond v (counts_below_left (midpoint t) u) (counts_below (midpoint t) u) ≡ false
      go true = refute (counts_below_left (midpoint t) u) upright
      go false = refute (counts_below (midpoint t) u) slanting

  pub begins_after : Neg (middle -ℤ from) → is_below t u ≡ false
  unfolding counts_below counts_below_left
  begins_after n =
      by_both
      (λ h. nonneg_clash (pos_nonneg (lt_z_pos from middle (and_left (lt_z from middle) (le_z middle to) (and_left (lt_z from middle && le_z middle to) (lt_z (pos 0) (side_at u (midpoint t))) h)))) n)
      (λ h. nonneg_clash (le_z_nonneg from middle (and_left (le_z from middle) (lt_z middle to) (and_left (le_z from middle && lt_z middle to) (lt_z (pos 0) (side_at u (midpoint t))) h))) n)

  pub ends_before : Neg (to -ℤ middle) → is_below t u ≡ false
  unfolding counts_below counts_below_left
  ends_before n =
      by_both
      (λ h. nonneg_clash (le_z_nonneg middle to (and_right (lt_z from middle) (le_z middle to) (and_left (lt_z from middle && le_z middle to) (lt_z (pos 0) (side_at u (midpoint t))) h))) n)
      (λ h. nonneg_clash (pos_nonneg (lt_z_pos middle to (and_right (le_z from middle) (lt_z middle to) (and_left (le_z from middle && lt_z middle to) (lt_z (pos 0) (side_at u (midpoint t))) h)))) n)

-- so one that begins right of t's end is not
not_below : (t u : Segment) → T (ordered t) → T (beyond t u) → is_below t u ≡ false
not_below t u o b =
    begins_after t u
    (subst Neg
    (solve (t.left.x ∷ t.right.x ∷ u.left.x ∷ []) (opp (var 2 :- var 1 :+ (var 2 :- var 1) :+ (var 1 :- var 0))) (var 0 :+ var 1 :- var 2 :* con (pos 2)) tt)
    (pos_neg (pos_add_nonneg (pos_add gap gap) (width (ordered_read t o)))))
  where
    gap : Pos (u.left.x -ℤ t.right.x)
    gap = lt_z_pos t.right.x u.left.x b

-- ---- elements in order

-- an element that comes before another is not right of it
comes_x : (h k : Halfsegment) → T (comes_before h k) → NonNeg ((dominating k).x -ℤ (dominating h).x)
unfolding comes_before ordered
comes_x h k t =
    ⊎_elim (λ b. width (ordered_read (record { left = dominating h; right = dominating k }) b))
    (λ u. zero_nonneg (ap (λ (p : Point). (dominating k).x -ℤ p.x) (same_point_read (dominating h) (dominating k) (and_left (is_same_point (dominating h) (dominating k)) _ u)) ∙ +ℤ_invr (dominating k).x))
    (or_cases (before (dominating h) (dominating k)) _ t)

module _ (s : List ℕ) (l : Layout) (is : IsObject s l) (order : out_of_order s l ≡ None) (t : Segment) (o : T (ordered t)) where
  left_half : (i : ℕ) → T (left_test s l i) → (has_segments l.shape ≡ true) × ((half s l i).is_left ≡ true)
  left_half i h = (true_is _ (and_left (has_segments l.shape) (half s l i).is_left h), true_is _ (and_right (has_segments l.shape) (half s l i).is_left h))

  begins_at : (i : ℕ) → (half s l i).is_left ≡ true → dominating (half s l i) ≡ (half s l i).segment.left
  unfolding dominating
  begins_at i e = rw e

  -- those after it are beyond t too
  still_beyond : (j k : ℕ) → j ≤ k → k < l.count → T (is_beyond s l t j) → T (left_test s l k) → T (beyond t (half s l k).segment)
  still_beyond j k h m b c = ⊎_elim (λ e. subst (λ i. T (beyond t (half s l i).segment)) e here) later (eq-or-lt_of_le h)
    where
      here : T (beyond t (half s l j).segment)
      here = and_right (left_test s l j) (beyond t (half s l j).segment) b

      left_j : (has_segments l.shape ≡ true) × ((half s l j).is_left ≡ true)
      left_j = left_half j (and_left (left_test s l j) (beyond t (half s l j).segment) b)

      later : j < k → T (beyond t (half s l k).segment)
      later g =
          pos_lt_z t.right.x (half s l k).segment.left.x
          (subst Pos (solve ((half s l j).segment.left.x ∷ (half s l k).segment.left.x ∷ t.right.x ∷ []) (var 0 :- var 2 :+ (var 1 :- var 0)) (var 1 :- var 2) tt)
          (pos_add_nonneg (lt_z_pos t.right.x (half s l j).segment.left.x here)
          (subst₂ (λ (p q : Point). NonNeg (q.x -ℤ p.x)) (begins_at j left_j.1) (begins_at k (left_half k c).1) (comes_x (half s l j) (half s l k) (halves_rise s l is order left_j.0 j k g m)))))

  none_passes : (f : Segment → Bool) → ((u : Segment) → T (ordered u) → T (beyond t u) → f u ≡ false)
      → (j k : ℕ) → j ≤ k → k < l.count → T (is_beyond s l t j) → left_passes s l f k ≡ false
  none_passes f never j k h m b = and_never (left_test s l k) (f (half s l k).segment) clash
    where
      clash : T (left_test s l k) → T (f (half s l k).segment) → ⊥
      clash c p =
          T_not (f (half s l k).segment)
          (is_false (f (half s l k).segment) (never (half s l k).segment (half_good s l is k m (left_half k c).0).in_order (still_beyond j k h m b c))) p

  pub touches_some : (k : ℕ) → k ≤ l.count → touches_from s l t k ≡ some (left_passes s l (touch t)) (between k l.count)
  unfolding touches_from
  touches_some k h =
      all_some (is_beyond s l t) (left_passes s l (touch t)) (l.count - k) k
      (λ i j _ g m. none_passes (touch t) (λ u p b. (parted_across t u o p (lt_z_pos t.right.x u.left.x b)).0) i j g (omega arith))

  pub counts_below_lem : count_below s l t ≡ count (is_below t) (segments s l)
  unfolding count_below
  counts_below_lem =
      all_counted (is_beyond s l t) (left_passes s l (is_below t)) l.count 0
      (λ i j _ g m. none_passes (is_below t) (λ u p b. not_below t u o b) i j g (omega arith))
      ∙ ap (count (left_passes s l (is_below t))) (all_between l.count) ∙ sym (count_segments s l (is_below t))
