-- What the conditions of document 01 give, in the form that the plane's lemmas take: segments that share only common ends and occur once each
-- (10, 12), even ends (13), the same across two objects (15); and the rule for ia (14) as one fact for slanting and upright segments.
use mathlib.Core.Path.{◌≡◌, sym, ap, ap₂, ◌∙◌, subst}
use mathlib.Core.Logic.{◌⊎◌, inl, inr, ⊎_elim}
use mathlib.Core.Bool.{Bool, true, false, not, ◌&&◌, ◌||◌, or-false}
use mathlib.Core.List.{List}
use lib.Dec.{T, T_not}
use lib.IntN.{one, *ℤ-one}
use Rattle.whole.specs.Count.{eq_z, odd, some, count, ◌∈◌}
use Rattle.whole.proofs.Sign.{one_pos, eq_z_zero, zero_eq_z, zero_pos}
use Rattle.whole.proofs.Logic.{and_left, and_right, decide, true_is, refute, is_false, some_find, some_make, Sorted}
use Rattle.whole.proofs.Parity.{◌⊻◌, xor_comm, or_xor, parity, parity_same, parity_none, odd_count}
use Rattle.plane.specs.declared.Point.{Point}
use Rattle.plane.specs.declared.Segment.{Segment}
use Rattle.plane.specs.Plane.{grid, midpoint, is_same_point, is_same_segment, ordered, is_at, is_end, ends_at, counts_below, counts_below_left, interior_above, touch}
use Rattle.plane.proofs.OnSegment.{Ordered, slanting, upright, Away, ordered_read, on_or_away}
use Rattle.plane.proofs.Equal.{same_point_read, same_segment_read, same_segment_refl}
use Rattle.plane.proofs.Means.{end_read, middle, middle_inner}
use Rattle.plane.proofs.Touch.{is_end_read, touch_free}
use Rattle.plane.proofs.Path.{Even}
use Rattle.plane.proofs.AlongSegment.{Apart}
use Rattle.plane.proofs.Flip.{left_parity}
use Rattle.plane.proofs.Order.{ends_differ, LeftBefore, segments_once}

-- the segments of two lists are equal or share only common ends
abbrev pub Across : List Segment → List Segment → Type 0
Across l m = (s t : Segment) → s ∈ l → t ∈ m → (s ≡ t) ⊎ Apart s t

-- the segments of a line, and of a region
pub record Split (l : List Segment) : Type 0 where
  pub ordered : (t : Segment) → t ∈ l → Ordered t
  pub apart : Across l l
  pub once : (s : Segment) → s ∈ l → parity (is_same_segment s) l ≡ true

pub record Regular (l : List Segment) : Type 0 where
  pub split : Split l
  pub even : Even l

-- ---- 10, 12 and 15

pub apart_from_touch : (s t : Segment) → T (ordered s) → T (ordered t) → touch s t ≡ false → (s ≡ t) ⊎ Apart s t
apart_from_touch s t o u f = ⊎_elim (λ h. inl (same_segment_read s t h)) (λ n. inr (apart n)) (decide (is_same_segment s t))
  where
    apart : T (not (is_same_segment s t)) → Apart s t
    apart n p w h k = (end_read s p (and_left (is_end s p) (is_end t p) both), end_read t p (and_right (is_end s p) (is_end t p) both))
      where
        unequal : s ≡ t → ⊥
        unequal e = T_not (is_same_segment s t) n (subst (λ r. T (is_same_segment s r)) e (same_segment_refl s))

        both : T (is_end s p && is_end t p)
        both = touch_free (ordered_read s o) (ordered_read t u) unequal (is_false (touch s t) f) p w h k

abbrev pub AllOrdered : List Segment → Type 0
AllOrdered l = (t : Segment) → t ∈ l → T (ordered t)

pub across_from_touch : (l m : List Segment) → AllOrdered l → AllOrdered m → ((s t : Segment) → s ∈ l → t ∈ m → touch s t ≡ false) → Across l m
across_from_touch l m o u f s t h k = apart_from_touch s t (o s h) (u t k) (f s t h k)

pub split_from_order : (l : List Segment) → AllOrdered l → ((s t : Segment) → s ∈ l → t ∈ l → touch s t ≡ false) → Sorted LeftBefore l → Split l
split_from_order l o f h =
    record { ordered = λ t m. ordered_read t (o t m); apart = across_from_touch l l o o f; once = segments_once h }

-- ---- 13

-- the test for an end, at a grid point
pub is_at_grid : (e v : Point) → is_at e (grid v) ≡ is_same_point e v
unfolding is_at is_same_point one
is_at_grid e v = ap₂ (λ a b. eq_z a v.x && eq_z b v.y) (*ℤ-one e.x) (*ℤ-one e.y)

pub ends_parity : (t : Segment) → Ordered t → (v : Point) → is_end t (grid v) ≡ is_same_point t.left v ⊻ is_same_point t.right v
unfolding is_end
ends_parity t o v =
    ap₂ (λ a b. a || b) (is_at_grid t.left v) (is_at_grid t.right v)
    ∙ or_xor (is_same_point t.left v) (is_same_point t.right v) (λ h k. ends_differ o (same_point_read t.left v h ∙ sym (same_point_read t.right v k)))

-- a point that is no end of the list belongs to none of its segments
pub even_from_ends : (l : List Segment) → AllOrdered l
    → ((t : Segment) → t ∈ l → (odd (ends_at l (grid t.left)) ≡ false) × (odd (ends_at l (grid t.right)) ≡ false)) → Even l
unfolding ends_at
even_from_ends l ord even v =
    parity_same (λ t. is_same_point t.left v ⊻ is_same_point t.right v) ends l (λ t m. sym (ends_parity t (ordered_read t (ord t m)) v))
    ∙ ⊎_elim (λ h. let w = some_find ends l h in sym (odd_count ends l) ∙ at w.0 w.1 w.2) none (decide (some ends l))
  where
    ends : Segment → Bool
    ends t = is_end t (grid v)

    at : (t : Segment) → t ∈ l → T (is_end t (grid v)) → odd (count ends l) ≡ false
    at t m h = ⊎_elim (λ k. is t.left k (even t m).0) (λ k. is t.right k (even t m).1) (is_end_read t (grid v) h)
      where
        is : (e : Point) → T (is_at e (grid v)) → odd (ends_at l (grid e)) ≡ false → odd (ends_at l (grid v)) ≡ false
        is e k = subst (λ p. odd (ends_at l (grid p)) ≡ false) (same_point_read e v (subst T (is_at_grid e v) k))

    none : T (not (some ends l)) → parity ends l ≡ false
    none h = parity_none ends l (λ t m. refute (ends t) (λ k. T_not (some ends l) h (some_make ends m k)))

-- ---- 14

-- another segment does not pass through the midpoint
pub middle_away : (s t : Segment) → Ordered s → Ordered t → (s ≡ t) ⊎ Apart s t → (s ≡ t) ⊎ Away t (midpoint s)
middle_away s t o u (inl e) = inl e
middle_away s t o u (inr h) =
    inr (⊎_elim (λ k. absurd (middle_inner s o (h (midpoint s) (one_pos 1) (middle s) k).0)) (λ a. a) (on_or_away t u (midpoint s)))

pub others_away : {l : List Segment} → Split l → (s : Segment) → s ∈ l → (t : Segment) → t ∈ l → (s ≡ t) ⊎ Away t (midpoint s)
others_away r s m t k = middle_away s t (r.ordered s m) (r.ordered t k) (r.apart s t m k)

-- the rule, for a segment that occurs an odd number of times
pub interior_rule : (l : List Segment) (s : Segment) → Ordered s → Even l → ((t : Segment) → t ∈ l → Ordered t)
    → ((t : Segment) → t ∈ l → (s ≡ t) ⊎ Away t (midpoint s)) → parity (is_same_segment s) l ≡ true
    → interior_above l s ≡ not (parity (counts_below (midpoint s)) l)
unfolding interior_above
interior_rule l s o even ord others once = go o
  where
    rule : Bool → Bool
    rule vertical =
        (vertical && odd (count (counts_below_left (midpoint s)) l)) || (not vertical && not (odd (count (counts_below (midpoint s)) l)))

    go : Ordered s → rule (eq_z s.left.x s.right.x) ≡ not (parity (counts_below (midpoint s)) l)
    go (slanting w) =
        ap rule (refute (eq_z s.left.x s.right.x) (λ h. zero_pos (eq_z_zero s.left.x s.right.x h) w))
        ∙ ap not (odd_count (counts_below (midpoint s)) l)
    go (upright e w) =
        ap rule (true_is (eq_z s.left.x s.right.x) (zero_eq_z s.left.x s.right.x e))
        ∙ or-false (odd (count (counts_below_left (midpoint s)) l))
        ∙ odd_count (counts_below_left (midpoint s)) l
        ∙ left_parity s (upright e w) l others e w even ord
        ∙ ap (λ b. parity (counts_below (midpoint s)) l ⊻ b) once
        ∙ xor_comm (parity (counts_below (midpoint s)) l) true

pub interior_above_lem : (l : List Segment) → Regular l → (s : Segment) → s ∈ l → interior_above l s ≡ not (parity (counts_below (midpoint s)) l)
interior_above_lem l r s m =
    interior_rule l s (r.split.ordered s m) r.even r.split.ordered (others_away r.split s m) (r.split.once s m)
