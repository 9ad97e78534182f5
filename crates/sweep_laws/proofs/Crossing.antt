-- Two segments that do not touch, at a point between the ends of both that the one does not pass over and the other does not pass under: the one is
-- the lower of the two at the right, unless both pass through the point. So where the sweep finds a place by one test, the other test holds, too.
use mathlib.Core.Path.{◌≡◌, sym, ap, ◌∙◌, subst}
use mathlib.Core.Logic.{◌⊎◌, inl, inr, ⊎_elim}
use mathlib.Core.Bool.{false, not, ◌&&◌, ◌||◌}
use lib.Dec.{T, T_not, not_T}
use lib.IntN.{ℤ, pos, neg_ℤ}
use lib.Signed.{lt_z}
use Rattle.whole.proofs.Sign.{Pos, NonNeg, Neg, Sign, minus, nought, plus, sign, Weak, weak_zero, weak_plus, weak, Half, at_least_lem, under, half, pos_nonneg, zero_nonneg, neg_pos, pos_neg, neg_of_pos, pos_of_neg, neg_zero, zero_of_neg, nonneg_clash, nonneg_add, pos_add_nonneg, nonneg_add_pos, pos_lt_z0, neg_lt_z0}
use Rattle.whole.proofs.Logic.{and_make, or_cases, or_left, or_right, decide}
use Rattle.plane.specs.declared.Point.{Point}
use Rattle.plane.specs.declared.Segment.{Segment}
use Rattle.plane.specs.Plane.{turn, turn_of, before, ordered, is_same_point, is_same_segment, grid, on, is_end, opposite, cross, end_within, touch}
use Rattle.plane.proofs.Machine.{is_straight}
use Rattle.plane.proofs.OnSegment.{Ordered, ordered_read}
use Rattle.plane.proofs.Equal.{same_point_read, same_segment_read, same_point_refl}
use Rattle.plane.proofs.Grid.{on_grid, end_grid}
use Rattle.plane.proofs.Order.{ordered_make, ends_differ, before_irreflexive, before_trans, turns}
use Rattle.sweep_laws.specs.Lower.{passes_under, passes_over, lower_at_right}
use Rattle.sweep_laws.proofs.Under.{NotBefore, side_left, side_right}
use Rattle.sweep_laws.proofs.Between.{turned, round, way, side_of, turns_to, turns_from, not_before, Spans}
use Rattle.sweep_laws.proofs.Chosen.{not_before_trans}

-- p comes before q
pub before_way : {p q : Point} → Ordered (way p q) → T (before p q)
unfolding ordered
before_way {p} {q} o = ordered_make (way p q) o

pub way_before : (p q : Point) → T (before p q) → Ordered (way p q)
unfolding ordered
way_before p q h = ordered_read (way p q) h

pub not_back : (p q : Point) → T (before p q) → NotBefore q p
not_back p q h = not_T (before q p) (λ k. before_irreflexive p (before_trans p q p h k))

-- ---- touching

-- a point on the line of t and between its ends, not one of them
pub within_make : (t : Segment) (e : Point) → side_of t e ≡ pos 0 → NotBefore e t.left → NotBefore t.right e → (t.left ≡ e → ⊥) → (t.right ≡ e → ⊥) → T (end_within t e)
unfolding end_within turn
within_make t e z l r n m =
    and_make (on t (grid e)) (not (is_end t (grid e)))
    (subst T (sym (on_grid t e))
    (and_make (is_straight (turn t.left t.right e) && not (before e t.left)) (not (before t.right e)) (and_make (is_straight (turn t.left t.right e)) (not (before e t.left)) straight l) r))
    (not_T (is_end t (grid e)) (λ h. ends (subst T (end_grid t e) h)))
  where
    straight : T (is_straight (turn t.left t.right e))
    straight = subst (λ z. T (is_straight (turn_of z))) (sym z) tt

    ends : T (is_same_point t.left e || is_same_point t.right e) → ⊥
    ends h =
        ⊎_elim (λ k. n (same_point_read t.left e k)) (λ k. m (same_point_read t.right e k)) (or_cases (is_same_point t.left e) (is_same_point t.right e) h)

module _ (s t : Segment) (differ : s ≡ t → ⊥) where
  not_same : T (not (is_same_segment s t))
  not_same = not_T (is_same_segment s t) (λ h. differ (same_segment_read s t h))

  pub touch_cross : T (cross s t) → T (touch s t)
  unfolding touch
  touch_cross h =
      and_make (not (is_same_segment s t)) _ not_same
      (or_left (cross s t || end_within s t.left || end_within s t.right || end_within t s.left) (end_within t s.right)
      (or_left (cross s t || end_within s t.left || end_within s t.right) (end_within t s.left)
      (or_left (cross s t || end_within s t.left) (end_within s t.right) (or_left (cross s t) (end_within s t.left) h))))

  pub touch_right : T (end_within t s.right) → T (touch s t)
  unfolding touch
  touch_right h =
      and_make (not (is_same_segment s t)) _ not_same
      (or_right (cross s t || end_within s t.left || end_within s t.right || end_within t s.left) (end_within t s.right) h)

  pub touch_other_right : T (end_within s t.right) → T (touch s t)
  unfolding touch
  touch_other_right h =
      and_make (not (is_same_segment s t)) _ not_same
      (or_left (cross s t || end_within s t.left || end_within s t.right || end_within t s.left) (end_within t s.right)
      (or_left (cross s t || end_within s t.left || end_within s t.right) (end_within t s.left)
      (or_right (cross s t || end_within s t.left) (end_within s t.right) h)))

  pub touch_left : T (end_within t s.left) → T (touch s t)
  unfolding touch
  touch_left h =
      and_make (not (is_same_segment s t)) _ not_same
      (or_left (cross s t || end_within s t.left || end_within s t.right || end_within t s.left) (end_within t s.right)
      (or_right (cross s t || end_within s t.left || end_within s t.right) (end_within t s.left) h))

-- the ends of t fall through the line of s, and those of s rise through that of t
crossing : (s t : Segment) → Pos (side_of s t.left) → Neg (side_of s t.right) → Neg (side_of t s.left) → Pos (side_of t s.right) → T (cross s t)
unfolding cross opposite
crossing s t a b c d =
    and_make (opposite (side_of s t.left) (side_of s t.right)) (opposite (side_of t s.left) (side_of t s.right))
    (or_right (lt_z (side_of s t.left) (pos 0) && lt_z (pos 0) (side_of s t.right)) _ (and_make (lt_z (pos 0) (side_of s t.left)) (lt_z (side_of s t.right) (pos 0)) (pos_lt_z0 (side_of s t.left) a) (neg_lt_z0 (side_of s t.right) b)))
    (or_left (lt_z (side_of t s.left) (pos 0) && lt_z (pos 0) (side_of t s.right)) _ (and_make (lt_z (side_of t s.left) (pos 0)) (lt_z (pos 0) (side_of t s.right)) (neg_lt_z0 (side_of t s.left) c) (pos_lt_z0 (side_of t s.right) d)))

-- ---- from a point between

module _ (s t : Segment) (p : Point) (a : Spans p s) (b : Spans p t) (low : NonNeg (side_of s p)) (high : NonNeg (neg_ℤ (side_of t p)))
    (strict : side_of s p ≡ pos 0 → side_of t p ≡ pos 0 → ⊥) where
  no_weight : {z : ℤ} → z ≡ pos 0 → NonNeg (neg_ℤ z)
  no_weight e = zero_nonneg (neg_zero e)

  -- were t to turn left into s
  module _ (c : Pos (turns t s)) where
    above_left : Pos (side_of s t.left)
    above_left = ⊎_elim same (λ w. go w (half (neg_ℤ (side_of s t.left)))) (not_before p t.left b.begun)
      where
        same : p ≡ t.left → Pos (side_of s t.left)
        same e = by_weight (weak low)
          where
            by_weight : Weak (side_of s p) → Pos (side_of s t.left)
            by_weight (weak_zero z) = absurd (strict z (ap (side_of t) e ∙ side_left t))
            by_weight (weak_plus h) = subst (λ q. Pos (side_of s q)) e h

        go : Ordered (way t.left p) → Half (neg_ℤ (side_of s t.left)) → Pos (side_of s t.left)
        go w (at_least_lem h) = absurd (round a.in_order w b.in_order (subst NonNeg (sym (turns_to s t.left p)) (nonneg_add low h)) (subst NonNeg (sym (turns_from t t.left p)) (nonneg_add (zero_nonneg (side_left t)) high)) c)
        go w (under h) = pos_of_neg (side_of s t.left) h

    below_left : Neg (side_of t s.left)
    below_left = ⊎_elim same (λ w. go w (half (side_of t s.left))) (not_before p s.left a.begun)
      where
        same : p ≡ s.left → Neg (side_of t s.left)
        same e = by_weight (weak high)
          where
            by_weight : Weak (neg_ℤ (side_of t p)) → Neg (side_of t s.left)
            by_weight (weak_zero z) = absurd (strict (ap (side_of s) e ∙ side_left s) (zero_of_neg z))
            by_weight (weak_plus h) = subst (λ q. Neg (side_of t q)) e (neg_of_pos (side_of t p) h)

        go : Ordered (way s.left p) → Half (side_of t s.left) → Neg (side_of t s.left)
        go w (at_least_lem h) = absurd (round a.in_order w b.in_order (subst NonNeg (sym (turns_to s s.left p)) (nonneg_add low (no_weight (side_left s)))) (subst NonNeg (sym (turns_from t s.left p)) (nonneg_add h high)) c)
        go w (under h) = h

  turns_back : Half (turns s t) → (NonNeg (turns s t) → ⊥) → Pos (turns t s)
  turns_back (at_least_lem h) f = absurd (f h)
  turns_back (under h) f = subst Pos (sym (turned t s)) (neg_pos h)

  module _ (clear : touch s t ≡ false) where
    no_touch : T (touch s t) → ⊥
    no_touch h = subst T clear h

    -- s ends first: t passes over its end
    module _ (o : Ordered (way s.right t.right)) where
      differ : s ≡ t → ⊥
      differ e = ends_differ o (ap (λ (r : Segment). r.right) e)

      ends_over : T (passes_over t s.right)
      ends_over = go (sign (side_of t s.right))
        where
          go : Sign (side_of t s.right) → T (passes_over t s.right)
          go (minus h) = neg_lt_z0 (side_of t s.right) h
          go (nought z) = ⊎_elim (λ e. absurd (strict (ap (side_of s) (sym e) ∙ side_right s) (ap (side_of t) (sym e) ∙ z))) meet (not_before s.right p a.not_ended)
            where
              meet : Ordered (way p s.right) → T (passes_over t s.right)
              meet w =
                  absurd
                  (no_touch (touch_right s t differ (within_make t s.right z (not_before_trans s.right p t.left a.not_ended b.begun) (not_back s.right t.right (before_way o)) (λ e. T_not (before p t.left) b.begun (subst (λ q. T (before p q)) (sym e) (before_way w))) (λ e. ends_differ o (sym e)))))
          go (plus h) = ⊎_elim (λ e. absurd (nonneg_clash high (pos_neg (subst (λ q. Pos (side_of t q)) e h)))) cut (not_before s.right p a.not_ended)
            where
              cut : Ordered (way p s.right) → T (passes_over t s.right)
              cut w = absurd (no_touch (touch_cross s t differ (crossing s t (above_left back) (falls (half (side_of s t.right))) (below_left back) h)))
                where
                  back : Pos (turns t s)
                  back = turns_back (half (turns s t)) (λ k. round w a.in_order b.in_order (subst NonNeg (sym (turns_from s p s.right)) (nonneg_add low (no_weight (side_right s)))) k (subst Pos (sym (turns_to t p s.right)) (pos_add_nonneg h high)))

                  falls : Half (side_of s t.right) → Neg (side_of s t.right)
                  falls (at_least_lem k) = absurd (round a.in_order o b.in_order (subst NonNeg (sym (turns_to s s.right t.right)) (nonneg_add k (no_weight (side_right s)))) (subst NonNeg (sym (turns_from t s.right t.right)) (nonneg_add (pos_nonneg h) (no_weight (side_right t)))) back)
                  falls (under k) = k

    -- t ends first: s passes under its end
    module _ (o : Ordered (way t.right s.right)) where
      differ_too : s ≡ t → ⊥
      differ_too e = ends_differ o (ap (λ (r : Segment). r.right) (sym e))

      ends_under : T (passes_under s t.right)
      ends_under = go (sign (side_of s t.right))
        where
          go : Sign (side_of s t.right) → T (passes_under s t.right)
          go (plus h) = pos_lt_z0 (side_of s t.right) h
          go (nought z) = ⊎_elim (λ e. absurd (strict (ap (side_of s) (sym e) ∙ z) (ap (side_of t) (sym e) ∙ side_right t))) meet (not_before t.right p b.not_ended)
            where
              meet : Ordered (way p t.right) → T (passes_under s t.right)
              meet w =
                  absurd
                  (no_touch (touch_other_right s t differ_too (within_make s t.right z (not_before_trans t.right p s.left b.not_ended a.begun) (not_back t.right s.right (before_way o)) (λ e. T_not (before p s.left) a.begun (subst (λ q. T (before p q)) (sym e) (before_way w))) (λ e. ends_differ o (sym e)))))
          go (minus h) = ⊎_elim (λ e. absurd (nonneg_clash low (subst (λ q. Neg (side_of s q)) e h))) cut (not_before t.right p b.not_ended)
            where
              cut : Ordered (way p t.right) → T (passes_under s t.right)
              cut w = absurd (no_touch (touch_cross s t differ_too (crossing s t (above_left back) h (below_left back) (rises (half (neg_ℤ (side_of t s.right)))))))
                where
                  back : Pos (turns t s)
                  back = turns_back (half (turns s t)) (λ k. round a.in_order b.in_order w k (subst NonNeg (sym (turns_to t p t.right)) (nonneg_add (zero_nonneg (side_right t)) high)) (subst Pos (sym (turns_from s p t.right)) (nonneg_add_pos low (neg_pos h))))

                  rises : Half (neg_ℤ (side_of t s.right)) → Pos (side_of t s.right)
                  rises (at_least_lem k) = absurd (round a.in_order o b.in_order (subst NonNeg (sym (turns_to s t.right s.right)) (nonneg_add (zero_nonneg (side_right s)) (pos_nonneg (neg_pos h)))) (subst NonNeg (sym (turns_from t t.right s.right)) (nonneg_add (zero_nonneg (side_right t)) k)) back)
                  rises (under k) = pos_of_neg (side_of t s.right) k

    pub lower_at_right_lem : T (lower_at_right s t)
    lower_at_right_lem =
        ⊎_elim
        (λ h. or_right (passes_under s t.right || passes_over t s.right) (is_same_point s.right t.right) h)
        (λ n. or_left (passes_under s t.right || passes_over t s.right) (is_same_point s.right t.right) (apart n (decide (before s.right t.right))))
        (decide (is_same_point s.right t.right))
      where
        other : T (not (is_same_point s.right t.right)) → s.right ≡ t.right → ⊥
        other n e = T_not (is_same_point s.right t.right) n (subst (λ q. T (is_same_point s.right q)) e (same_point_refl s.right))

        apart : T (not (is_same_point s.right t.right)) → T (before s.right t.right) ⊎ T (not (before s.right t.right)) → T (passes_under s t.right || passes_over t s.right)
        apart n (inl h) = or_right (passes_under s t.right) (passes_over t s.right) (ends_over (way_before s.right t.right h))
        apart n (inr h) = or_left (passes_under s t.right) (passes_over t s.right) (⊎_elim (λ e. absurd (other n e)) ends_under (not_before s.right t.right h))
