-- A strand begins among active ones that it does not touch: one that does not pass over its left end is under it, and neighbours are in order at the
-- right, too.
use mathlib.Core.Path.{◌≡◌, sym, ap, ◌∙◌, subst}
use mathlib.Core.Logic.{⊎_elim}
use mathlib.Core.Bool.{false, not, ◌&&◌, ◌||◌}
use mathlib.Core.List.{[], ◌∷◌}
use lib.Dec.{T, T_not, not_T}
use lib.IntN.{pos, neg_ℤ}
use Rattle.whole.proofs.Solver.{var, opp, ◌:-◌, ◌:*◌, solve}
use Rattle.whole.proofs.Sign.{Pos, NonNeg, Sign, minus, nought, plus, sign, Weak, weak_zero, weak_plus, weak, pos_nonneg, zero_nonneg, neg_pos, neg_zero, zero_pos, zero_neg, lt_z0_pos, lt_z0_neg, pos_lt_z0, neg_lt_z0}
use Rattle.whole.proofs.Logic.{and_make, and_right, or_cases, or_left, or_right, decide, is_false}
use Rattle.plane.specs.declared.Point.{Point}
use Rattle.plane.specs.declared.Segment.{Segment}
use Rattle.plane.specs.Plane.{side, before, is_same_point, is_same_segment, touch}
use Rattle.plane.proofs.OnSegment.{Ordered}
use Rattle.plane.proofs.Equal.{same_point_read, same_point_refl, same_segment_refl, segment_eq}
use Rattle.plane.proofs.Order.{ends_differ, before_irreflexive}
use Rattle.sweep_laws.specs.Lower.{passes_under, passes_over, lower_at_left, lower_at_right}
use Rattle.sweep_laws.specs.Kept.{Strand, same_object}
use Rattle.sweep_laws.specs.Event.{under_beginning}
use Rattle.sweep_laws.proofs.Under.{NotBefore, side_left, side_right, side_turned}
use Rattle.sweep_laws.proofs.Between.{side_of, Spans}
use Rattle.sweep_laws.proofs.Events.{UnderBeginning, passing, turning, equal}
use Rattle.sweep_laws.proofs.Crossing.{before_way, not_back, within_make, touch_right, touch_other_right, touch_left, lower_at_right_lem}

side_round : (a b c : Point) → side a b c ≡ side b c a
unfolding side
side_round a b c =
    solve (a.x ∷ a.y ∷ b.x ∷ b.y ∷ c.x ∷ c.y ∷ [])
    ((var 2 :- var 0) :* (var 5 :- var 1) :- (var 3 :- var 1) :* (var 4 :- var 0))
    ((var 4 :- var 2) :* (var 1 :- var 3) :- (var 5 :- var 3) :* (var 0 :- var 2))
    tt

side_back : (a b c : Point) → side b a c ≡ neg_ℤ (side a b c)
unfolding side
side_back a b c =
    solve (a.x ∷ a.y ∷ b.x ∷ b.y ∷ c.x ∷ c.y ∷ [])
    ((var 0 :- var 2) :* (var 5 :- var 3) :- (var 1 :- var 3) :* (var 4 :- var 2))
    (opp ((var 2 :- var 0) :* (var 5 :- var 1) :- (var 3 :- var 1) :* (var 4 :- var 0)))
    tt

not_same : {p q : Point} → T (not (is_same_point p q)) → p ≡ q → ⊥
not_same {p} {q} n e = T_not (is_same_point p q) n (subst (λ r. T (is_same_point p r)) e (same_point_refl p))

-- two that begin together on one line
same_ray : (s t : Segment) → Ordered s → Ordered t → s.left ≡ t.left → side_of s t.right ≡ pos 0 → touch s t ≡ false → s ≡ t
same_ray s t o u e z clear = ⊎_elim (λ h. segment_eq e (same_point_read s.right t.right h)) (λ n. absurd (apart n)) (decide (is_same_point s.right t.right))
  where
    back : side_of t s.right ≡ pos 0
    back = ap (λ p. side p t.right s.right) (sym e) ∙ side_turned s.left t.right s.right ∙ neg_zero z

    apart : T (not (is_same_point s.right t.right)) → ⊥
    apart n = ⊎_elim first last (decide (before s.right t.right))
      where
        differ : s ≡ t → ⊥
        differ f = not_same n (ap (λ (r : Segment). r.right) f)

        first : T (before s.right t.right) → ⊥
        first h =
            subst T clear
            (touch_right s t differ
            (within_make t s.right back (subst (λ p. NotBefore s.right p) e (not_back s.left s.right (before_way o))) (not_back s.right t.right h) (λ f. ends_differ o (e ∙ f)) (λ f. not_same n (sym f))))

        last : T (not (before s.right t.right)) → ⊥
        last h =
            subst T clear
            (touch_other_right s t differ
            (within_make s t.right z (subst (λ p. NotBefore t.right p) (sym e) (not_back t.left t.right (before_way u))) h (λ f. ends_differ u (sym e ∙ f)) (not_same n)))

module _ (a b : Strand) where
  abbrev s : Segment
  s = a.segment

  abbrev t : Segment
  t = b.segment

  pub under_beginning_make : UnderBeginning a b → T (under_beginning a b)
  under_beginning_make (passing h) = or_left (passes_under t s.left || (is_same_point t.left s.left && passes_under t s.right)) _ (or_left (passes_under t s.left) _ h)
  under_beginning_make (turning e h) =
      or_left (passes_under t s.left || (is_same_point t.left s.left && passes_under t s.right)) _
      (or_right (passes_under t s.left) _ (and_make (is_same_point t.left s.left) (passes_under t s.right) (subst (λ p. T (is_same_point t.left p)) e (same_point_refl t.left)) h))
  under_beginning_make (equal e d) =
      or_right (passes_under t s.left || (is_same_point t.left s.left && passes_under t s.right)) (is_same_segment t s && not (same_object a b))
      (and_make (is_same_segment t s) (not (same_object a b)) (subst (λ (r : Segment). T (is_same_segment t r)) e (same_segment_refl t)) (is_false (same_object a b) d))

  module _ (o : Ordered s) (spans : Spans s.left t) where
    own_spans : Spans s.left s
    own_spans = record { in_order = o; begun = not_T (before s.left s.left) (before_irreflexive s.left); not_ended = not_back s.left s.right (before_way o) }

    -- b has not ended there, and if it begins there, it does not come after a
    pub under_it : touch s t ≡ false → touch t s ≡ false → (t.right ≡ s.left → ⊥) → (t.left ≡ s.left → NonNeg (side_of t s.right)) → (s ≡ t → same_object a b ≡ false)
        → passes_over t s.left ≡ false → UnderBeginning a b
    under_it clear clear' on beside other not_over = go (sign (side_of t s.left))
      where
        go : Sign (side_of t s.left) → UnderBeginning a b
        go (minus h) = absurd (subst T not_over (neg_lt_z0 (side_of t s.left) h))
        go (plus h) = passing (pos_lt_z0 (side_of t s.left) h)
        go (nought z) = ⊎_elim together meet (decide (is_same_point t.left s.left))
          where
            together : T (is_same_point t.left s.left) → UnderBeginning a b
            together h = by_turn (weak (beside e))
              where
                e : t.left ≡ s.left
                e = same_point_read t.left s.left h

                by_turn : Weak (side_of t s.right) → UnderBeginning a b
                by_turn (weak_plus w) = turning e (pos_lt_z0 (side_of t s.right) w)
                by_turn (weak_zero f) = let q = same_ray t s spans.in_order o e f clear' in equal q (other (sym q))

            meet : T (not (is_same_point t.left s.left)) → UnderBeginning a b
            meet n =
                absurd
                (subst T clear
                (touch_left s t (λ f. not_same n (ap (λ (r : Segment). r.left) (sym f)))
                (within_make t s.left z spans.begun spans.not_ended (not_same n) on)))

    -- the tests at the right
    pub under_right : touch t s ≡ false → UnderBeginning a b → T (lower_at_right t s)
    under_right clear (passing h) =
        lower_at_right_lem t s s.left spans own_spans (pos_nonneg (lt_z0_pos (side_of t s.left) h)) (zero_nonneg (neg_zero (side_left s))) (λ z w. zero_pos z (lt_z0_pos (side_of t s.left) h)) clear
    under_right clear (turning e h) = or_left (passes_under t s.right || passes_over s t.right) _ (or_left (passes_under t s.right) _ h)
    under_right clear (equal e d) =
        or_right (passes_under t s.right || passes_over s t.right) (is_same_point t.right s.right)
        (subst (λ (r : Segment). T (is_same_point t.right r.right)) e (same_point_refl t.right))

    pub over_right : touch s t ≡ false → T (passes_over t s.left) → T (lower_at_right s t)
    over_right clear h =
        lower_at_right_lem s t s.left own_spans spans (zero_nonneg (side_left s)) (pos_nonneg (neg_pos (lt_z0_neg (side_of t s.left) h))) (λ z w. zero_neg w (lt_z0_neg (side_of t s.left) h)) clear

-- of two that end together, the higher one comes first
pub higher_first : (s t : Segment) → s.right ≡ t.right → T (lower_at_left s t) → Pos (side t.right t.left s.left)
higher_first s t e l =
    ⊎_elim
    (λ h. ⊎_elim (λ u. subst Pos (ap (λ p. side s.left p t.left) e ∙ side_round s.left t.right t.left) (lt_z0_pos (side_of s t.left) u)) (λ u. subst Pos (sym (side_back t.left t.right s.left)) (neg_pos (lt_z0_neg (side_of t s.left) u))) (or_cases (passes_under s t.left) (passes_over t s.left) h))
    (λ h. zero_pos (ap (side_of s) (sym e) ∙ side_right s) (lt_z0_pos (side_of s t.right) (and_right (is_same_point s.left t.left) (passes_under s t.right) h)))
    (or_cases (passes_under s t.left || passes_over t s.left) (is_same_point s.left t.left && passes_under s t.right) l)
