-- Two segments, one the lower of the two at the left and at the right: at every point between their ends it passes strictly under the other, but
-- for common ends. So what passes over a point, or under it, goes on from one to the next.
use mathlib.Core.Path.{◌≡◌, sym, ap, ◌∙◌, subst}
use mathlib.Core.Logic.{◌⊎◌, inl, inr, ⊎_elim}
use mathlib.Core.Bool.{◌&&◌, ◌||◌}
use mathlib.Core.List.{[], ◌∷◌}
use lib.Dec.{T}
use lib.IntN.{ℤ, pos, neg_ℤ, ◌-ℤ◌, ◌*ℤ◌}
use Rattle.whole.proofs.Solver.{var, con, opp, ◌:+◌, ◌:-◌, ◌:*◌, solve}
use Rattle.whole.proofs.Sign.{Pos, NonNeg, Neg, Weak, weak_zero, weak_plus, weak, Half, at_least_lem, under, half, pos_nonneg, zero_nonneg, neg_pos, pos_neg, neg_zero, neg_of_pos, pos_of_neg, pos_clash, nonneg_clash, zero_pos, zero_neg, nonneg_both, nonneg_add, nonneg_add_pos, pos_add_nonneg, nonneg_mul, cancel_zero, cancel_nonneg, sub_zero_eq, lt_z0_pos, pos_lt_z0, lt_z0_neg, neg_lt_z0}
use Rattle.whole.proofs.Logic.{and_left, and_right, or_cases}
use Rattle.plane.specs.declared.Point.{Point}
use Rattle.plane.specs.declared.Segment.{Segment}
use Rattle.plane.specs.Plane.{side, is_same_point}
use Rattle.plane.proofs.OnSegment.{Ordered, slanting, upright, width}
use Rattle.plane.proofs.Equal.{same_point_read}
use Rattle.plane.proofs.Order.{run, rise, turns}
use Rattle.sweep_laws.specs.Lower.{passes_under, passes_over, lower_at_left, lower_at_right}
use Rattle.sweep_laws.proofs.Under.{NotBefore, after_x, after_y, side_left, side_right}

-- ---- directions that point right or straight up

pub turned : (s t : Segment) → turns s t ≡ neg_ℤ (turns t s)
unfolding turns
turned s t = solve (run s ∷ rise s ∷ run t ∷ rise t ∷ []) (var 0 :* var 3 :- var 1 :* var 2) (opp (var 2 :* var 1 :- var 3 :* var 0)) tt

-- by the x part of (s × u) t = (t × u) s + (s × t) u, × the turn
pub turns_weak : {s t u : Segment} → Ordered s → Ordered t → Ordered u → NonNeg (turns s t) → NonNeg (turns t u) → NonNeg (turns s u)
unfolding turns
turns_weak {s} {t} {u} o (slanting w) q h k =
    cancel_nonneg w
    (subst NonNeg
    (solve (run s ∷ rise s ∷ run t ∷ rise t ∷ run u ∷ rise u ∷ [])
    ((var 2 :* var 5 :- var 3 :* var 4) :* var 0 :+ (var 0 :* var 3 :- var 1 :* var 2) :* var 4) (var 2 :* (var 0 :* var 5 :- var 1 :* var 4)) tt)
    (nonneg_add (nonneg_mul k (width o)) (nonneg_mul h (width q))))
turns_weak {s} {t} {u} o (upright e w) q h k = go q
  where
    -- nothing is left of straight up
    narrow : run u ≡ pos 0
    narrow =
        cancel_zero w
        (nonneg_both (nonneg_mul (pos_nonneg w) (width q))
        (subst NonNeg (ap (λ z. z *ℤ rise u -ℤ rise t *ℤ run u) e ∙ solve (rise u ∷ rise t ∷ run u ∷ []) (con (pos 0) :* var 0 :- var 1 :* var 2) (opp (var 1 :* var 2)) tt) k))

    go : Ordered u → NonNeg (turns s u)
    go (slanting v) = zero_pos narrow v
    go (upright f v) =
        subst NonNeg
        (solve (run s ∷ rise s ∷ rise u ∷ []) (var 0 :* var 2) (var 0 :* var 2 :- var 1 :* con (pos 0)) tt ∙ ap (λ z. run s *ℤ rise u -ℤ rise s *ℤ z) (sym f))
        (nonneg_mul (width o) (pos_nonneg v))

pub round : {s t u : Segment} → Ordered s → Ordered t → Ordered u → NonNeg (turns s t) → NonNeg (turns t u) → Pos (turns u s) → ⊥
round {s} {t} {u} o p q h k l = nonneg_clash (turns_weak o p q h k) (neg_of_pos (turns s u) (subst Pos (turned u s) l))

-- ---- from one point to another

abbrev pub way : Point → Point → Segment
way p q = record { left = p; right = q }

abbrev pub side_of : Segment → Point → ℤ
side_of s p = side s.left s.right p

-- how the side value changes on the way
pub turns_to : (s : Segment) (p q : Point) → turns s (way p q) ≡ side_of s q -ℤ side_of s p
unfolding turns side
turns_to s p q =
    solve (s.left.x ∷ s.left.y ∷ s.right.x ∷ s.right.y ∷ p.x ∷ p.y ∷ q.x ∷ q.y ∷ [])
    ((var 2 :- var 0) :* (var 7 :- var 5) :- (var 3 :- var 1) :* (var 6 :- var 4))
    ((var 2 :- var 0) :* (var 7 :- var 1) :- (var 3 :- var 1) :* (var 6 :- var 0) :- ((var 2 :- var 0) :* (var 5 :- var 1) :- (var 3 :- var 1) :* (var 4 :- var 0)))
    tt

pub turns_from : (s : Segment) (p q : Point) → turns (way p q) s ≡ side_of s p -ℤ side_of s q
turns_from s p q =
    turned (way p q) s ∙ ap neg_ℤ (turns_to s p q) ∙ solve (side_of s p ∷ side_of s q ∷ []) (opp (var 1 :- var 0)) (var 0 :- var 1) tt

-- and from a common left end
pub turns_at : (s t : Segment) → s.left ≡ t.left → side_of s t.right ≡ turns s t
turns_at s t e =
    solve (side_of s t.right ∷ []) (var 0) (var 0 :- con (pos 0)) tt
    ∙ ap (λ z. side_of s t.right -ℤ z) (sym (subst (λ q. side_of s q ≡ pos 0) e (side_left s)))
    ∙ sym (turns_to s t.left t.right)

pub not_before : (p q : Point) → NotBefore p q → (p ≡ q) ⊎ Ordered (way q p)
not_before p q h = by_x (weak (after_x p q h))
  where
    by_x : Weak (p.x -ℤ q.x) → (p ≡ q) ⊎ Ordered (way q p)
    by_x (weak_plus w) = inr (slanting w)
    by_x (weak_zero e) = by_y (weak (after_y p q h (sym (sub_zero_eq q.x p.x e))))
      where
        by_y : Weak (p.y -ℤ q.y) → (p ≡ q) ⊎ Ordered (way q p)
        by_y (weak_plus w) = inr (upright e w)
        by_y (weak_zero f) = inl (sym (λ i. record { x = sub_zero_eq q.x p.x e i; y = sub_zero_eq q.y p.y f i }))

-- ---- two segments between whose ends p comes

pub record Spans (p : Point) (s : Segment) : Type 0 where
  pub in_order : Ordered s
  pub begun : NotBefore p s.left
  pub not_ended : NotBefore s.right p

module _ (s t : Segment) (p : Point) (a : Spans p s) (b : Spans p t) where
  -- were s not strictly under p, and t not strictly over it
  module _ (not_under : NonNeg (neg_ℤ (side_of s p))) (not_over : NonNeg (side_of t p)) where
    -- s would turn left into t by a point further on
    turns_by : (q : Point) → NotBefore q p → (q ≡ p → ⊥) → NonNeg (side_of s q) → NonNeg (neg_ℤ (side_of t q)) → NonNeg (turns s t)
    turns_by q n d h k =
        ⊎_elim (λ e. absurd (d e))
        (λ w. turns_weak a.in_order w b.in_order (subst NonNeg (sym (turns_to s p q)) (nonneg_add h not_under)) (subst NonNeg (sym (turns_from t p q)) (nonneg_add not_over k)))
        (not_before q p n)

    at_right : T (lower_at_right s t) → (s.right ≡ t.right → t.right ≡ p → ⊥) → NonNeg (turns s t)
    at_right r d =
        ⊎_elim (λ r. ⊎_elim under_other over_other (or_cases (passes_under s t.right) (passes_over t s.right) r)) together
        (or_cases (passes_under s t.right || passes_over t s.right) (is_same_point s.right t.right) r)
      where
        under_other : T (passes_under s t.right) → NonNeg (turns s t)
        under_other h =
            let w = lt_z0_pos (side_of s t.right) h in
            turns_by t.right b.not_ended (λ e. nonneg_clash not_under (pos_neg (subst (λ q. Pos (side_of s q)) e w))) (pos_nonneg w) (zero_nonneg (neg_zero (side_right t)))

        over_other : T (passes_over t s.right) → NonNeg (turns s t)
        over_other h =
            let w = lt_z0_neg (side_of t s.right) h in
            turns_by s.right a.not_ended (λ e. nonneg_clash not_over (subst (λ q. Neg (side_of t q)) e w)) (zero_nonneg (side_right s)) (pos_nonneg (neg_pos w))

        together : T (is_same_point s.right t.right) → NonNeg (turns s t)
        together h =
            let e = same_point_read s.right t.right h in
            turns_by t.right b.not_ended (d e) (zero_nonneg (subst (λ q. side_of s q ≡ pos 0) e (side_right s))) (zero_nonneg (neg_zero (side_right t)))

    clash : T (lower_at_left s t) → T (lower_at_right s t) → (s.left ≡ t.left → p ≡ t.left → ⊥) → (s.right ≡ t.right → t.right ≡ p → ⊥) → ⊥
    clash l r c d =
        ⊎_elim (λ l. ⊎_elim under_other over_other (or_cases (passes_under s t.left) (passes_over t s.left) l)) together
        (or_cases (passes_under s t.left || passes_over t s.left) (is_same_point s.left t.left && passes_under s t.right) l)
      where
        under_other : T (passes_under s t.left) → ⊥
        under_other h =
            let z = lt_z0_pos (side_of s t.left) h in
            ⊎_elim (λ e. nonneg_clash not_under (pos_neg (subst (λ q. Pos (side_of s q)) (sym e) z)))
            (λ w. round a.in_order b.in_order w (at_right r d) (subst NonNeg (sym (turns_to t t.left p)) (nonneg_add not_over (zero_nonneg (neg_zero (side_left t))))) (subst Pos (sym (turns_from s t.left p)) (pos_add_nonneg z not_under)))
            (not_before p t.left b.begun)

        over_other : T (passes_over t s.left) → ⊥
        over_other h =
            let z = lt_z0_neg (side_of t s.left) h in
            ⊎_elim (λ e. nonneg_clash not_over (subst (λ q. Neg (side_of t q)) (sym e) z))
            (λ w. round w a.in_order b.in_order (subst NonNeg (sym (turns_from s s.left p)) (nonneg_add (zero_nonneg (side_left s)) not_under)) (at_right r d) (subst Pos (sym (turns_to t s.left p)) (nonneg_add_pos not_over (neg_pos z))))
            (not_before p s.left a.begun)

        together : T (is_same_point s.left t.left && passes_under s t.right) → ⊥
        together h =
            ⊎_elim (c e)
            (λ w. round b.in_order w a.in_order (subst NonNeg (sym (turns_to t t.left p)) (nonneg_add not_over (zero_nonneg (neg_zero (side_left t))))) (subst NonNeg (sym (turns_from s t.left p)) (nonneg_add (zero_nonneg at_left) not_under)) (subst Pos (turns_at s t e) z))
            (not_before p t.left b.begun)
          where
            e : s.left ≡ t.left
            e = same_point_read s.left t.left (and_left (is_same_point s.left t.left) (passes_under s t.right) h)

            z : Pos (side_of s t.right)
            z = lt_z0_pos (side_of s t.right) (and_right (is_same_point s.left t.left) (passes_under s t.right) h)

            at_left : side_of s t.left ≡ pos 0
            at_left = subst (λ q. side_of s q ≡ pos 0) e (side_left s)

  module _ (l : T (lower_at_left s t)) (r : T (lower_at_right s t)) where
    -- where t does not pass over p
    pub strictly_under : NonNeg (side_of t p) → (s.left ≡ t.left → p ≡ t.left → ⊥) → (s.right ≡ t.right → t.right ≡ p → ⊥) → T (passes_under s p)
    strictly_under h c d = go (half (neg_ℤ (side_of s p)))
      where
        go : Half (neg_ℤ (side_of s p)) → T (passes_under s p)
        go (at_least_lem k) = absurd (clash k h l r c d)
        go (under k) = pos_lt_z0 (side_of s p) (pos_of_neg (side_of s p) k)

    pub under_next : T (passes_under t p) → T (passes_under s p)
    under_next u =
        let z = lt_z0_pos (side_of t p) u in
        strictly_under (pos_nonneg z) (λ e f. zero_pos (ap (side_of t) f ∙ side_left t) z) (λ e f. zero_pos (ap (side_of t) (sym f) ∙ side_right t) z)

    pub over_next : T (passes_over s p) → T (passes_over t p)
    over_next u = go (half (side_of t p))
      where
        z : Neg (side_of s p)
        z = lt_z0_neg (side_of s p) u

        go : Half (side_of t p) → T (passes_over t p)
        go (under k) = neg_lt_z0 (side_of t p) k
        go (at_least_lem k) =
            absurd
            (pos_clash (lt_z0_pos (side_of s p) (strictly_under k (λ e f. zero_neg (ap (side_of s) (f ∙ sym e) ∙ side_left s) z) (λ e f. zero_neg (ap (side_of s) (sym (e ∙ f)) ∙ side_right s) z))) z)
