-- Two halfsegments of segments that are equal or share only common ends: they are equal, or one comes before the other. At one dominating point and
-- on one side neither turns left from the other only if the shorter's far end lies on the longer: the same from a left end and from a right end.
use mathlib.Core.Path.{◌≡◌, refl, sym, ap, ap₂, subst, ◌∙◌}
use mathlib.Core.Logic.{◌⊎◌, ⊎_elim}
use mathlib.Core.Bool.{Bool, true, false, not, ◌&&◌, ◌||◌}
use mathlib.Core.List.{[], ◌∷◌}
use lib.Dec.{T, T_not}
use lib.IntN.{ℤ, pos, neg_ℤ, ◌+ℤ◌, ◌-ℤ◌, ◌*ℤ◌}
use lib.Signed.{lt_z}
use Rattle.whole.specs.Count.{eq_z}
use Rattle.whole.proofs.Solver.{var, con, opp, ◌:+◌, ◌:-◌, ◌:*◌, solve}
use Rattle.whole.proofs.Sign.{Pos, NonNeg, Neg, pos_nonneg, neg_pos, one_pos, lit_nonneg, zero_pos, Sign, minus, nought, plus, sign, Half, at_least_lem, under, half, pos_mul, pos_lt_z, pos_lt_z0, zero_eq_z, sub_zero_eq}
use Rattle.whole.proofs.Logic.{and_make, or_left, or_right, decide}
use Rattle.plane.specs.declared.Point.{Point}
use Rattle.plane.specs.declared.Segment.{Segment}
use Rattle.plane.specs.declared.Halfsegment.{Halfsegment}
use Rattle.plane.specs.Plane.{grid, before, choose, is_same_point, is_same_segment, side, dominating, far_end, comes_before}
use Rattle.plane.proofs.Homogeneous.{triple_eq}
use Rattle.plane.proofs.OnSegment.{Ordered, slanting, upright, Along}
use Rattle.plane.proofs.Means.{At, EndOf, left_end, right_end}
use Rattle.plane.proofs.Equal.{point_eq, segment_eq, same_point_refl, same_segment_read, same_segment_refl}
use Rattle.plane.proofs.AlongSegment.{Apart}
use Rattle.plane.proofs.Order.{run, rise, turns, ends_differ, half_of, side_turns}

-- the end from which a half is seen, and the other
abbrev near : Bool → Segment → Point
near d t = choose d t.left t.right

abbrev far : Bool → Segment → Point
far d t = choose d t.right t.left

at_eq : (e p : Point) → At e (grid p) → e ≡ p
at_eq e p h = point_eq (one e.x p.x h.at_x) (one e.y p.y h.at_y)
  where
    one : (a b : ℤ) → b -ℤ a *ℤ pos 1 ≡ pos 0 → a ≡ b
    one a b q = sub_zero_eq a b (solve (a ∷ b ∷ []) (var 1 :- var 0) (var 1 :- var 0 :* con (pos 1)) tt ∙ q)

-- ---- one segment whose far end lies on another

own_far : (d : Bool) (t : Segment) → Along t (grid (far d t))
own_far true t = record { k = pos 1; a = pos 0; b = pos 1; k_pos = one_pos 0; a_least = lit_nonneg 0; b_least = lit_nonneg 1; mean = triple_eq (at t.left.x t.right.x) (at t.left.y t.right.y) refl }
  where
    at : (x y : ℤ) → pos 1 *ℤ y ≡ pos 0 *ℤ x +ℤ pos 1 *ℤ y
    at x y = solve (x ∷ y ∷ []) (con (pos 1) :* var 1) (con (pos 0) :* var 0 :+ con (pos 1) :* var 1) tt
own_far false t = record { k = pos 1; a = pos 1; b = pos 0; k_pos = one_pos 0; a_least = lit_nonneg 1; b_least = lit_nonneg 0; mean = triple_eq (at t.left.x t.right.x) (at t.left.y t.right.y) refl }
  where
    at : (x y : ℤ) → pos 1 *ℤ x ≡ pos 1 *ℤ x +ℤ pos 0 *ℤ y
    at x y = solve (x ∷ y ∷ []) (con (pos 1) :* var 0) (con (pos 1) :* var 0 :+ con (pos 0) :* var 1) tt

module _ (t u : Segment) (k b : ℤ) (kp : Pos k) (bp : NonNeg b) (most : NonNeg (k -ℤ b)) (ex : k *ℤ run t ≡ b *ℤ run u) (ey : k *ℤ rise t ≡ b *ℤ rise u) where
  far_along : (d : Bool) → near d t ≡ near d u → Along u (grid (far d t))
  far_along true e = record {
    k = k;
    a = k -ℤ b;
    b = b;
    k_pos = kp;
    a_least = most;
    b_least = bp;
    mean =
        triple_eq (at t.left.x t.right.x u.left.x u.right.x (ap (λ p. p.x) e) ex) (at t.left.y t.right.y u.left.y u.right.y (ap (λ p. p.y) e) ey)
        (solve (k ∷ b ∷ []) (var 0 :* con (pos 1)) ((var 0 :- var 1) :* con (pos 1) :+ var 1 :* con (pos 1)) tt);
  }
    where
      at : (c p d q : ℤ) → c ≡ d → k *ℤ (p -ℤ c) ≡ b *ℤ (q -ℤ d) → k *ℤ p ≡ (k -ℤ b) *ℤ d +ℤ b *ℤ q
      at c p d q f g =
          solve (k ∷ p ∷ c ∷ []) (var 0 :* var 1) (var 0 :* (var 1 :- var 2) :+ var 0 :* var 2) tt
          ∙ ap₂ (λ m n. m +ℤ k *ℤ n) g f
          ∙ solve (k ∷ b ∷ d ∷ q ∷ []) (var 1 :* (var 3 :- var 2) :+ var 0 :* var 2) ((var 0 :- var 1) :* var 2 :+ var 1 :* var 3) tt
  far_along false e = record {
    k = k;
    a = b;
    b = k -ℤ b;
    k_pos = kp;
    a_least = bp;
    b_least = most;
    mean =
        triple_eq (at t.right.x t.left.x u.right.x u.left.x (ap (λ p. p.x) e) ex) (at t.right.y t.left.y u.right.y u.left.y (ap (λ p. p.y) e) ey)
        (solve (k ∷ b ∷ []) (var 0 :* con (pos 1)) (var 1 :* con (pos 1) :+ (var 0 :- var 1) :* con (pos 1)) tt);
  }
    where
      at : (c p d q : ℤ) → c ≡ d → k *ℤ (c -ℤ p) ≡ b *ℤ (d -ℤ q) → k *ℤ p ≡ b *ℤ q +ℤ (k -ℤ b) *ℤ d
      at c p d q f g =
          solve (k ∷ p ∷ c ∷ []) (var 0 :* var 1) (var 0 :* var 2 :- var 0 :* (var 2 :- var 1)) tt
          ∙ ap₂ (λ m n. k *ℤ n -ℤ m) g f
          ∙ solve (k ∷ b ∷ d ∷ q ∷ []) (var 0 :* var 2 :- var 1 :* (var 2 :- var 3)) (var 1 :* var 3 :+ (var 0 :- var 1) :* var 2) tt

  ends_on : (d : Bool) → near d t ≡ near d u → Ordered t → Apart t u → (t ≡ u → ⊥) → ⊥
  ends_on d e o a differ = go d e (a (grid (far d t)) (one_pos 0) (own_far d t) (far_along d e)).1
    where
      go : (d : Bool) → near d t ≡ near d u → EndOf u (grid (far d t)) → ⊥
      go true e (left_end h) = ends_differ o (e ∙ at_eq u.left t.right h)
      go true e (right_end h) = differ (segment_eq e (sym (at_eq u.right t.right h)))
      go false e (left_end h) = differ (segment_eq (sym (at_eq u.left t.left h)) e)
      go false e (right_end h) = ends_differ o (sym (at_eq u.right t.left h) ∙ sym e)

-- ---- two segments seen from one point, neither of which turns left from the other

other_way : {t u : Segment} → Apart t u → Apart u t
other_way a p h x y = let w = a p h y x in (w.1, w.0)

swap : (a b c d : ℤ) → a *ℤ b -ℤ c *ℤ d ≡ pos 0 → d *ℤ c ≡ a *ℤ b
swap a b c d e =
    sub_zero_eq (d *ℤ c) (a *ℤ b) (solve (a ∷ b ∷ c ∷ d ∷ []) (var 0 :* var 1 :- var 3 :* var 2) (var 0 :* var 1 :- var 2 :* var 3) tt ∙ e)

commute : (a b : ℤ) → a *ℤ b ≡ b *ℤ a
commute a b = solve (a ∷ b ∷ []) (var 0 :* var 1) (var 1 :* var 0) tt

gap : (a b : ℤ) → Neg (a -ℤ b) → NonNeg (b -ℤ a)
gap a b h = pos_nonneg (subst Pos (solve (a ∷ b ∷ []) (opp (var 0 :- var 1)) (var 1 :- var 0) tt) (neg_pos h))

never : (d : Bool) (t u : Segment) → Ordered t → Ordered u → near d t ≡ near d u → Apart t u → (t ≡ u → ⊥) → turns t u ≡ pos 0 → ⊥
unfolding turns
never d t u (slanting h) (slanting k) e a differ z = go (half (run u -ℤ run t))
  where
    go : Half (run u -ℤ run t) → ⊥
    go (at_least_lem w) = ends_on t u (run u) (run t) k (pos_nonneg h) w (commute (run u) (run t)) (swap (run t) (rise u) (rise t) (run u) z) d e (slanting h) a differ
    go (under w) =
        ends_on u t (run t) (run u) h (pos_nonneg k) (gap (run u) (run t) w) (commute (run t) (run u))
        (sym (swap (run t) (rise u) (rise t) (run u) z)) d (sym e) (slanting k) (other_way a) (λ q. differ (sym q))
never d t u (slanting h) (upright f k) e a differ z = zero_pos (sym (ap (λ (w : ℤ). run t *ℤ rise u -ℤ rise t *ℤ w) f ∙ solve (run t ∷ rise u ∷ rise t ∷ []) (var 0 :* var 1 :- var 2 :* con (pos 0)) (var 0 :* var 1) tt) ∙ z) (pos_mul h k)
never d t u (upright f h) (slanting k) e a differ z =
    zero_pos (solve (run u ∷ rise t ∷ []) (var 1 :* var 0) (opp (con (pos 0) :- var 1 :* var 0)) tt ∙ ap neg_ℤ (solve (rise u ∷ rise t ∷ run u ∷ []) (con (pos 0) :- var 1 :* var 2) (con (pos 0) :* var 0 :- var 1 :* var 2) tt ∙ sym (ap (λ (w : ℤ). w *ℤ rise u -ℤ rise t *ℤ run u) f) ∙ z)) (pos_mul h k)
never d t u (upright f h) (upright g k) e a differ z = go (half (rise u -ℤ rise t))
  where
    flat : (m n : ℤ) {x y : ℤ} → x ≡ pos 0 → y ≡ pos 0 → m *ℤ x ≡ n *ℤ y
    flat m n p q = ap (λ (w : ℤ). m *ℤ w) p ∙ solve (m ∷ n ∷ []) (var 0 :* con (pos 0)) (var 1 :* con (pos 0)) tt ∙ sym (ap (λ (w : ℤ). n *ℤ w) q)

    go : Half (rise u -ℤ rise t) → ⊥
    go (at_least_lem w) = ends_on t u (rise u) (rise t) k (pos_nonneg h) w (flat (rise u) (rise t) f g) (commute (rise u) (rise t)) d e (upright f h) a differ
    go (under w) =
        ends_on u t (rise t) (rise u) h (pos_nonneg k) (gap (rise u) (rise t) w) (flat (rise t) (rise u) g f) (commute (rise t) (rise u)) d (sym e) (upright g k) (other_way a)
        (λ q. differ (sym q))

-- ---- the order of points is total

pub data Places (p q : Point) : Type 0 where
  earlier : T (before p q) → Places p q
  later : T (before q p) → Places p q
  same : p ≡ q → Places p q

back : (a b : ℤ) → Neg (b -ℤ a) → Pos (a -ℤ b)
back a b h = subst Pos (solve (a ∷ b ∷ []) (opp (var 1 :- var 0)) (var 0 :- var 1) tt) (neg_pos h)

back_zero : (a b : ℤ) → b -ℤ a ≡ pos 0 → a -ℤ b ≡ pos 0
back_zero a b e = solve (a ∷ b ∷ []) (var 0 :- var 1) (opp (var 1 :- var 0)) tt ∙ ap neg_ℤ e

by_x : (p q : Point) → Pos (q.x -ℤ p.x) → T (before p q)
unfolding before
by_x p q h = or_left (lt_z p.x q.x) (eq_z p.x q.x && lt_z p.y q.y) (pos_lt_z p.x q.x h)

by_y : (p q : Point) → q.x -ℤ p.x ≡ pos 0 → Pos (q.y -ℤ p.y) → T (before p q)
unfolding before
by_y p q e h =
    or_right (lt_z p.x q.x) (eq_z p.x q.x && lt_z p.y q.y)
    (and_make (eq_z p.x q.x) (lt_z p.y q.y) (zero_eq_z p.x q.x e) (pos_lt_z p.y q.y h))

pub places : (p q : Point) → Places p q
places p q = at_x (sign (q.x -ℤ p.x))
  where
    at_y : q.x -ℤ p.x ≡ pos 0 → Sign (q.y -ℤ p.y) → Places p q
    at_y e (minus h) = later (by_y q p (back_zero p.x q.x e) (back p.y q.y h))
    at_y e (nought f) = same (point_eq (sub_zero_eq p.x q.x e) (sub_zero_eq p.y q.y f))
    at_y e (plus h) = earlier (by_y p q e h)

    at_x : Sign (q.x -ℤ p.x) → Places p q
    at_x (minus h) = later (by_x q p (back p.x q.x h))
    at_x (nought e) = at_y e (sign (q.y -ℤ p.y))
    at_x (plus h) = earlier (by_x p q h)

-- ---- and so is that of halfsegments

by_point : (h k : Halfsegment) → T (before (dominating h) (dominating k)) → T (comes_before h k)
unfolding comes_before
by_point h k t = or_left (before (dominating h) (dominating k)) _ t

right_first : (t u : Segment) → dominating (half_of false t) ≡ dominating (half_of true u) → T (comes_before (half_of false t) (half_of true u))
unfolding comes_before
right_first t u e =
    or_right (before (dominating (half_of false t)) (dominating (half_of true u))) _
    (and_make (is_same_point (dominating (half_of false t)) (dominating (half_of true u))) true (subst (λ (p : Point). T (is_same_point (dominating (half_of false t)) p)) e (same_point_refl (dominating (half_of false t)))) tt)

one_side : (d : Bool) (t u : Segment)
    → comes_before (half_of d t) (half_of d u)
    ≡ before (dominating (half_of d t)) (dominating (half_of d u))
    || (is_same_point (dominating (half_of d t)) (dominating (half_of d u)) && lt_z (pos 0) (side (dominating (half_of d t)) (far_end (half_of d t)) (far_end (half_of d u))))
unfolding comes_before
one_side true t u = refl
one_side false t u = refl

by_turn : (d : Bool) (t u : Segment) → dominating (half_of d t) ≡ dominating (half_of d u) → Pos (turns t u) → T (comes_before (half_of d t) (half_of d u))
by_turn d t u e h =
    subst T (sym (one_side d t u))
    (or_right (before (dominating (half_of d t)) (dominating (half_of d u))) _
    (and_make (is_same_point (dominating (half_of d t)) (dominating (half_of d u))) (lt_z (pos 0) (side (dominating (half_of d t)) (far_end (half_of d t)) (far_end (half_of d u))))
    (subst (λ (p : Point). T (is_same_point (dominating (half_of d t)) p)) e (same_point_refl (dominating (half_of d t))))
    (pos_lt_z0 (side (dominating (half_of d t)) (far_end (half_of d t)) (far_end (half_of d u))) (subst Pos (sym (side_turns (half_of d t) (half_of d u) e refl)) h))))

-- one of two comes first by a test, or they are equal
pub data Compared {A : Type 0} (less : A → A → Bool) (a b : A) : Type 0 where
  first : T (less a b) → Compared less a b
  second : T (less b a) → Compared less a b
  equal : a ≡ b → Compared less a b

near_is : (d : Bool) (t u : Segment) → dominating (half_of d t) ≡ dominating (half_of d u) → near d t ≡ near d u
unfolding dominating
near_is d t u e = e

turns_back : (t u : Segment) → Neg (turns t u) → Pos (turns u t)
unfolding turns
turns_back t u h =
    subst Pos (solve (run t ∷ rise t ∷ run u ∷ rise u ∷ []) (opp (var 0 :* var 3 :- var 1 :* var 2)) (var 2 :* var 1 :- var 3 :* var 0) tt) (neg_pos h)

turned : (d : Bool) (t u : Segment) → Ordered t → Ordered u → (t ≡ u) ⊎ Apart t u → dominating (half_of d t) ≡ dominating (half_of d u) → Compared comes_before (half_of d t) (half_of d u)
turned d t u o p a e = ⊎_elim (λ q. equal (ap (half_of d) (same_segment_read t u q))) (λ n. go n (sign (turns t u))) (decide (is_same_segment t u))
  where
    differ : T (not (is_same_segment t u)) → t ≡ u → ⊥
    differ n q = T_not (is_same_segment t u) n (subst (λ (r : Segment). T (is_same_segment t r)) q (same_segment_refl t))

    go : T (not (is_same_segment t u)) → Sign (turns t u) → Compared comes_before (half_of d t) (half_of d u)
    go n (minus h) = second (by_turn d u t (sym e) (turns_back t u h))
    go n (nought z) = absurd (⊎_elim (differ n) (λ w. never d t u o p (near_is d t u e) w (differ n) z) a)
    go n (plus h) = first (by_turn d t u e h)

pub compare_halves : (h k : Halfsegment) → Ordered h.segment → Ordered k.segment → (h.segment ≡ k.segment) ⊎ Apart h.segment k.segment → Compared comes_before h k
compare_halves h k o p a = go h.is_left k.is_left (places (dominating (half_of h.is_left h.segment)) (dominating (half_of k.is_left k.segment)))
  where
    t : Segment
    t = h.segment

    u : Segment
    u = k.segment

    go : (c d : Bool) → Places (dominating (half_of c t)) (dominating (half_of d u)) → Compared comes_before (half_of c t) (half_of d u)
    go c d (earlier q) = first (by_point (half_of c t) (half_of d u) q)
    go c d (later q) = second (by_point (half_of d u) (half_of c t) q)
    go true true (same e) = turned true t u o p a e
    go true false (same e) = second (right_first u t (sym e))
    go false true (same e) = first (right_first t u e)
    go false false (same e) = turned false t u o p a e
