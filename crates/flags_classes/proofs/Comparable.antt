-- Of two unequal segments that share only common ends, one comes before the other in the order of left halfsegments: where they start at one point
-- and neither turns left from the other, the shorter would end on the longer.
use mathlib.Core.Path.{◌≡◌, refl, sym, ap, ap₂, subst, ◌∙◌}
use mathlib.Core.Logic.{◌⊎◌, ⊎_elim}
use mathlib.Core.Bool.{false, ◌&&◌, ◌||◌, true≢false}
use mathlib.Core.List.{List, [], ◌∷◌}
use lib.Dec.{T}
use lib.IntN.{ℤ, pos, neg_ℤ, ◌+ℤ◌, ◌-ℤ◌, ◌*ℤ◌}
use lib.Signed.{lt_z}
use Rattle.whole.specs.Count.{eq_z, ◌∈◌}
use Rattle.whole.proofs.Solver.{var, con, opp, ◌:+◌, ◌:-◌, ◌:*◌, solve}
use Rattle.whole.proofs.Sign.{Pos, NonNeg, Neg, pos_nonneg, neg_pos, one_pos, lit_nonneg, zero_pos, Sign, minus, nought, plus, sign, Half, at_least_lem, under, half, pos_mul, pos_lt_z, pos_lt_z0, zero_eq_z, sub_zero_eq}
use Rattle.whole.proofs.Logic.{and_make, or_left, or_right, true_is}
use Rattle.plane.specs.declared.Point.{Point}
use Rattle.plane.specs.declared.Segment.{Segment}
use Rattle.plane.specs.Plane.{grid, before, is_same_point, is_same_segment, ordered, side, dominating, far_end, comes_before}
use Rattle.plane.proofs.Homogeneous.{triple_eq}
use Rattle.plane.proofs.OnSegment.{Ordered, slanting, upright, Along, ordered_read}
use Rattle.plane.proofs.Means.{At, EndOf, left_end, right_end}
use Rattle.plane.proofs.Equal.{point_eq, same_point_refl, same_segment_refl}
use Rattle.plane.proofs.AlongSegment.{Apart}
use Rattle.plane.proofs.Accepted.{Across, AllOrdered}
use Rattle.plane.proofs.Order.{run, rise, turns, ends_differ, LeftBefore}
use Rattle.flags_classes.specs.Walked.{left_before}

-- ---- one segment that ends on another from the same point

at_eq : (e p : Point) → At e (grid p) → e ≡ p
at_eq e p h = point_eq (one e.x p.x h.at_x) (one e.y p.y h.at_y)
  where
    one : (a b : ℤ) → b -ℤ a *ℤ pos 1 ≡ pos 0 → a ≡ b
    one a b q = sub_zero_eq a b (solve (a ∷ b ∷ []) (var 1 :- var 0) (var 1 :- var 0 :* con (pos 1)) tt ∙ q)

right_along : (t : Segment) → Along t (grid t.right)
right_along t = record { k = pos 1; a = pos 0; b = pos 1; k_pos = one_pos 0; a_least = lit_nonneg 0; b_least = lit_nonneg 1; mean = triple_eq (at t.left.x t.right.x) (at t.left.y t.right.y) refl }
  where
    at : (x y : ℤ) → pos 1 *ℤ y ≡ pos 0 *ℤ x +ℤ pos 1 *ℤ y
    at x y = solve (x ∷ y ∷ []) (con (pos 1) :* var 1) (con (pos 0) :* var 0 :+ con (pos 1) :* var 1) tt

module _ (t u : Segment) (e : t.left ≡ u.left) (k b : ℤ) (kp : Pos k) (bp : NonNeg b) (most : NonNeg (k -ℤ b)) (ex : k *ℤ run t ≡ b *ℤ run u) (ey : k *ℤ rise t ≡ b *ℤ rise u) where
  ends_along : Along u (grid t.right)
  ends_along = record {
    k = k;
    a = k -ℤ b;
    b = b;
    k_pos = kp;
    a_least = most;
    b_least = bp;
    mean =
        triple_eq (at t.left.x t.right.x u.left.x u.right.x (ap (λ p. p.x) e) ex) (at t.left.y t.right.y u.left.y u.right.y (ap (λ p. p.y) e) ey)
        (solve (k ∷ b ∷ []) (var 0 :* con (pos 1)) ((var 0 :- var 1) :* con (pos 1) :+ var 1 :* con (pos 1)) tt);
  }
    where
      at : (c p d q : ℤ) → c ≡ d → k *ℤ (p -ℤ c) ≡ b *ℤ (q -ℤ d) → k *ℤ p ≡ (k -ℤ b) *ℤ d +ℤ b *ℤ q
      at c p d q f g =
          solve (k ∷ p ∷ c ∷ []) (var 0 :* var 1) (var 0 :* (var 1 :- var 2) :+ var 0 :* var 2) tt
          ∙ ap₂ (λ m n. m +ℤ k *ℤ n) g f
          ∙ solve (k ∷ b ∷ d ∷ q ∷ []) (var 1 :* (var 3 :- var 2) :+ var 0 :* var 2) ((var 0 :- var 1) :* var 2 :+ var 1 :* var 3) tt

  ends_on : Ordered t → Apart t u → (t ≡ u → ⊥) → ⊥
  ends_on o a differ = go (a (grid t.right) (one_pos 0) (right_along t) ends_along).1
    where
      go : EndOf u (grid t.right) → ⊥
      go (left_end h) = ends_differ o (e ∙ at_eq u.left t.right h)
      go (right_end h) = differ (ap₂ (λ (l r : Point). record { left = l; right = r }) e (sym (at_eq u.right t.right h)))

-- ---- two segments from one point, neither of which turns left from the other

other_way : {t u : Segment} → Apart t u → Apart u t
other_way a p h x y = let w = a p h y x in (w.1, w.0)

swap : (a b c d : ℤ) → a *ℤ b -ℤ c *ℤ d ≡ pos 0 → d *ℤ c ≡ a *ℤ b
swap a b c d e =
    sub_zero_eq (d *ℤ c) (a *ℤ b) (solve (a ∷ b ∷ c ∷ d ∷ []) (var 0 :* var 1 :- var 3 :* var 2) (var 0 :* var 1 :- var 2 :* var 3) tt ∙ e)

commute : (a b : ℤ) → a *ℤ b ≡ b *ℤ a
commute a b = solve (a ∷ b ∷ []) (var 0 :* var 1) (var 1 :* var 0) tt

gap : (a b : ℤ) → Neg (a -ℤ b) → NonNeg (b -ℤ a)
gap a b h = pos_nonneg (subst Pos (solve (a ∷ b ∷ []) (opp (var 0 :- var 1)) (var 1 :- var 0) tt) (neg_pos h))

never : (t u : Segment) → Ordered t → Ordered u → t.left ≡ u.left → Apart t u → (t ≡ u → ⊥) → turns t u ≡ pos 0 → ⊥
unfolding turns
never t u (slanting h) (slanting k) e a differ z = go (half (run u -ℤ run t))
  where
    go : Half (run u -ℤ run t) → ⊥
    go (at_least_lem w) = ends_on t u e (run u) (run t) k (pos_nonneg h) w (commute (run u) (run t)) (swap (run t) (rise u) (rise t) (run u) z) (slanting h) a differ
    go (under w) =
        ends_on u t (sym e) (run t) (run u) h (pos_nonneg k) (gap (run u) (run t) w) (commute (run t) (run u))
        (sym (swap (run t) (rise u) (rise t) (run u) z)) (slanting k) (other_way a) (λ q. differ (sym q))
never t u (slanting h) (upright f k) e a differ z = zero_pos (sym (ap (λ (w : ℤ). run t *ℤ rise u -ℤ rise t *ℤ w) f ∙ solve (run t ∷ rise u ∷ rise t ∷ []) (var 0 :* var 1 :- var 2 :* con (pos 0)) (var 0 :* var 1) tt) ∙ z) (pos_mul h k)
never t u (upright f h) (slanting k) e a differ z =
    zero_pos (solve (run u ∷ rise t ∷ []) (var 1 :* var 0) (opp (con (pos 0) :- var 1 :* var 0)) tt ∙ ap neg_ℤ (solve (rise u ∷ rise t ∷ run u ∷ []) (con (pos 0) :- var 1 :* var 2) (con (pos 0) :* var 0 :- var 1 :* var 2) tt ∙ sym (ap (λ (w : ℤ). w *ℤ rise u -ℤ rise t *ℤ run u) f) ∙ z)) (pos_mul h k)
never t u (upright f h) (upright g k) e a differ z = go (half (rise u -ℤ rise t))
  where
    flat : (m n : ℤ) {x y : ℤ} → x ≡ pos 0 → y ≡ pos 0 → m *ℤ x ≡ n *ℤ y
    flat m n p q = ap (λ (w : ℤ). m *ℤ w) p ∙ solve (m ∷ n ∷ []) (var 0 :* con (pos 0)) (var 1 :* con (pos 0)) tt ∙ sym (ap (λ (w : ℤ). n *ℤ w) q)

    go : Half (rise u -ℤ rise t) → ⊥
    go (at_least_lem w) = ends_on t u e (rise u) (rise t) k (pos_nonneg h) w (flat (rise u) (rise t) f g) (commute (rise u) (rise t)) (upright f h) a differ
    go (under w) =
        ends_on u t (sym e) (rise t) (rise u) h (pos_nonneg k) (gap (rise u) (rise t) w) (flat (rise t) (rise u) g f) (commute (rise t) (rise u)) (upright g k) (other_way a)
        (λ q. differ (sym q))

-- ---- the order of points is total

data Places (p q : Point) : Type 0 where
  earlier : T (before p q) → Places p q
  later : T (before q p) → Places p q
  same : p ≡ q → Places p q

back : (a b : ℤ) → Neg (b -ℤ a) → Pos (a -ℤ b)
back a b h = subst Pos (solve (a ∷ b ∷ []) (opp (var 1 :- var 0)) (var 0 :- var 1) tt) (neg_pos h)

back_zero : (a b : ℤ) → b -ℤ a ≡ pos 0 → a -ℤ b ≡ pos 0
back_zero a b e = solve (a ∷ b ∷ []) (var 0 :- var 1) (opp (var 1 :- var 0)) tt ∙ ap neg_ℤ e

by_x : (p q : Point) → Pos (q.x -ℤ p.x) → T (before p q)
unfolding before
by_x p q h = or_left (lt_z p.x q.x) (eq_z p.x q.x && lt_z p.y q.y) (pos_lt_z p.x q.x h)

by_y : (p q : Point) → q.x -ℤ p.x ≡ pos 0 → Pos (q.y -ℤ p.y) → T (before p q)
unfolding before
by_y p q e h =
    or_right (lt_z p.x q.x) (eq_z p.x q.x && lt_z p.y q.y)
    (and_make (eq_z p.x q.x) (lt_z p.y q.y) (zero_eq_z p.x q.x e) (pos_lt_z p.y q.y h))

places : (p q : Point) → Places p q
places p q = at_x (sign (q.x -ℤ p.x))
  where
    at_y : q.x -ℤ p.x ≡ pos 0 → Sign (q.y -ℤ p.y) → Places p q
    at_y e (minus h) = later (by_y q p (back_zero p.x q.x e) (back p.y q.y h))
    at_y e (nought f) = same (point_eq (sub_zero_eq p.x q.x e) (sub_zero_eq p.y q.y f))
    at_y e (plus h) = earlier (by_y p q e h)

    at_x : Sign (q.x -ℤ p.x) → Places p q
    at_x (minus h) = later (by_x q p (back p.x q.x h))
    at_x (nought e) = at_y e (sign (q.y -ℤ p.y))
    at_x (plus h) = earlier (by_x p q h)

-- ---- and so is that of left halfsegments

left_test_lem : (t u : Segment) → left_before t u ≡ before t.left u.left || (is_same_point t.left u.left && lt_z (pos 0) (side t.left t.right u.right))
unfolding comes_before dominating far_end
left_test_lem t u = refl

by_point : (t u : Segment) → T (before t.left u.left) → LeftBefore t u
by_point t u h =
    subst T (sym (left_test_lem t u))
    (or_left (before t.left u.left) (is_same_point t.left u.left && lt_z (pos 0) (side t.left t.right u.right)) h)

by_turn : (t u : Segment) → t.left ≡ u.left → Pos (turns t u) → LeftBefore t u
unfolding side turns
by_turn t u e h =
    subst T (sym (left_test_lem t u))
    (or_right (before t.left u.left) (is_same_point t.left u.left && lt_z (pos 0) (side t.left t.right u.right))
    (and_make (is_same_point t.left u.left) (lt_z (pos 0) (side t.left t.right u.right)) (subst (λ (p : Point). T (is_same_point t.left p)) e (same_point_refl t.left))
    (pos_lt_z0 (side t.left t.right u.right) (subst (λ (p : Point). Pos (run t *ℤ (u.right.y -ℤ p.y) -ℤ rise t *ℤ (u.right.x -ℤ p.x))) (sym e) h))))

compared : (t u : Segment) → T (ordered t) → T (ordered u) → (t ≡ u) ⊎ Apart t u → is_same_segment t u ≡ false → left_before t u ≡ false → LeftBefore u t
unfolding turns
compared t u o p a n b = at (places t.left u.left)
  where
    differ : t ≡ u → ⊥
    differ e = true≢false (sym (true_is (is_same_segment t u) (subst (λ (r : Segment). T (is_same_segment t r)) e (same_segment_refl t))) ∙ n)

    not_before : LeftBefore t u → ⊥
    not_before h = true≢false (sym (true_is (left_before t u) h) ∙ b)

    turned : t.left ≡ u.left → Sign (turns t u) → LeftBefore u t
    turned e (minus h) =
        by_turn u t (sym e)
        (subst Pos (solve (run t ∷ rise t ∷ run u ∷ rise u ∷ []) (opp (var 0 :* var 3 :- var 1 :* var 2)) (var 2 :* var 1 :- var 3 :* var 0) tt) (neg_pos h))
    turned e (nought z) = absurd (⊎_elim differ (λ w. never t u (ordered_read t o) (ordered_read u p) e w differ z) a)
    turned e (plus h) = absurd (not_before (by_turn t u e h))

    at : Places t.left u.left → LeftBefore u t
    at (earlier h) = absurd (not_before (by_point t u h))
    at (later h) = by_point u t h
    at (same e) = turned e (sign (turns t u))

-- of two unequal segments one comes before the other
abbrev pub Compare : List Segment → List Segment → Type 0
Compare F G = (t u : Segment) → t ∈ F → u ∈ G → is_same_segment t u ≡ false → left_before t u ≡ false → LeftBefore u t

pub compare_across : {F G : List Segment} → AllOrdered F → AllOrdered G → Across F G → Compare F G
compare_across o p a t u m k n b = compared t u (o t m) (p u k) (a t u m k) n b
