-- The touch test decides "share a point that is not an end of both" for unequal segments with ordered ends: they cross, or an end of one lies
-- strictly inside the other. On one line the ends are compared by the order of points, as steps that go forward by x, then y.
use mathlib.Core.Path.{◌≡◌, sym, ap, ap₂, ◌∙◌, subst, subst₂}
use mathlib.Core.Logic.{◌⊎◌, inl, inr, ⊎_elim}
use mathlib.Core.Bool.{Bool, true, false, not, ◌&&◌, ◌||◌, and_comm}
use mathlib.Core.List.{[], ◌∷◌}
use lib.Dec.{T, T_not, not_T}
use lib.IntN.{ℤ, pos, neg_ℤ, ◌+ℤ◌, ◌-ℤ◌, ◌*ℤ◌, *ℤ_comm}
use lib.Signed.{lt_z}
use Rattle.whole.proofs.Ring.{one-mul}
use Rattle.whole.proofs.Solver.{var, con, opp, ◌:+◌, ◌:-◌, ◌:*◌, solve}
use Rattle.whole.proofs.Balance.{eq_z_make}
use Rattle.whole.proofs.Sign.{Pos, NonNeg, Neg, Sign, minus, nought, plus, sign, Weak, weak_zero, weak_plus, weak, pos_nonneg, zero_nonneg, neg_pos, pos_neg, pos_clash, nonneg_clash, zero_pos, zero_neg, pos_add, pos_add_nonneg, nonneg_add_pos, sum_zero_left, sum_zero_right, pos_mul, pos_mul_neg, neg_mul_pos, neg_mul_neg, mul_zero_left, mul_zero_right, cancel_zero, cancel_pos, cancel_neg, eq_z_zero, sub_zero_eq, one_pos, lit_nonneg, lt_z0_pos, pos_lt_z0, lt_z0_neg, neg_lt_z0}
use Rattle.whole.proofs.Logic.{and_left, and_right, and_make, or_cases, or_left, or_right, decide}
use Rattle.plane.specs.declared.Point.{Point}
use Rattle.plane.specs.declared.Segment.{Segment}
use Rattle.plane.specs.Plane.{HPoint, grid, fractions, is_same_segment, side_at, is_at, on, is_end, SharePoint, opposite, cross, end_within, touch}
use Rattle.plane.proofs.Homogeneous.{◌⋆◌, triple, triple_eq, gridᵉ, det, side_at_det, side_grid, sideᵉ, side_atᵉ, left, right, first, second}
use Rattle.plane.proofs.OnSegment.{Ordered, slanting, upright, Between, Along, right_of_left, above_left, left_of_right, below_right, on_line, Away, over, beneath, leftward, rightward, short, past, on_or_away, along_on, on_along}
use Rattle.plane.proofs.Meeting.{Clear, aligned, path_over, path_under, ends_over, ends_under, Meets, between_swap, clear_or_meets}
use Rattle.plane.proofs.Equal.{both_equal, make_equal, point_eq, segment_eq, same_segment_read}
use Rattle.plane.proofs.Scale.{ScaleFree, side_at_scale, on_scale, is_end_scale, fractions_pos, as_fractions, at_fractions}

-- ---- points at a grid point, which are its multiples

pub is_at_read : (e : Point) (p : HPoint) → T (is_at e p) → (e.x *ℤ p.W ≡ p.X) × (e.y *ℤ p.W ≡ p.Y)
unfolding is_at
is_at_read e p t = both_equal (e.x *ℤ p.W) p.X (e.y *ℤ p.W) p.Y t

pub is_at_make : (e : Point) (p : HPoint) → e.x *ℤ p.W ≡ p.X → e.y *ℤ p.W ≡ p.Y → T (is_at e p)
unfolding is_at
is_at_make e p f g = make_equal (e.x *ℤ p.W) p.X (e.y *ℤ p.W) p.Y f g

pub is_end_read : (s : Segment) (p : HPoint) → T (is_end s p) → T (is_at s.left p) ⊎ T (is_at s.right p)
unfolding is_end
is_end_read s p t = or_cases (is_at s.left p) (is_at s.right p) t

times_one : (z : ℤ) → z *ℤ pos 1 ≡ z
times_one z = *ℤ_comm z (pos 1) ∙ one-mul z

pub at_multiple : (e : Point) (p : HPoint) → T (is_at e p) → p ≡ p.W ⋆ grid e
at_multiple e p t =
    let r = is_at_read e p t in
    triple_eq (sym r.0 ∙ *ℤ_comm e.x p.W) (sym r.1 ∙ *ℤ_comm e.y p.W) (sym (times_one p.W))

-- so what does not depend on scale is the same there
pub at_grid {ℓ} : {A : Type ℓ} (f : HPoint → A) → ScaleFree f → (e : Point) (p : HPoint) → Pos p.W → T (is_at e p) → f p ≡ f (grid e)
at_grid f free e p h t = ap f (at_multiple e p t) ∙ free p.W h (grid e)

-- ---- steps that go forward, by x, then y

pub data Onward (x y : ℤ) : Type 0 where
  wide : Pos x → Onward x y
  tall : x ≡ pos 0 → Pos y → Onward x y

onward_add : {x y x' y' : ℤ} → Onward x y → Onward x' y' → Onward (x +ℤ x') (y +ℤ y')
onward_add (wide h) (wide k) = wide (pos_add h k)
onward_add (wide h) (tall e k) = wide (pos_add_nonneg h (zero_nonneg e))
onward_add (tall e h) (wide k) = wide (nonneg_add_pos (zero_nonneg e) k)
onward_add (tall e h) (tall f k) = tall (ap₂ ◌+ℤ◌ e f) (pos_add h k)

onward_times : {k x y : ℤ} → Pos k → Onward x y → Onward (k *ℤ x) (k *ℤ y)
onward_times k (wide h) = wide (pos_mul k h)
onward_times {k = m} k (tall e h) = tall (mul_zero_right m e) (pos_mul k h)

onward_cancel : (k x y : ℤ) → Pos k → Onward (k *ℤ x) (k *ℤ y) → Onward x y
onward_cancel k x y h (wide p) = wide (cancel_pos h p)
onward_cancel k x y h (tall e p) = tall (cancel_zero h e) (cancel_pos h p)

onward_x : {x y : ℤ} → Onward x y → NonNeg x
onward_x (wide h) = pos_nonneg h
onward_x (tall e h) = zero_nonneg e

onward_y : {x y : ℤ} → x ≡ pos 0 → Onward x y → NonNeg y
onward_y e (wide h) = zero_pos e h
onward_y e (tall f h) = pos_nonneg h

onward_moves {ℓ} : {A : Type ℓ} {x y : ℤ} → x ≡ pos 0 → y ≡ pos 0 → Onward x y → A
onward_moves e f (wide h) = zero_pos e h
onward_moves e f (tall g h) = zero_pos f h

-- from one grid point to another, from e to p, and from p to e
abbrev pub Step : Point → Point → Type 0
Step e f = Onward (f.x -ℤ e.x) (f.y -ℤ e.y)

abbrev After : Point → HPoint → Type 0
After e p = Onward (p.X -ℤ e.x *ℤ p.W) (p.Y -ℤ e.y *ℤ p.W)

abbrev Before : Point → HPoint → Type 0
Before e p = Onward (e.x *ℤ p.W -ℤ p.X) (e.y *ℤ p.W -ℤ p.Y)

ends_step : {s : Segment} → Ordered s → Step s.left s.right
ends_step (slanting h) = wide h
ends_step (upright e h) = tall e h

step_after : (e f : Point) → Step e f → After e (grid f)
step_after e f = subst₂ Onward (ap (λ z. f.x -ℤ z) (sym (times_one e.x))) (ap (λ z. f.y -ℤ z) (sym (times_one e.y)))

step_before : (e f : Point) → Step e f → Before f (grid e)
step_before e f = subst₂ Onward (ap (λ z. z -ℤ e.x) (sym (times_one f.x))) (ap (λ z. z -ℤ e.y) (sym (times_one f.y)))

-- from e to p to f
step_through : (e f : Point) (p : HPoint) → Pos p.W → After e p → Before f p → Step e f
step_through e f p h a b =
    onward_cancel p.W (f.x -ℤ e.x) (f.y -ℤ e.y) h (subst₂ Onward (sum e.x f.x p.X) (sum e.y f.y p.Y) (onward_add a b))
  where
    sum : (e f z : ℤ) → (z -ℤ e *ℤ p.W) +ℤ (f *ℤ p.W -ℤ z) ≡ p.W *ℤ (f -ℤ e)
    sum e f z = solve (e ∷ f ∷ z ∷ p.W ∷ []) (var 2 :- var 0 :* var 3 :+ (var 1 :* var 3 :- var 2)) (var 3 :* (var 1 :- var 0)) tt

pub data Compare (e f : Point) : Type 0 where
  earlier : Step e f → Compare e f
  equal : e ≡ f → Compare e f
  later : Step f e → Compare e f

pub compare : (e f : Point) → Compare e f
compare e f = by_x (sign (f.x -ℤ e.x)) (sign (f.y -ℤ e.y))
  where
    turned : (a b : ℤ) → Neg (b -ℤ a) → Pos (a -ℤ b)
    turned a b h = subst Pos (solve (a ∷ b ∷ []) (opp (var 1 :- var 0)) (var 0 :- var 1) tt) (neg_pos h)

    turned_zero : (a b : ℤ) → b -ℤ a ≡ pos 0 → a -ℤ b ≡ pos 0
    turned_zero a b e = solve (a ∷ b ∷ []) (var 0 :- var 1) (opp (var 1 :- var 0)) tt ∙ ap neg_ℤ e

    by_x : Sign (f.x -ℤ e.x) → Sign (f.y -ℤ e.y) → Compare e f
    by_x (minus h) k = later (wide (turned e.x f.x h))
    by_x (plus h) k = earlier (wide h)
    by_x (nought h) (minus k) = later (tall (turned_zero e.x f.x h) (turned e.y f.y k))
    by_x (nought h) (plus k) = earlier (tall h k)
    by_x (nought h) (nought k) = equal (point_eq (sub_zero_eq e.x f.x h) (sub_zero_eq e.y f.y k))

-- ---- strictly inside a segment

-- a point of s that is no end of it: both weights are positive
pub inner_weights : (s : Segment) (p : HPoint) (h : Along s p) → T (not (is_end s p)) → Pos h.a × Pos h.b
unfolding is_end
inner_weights s p h n = (by_a (weak h.a_least), by_b (weak h.b_least))
  where
    width : ℤ
    width = s.right.x -ℤ s.left.x

    height : ℤ
    height = s.right.y -ℤ s.left.y

    none : {m z : ℤ} (w : ℤ) → m ≡ pos 0 → h.k *ℤ z ≡ m *ℤ w → z ≡ pos 0
    none w e f = cancel_zero h.k_pos (f ∙ mul_zero_left w e)

    at_left : h.b ≡ pos 0 → T (is_at s.left p)
    at_left e =
        is_at_make s.left p (sub_zero_eq (s.left.x *ℤ p.W) p.X (none width e (right_of_left s p h)))
        (sub_zero_eq (s.left.y *ℤ p.W) p.Y (none height e (above_left s p h)))

    at_right : h.a ≡ pos 0 → T (is_at s.right p)
    at_right e =
        is_at_make s.right p (sym (sub_zero_eq p.X (s.right.x *ℤ p.W) (none width e (left_of_right s p h))))
        (sym (sub_zero_eq p.Y (s.right.y *ℤ p.W) (none height e (below_right s p h))))

    by_a : Weak h.a → Pos h.a
    by_a (weak_plus k) = k
    by_a (weak_zero e) = absurd (T_not (is_end s p) n (or_right (is_at s.left p) (is_at s.right p) (at_right e)))

    by_b : Weak h.b → Pos h.b
    by_b (weak_plus k) = k
    by_b (weak_zero e) = absurd (T_not (is_end s p) n (or_left (is_at s.left p) (is_at s.right p) (at_left e)))

inner_after : (s : Segment) (p : HPoint) → Ordered s → (h : Along s p) → Pos h.b → After s.left p
inner_after s p o h b =
    onward_cancel h.k (p.X -ℤ s.left.x *ℤ p.W) (p.Y -ℤ s.left.y *ℤ p.W) h.k_pos
    (subst₂ Onward (sym (right_of_left s p h)) (sym (above_left s p h)) (onward_times b (ends_step o)))

inner_before : (s : Segment) (p : HPoint) → Ordered s → (h : Along s p) → Pos h.a → Before s.right p
inner_before s p o h a =
    onward_cancel h.k (s.right.x *ℤ p.W -ℤ p.X) (s.right.y *ℤ p.W -ℤ p.Y) h.k_pos
    (subst₂ Onward (sym (left_of_right s p h)) (sym (below_right s p h)) (onward_times a (ends_step o)))

-- a point of its line between the two ends is on it and no end
between_along : (s : Segment) (p : HPoint) → Ordered s → side_at s p ≡ pos 0 → After s.left p → Before s.right p → Along s p
between_along s p o z a b = ⊎_elim (λ h. h) off (on_or_away s o p)
  where
    -- in an upright segment
    split : s.right.x -ℤ s.left.x ≡ pos 0 → (p.X -ℤ s.left.x *ℤ p.W) +ℤ (s.right.x *ℤ p.W -ℤ p.X) ≡ pos 0
    split e =
        solve (s.left.x ∷ s.right.x ∷ p.X ∷ p.W ∷ []) (var 2 :- var 0 :* var 3 :+ (var 1 :* var 3 :- var 2)) ((var 1 :- var 0) :* var 3) tt
        ∙ mul_zero_left p.W e

    off : Away s p → Along s p
    off (over h) = zero_pos z h
    off (beneath h) = zero_neg z h
    off (leftward h) = nonneg_clash (onward_x a) h
    off (rightward h) = nonneg_clash (onward_x b) h
    off (short e h) = nonneg_clash (onward_y (sum_zero_left (onward_x a) (onward_x b) (split e)) a) h
    off (past e h) = nonneg_clash (onward_y (sum_zero_right (onward_x a) (onward_x b) (split e)) b) h

between_no_end : (s : Segment) (p : HPoint) → After s.left p → Before s.right p → T (not (is_end s p))
between_no_end s p a b = not_T (is_end s p) (λ t. ⊎_elim at_left at_right (is_end_read s p t))
  where
    no_step : (a b : ℤ) → a ≡ b → b -ℤ a ≡ pos 0
    no_step a b e = eq_z_zero a b (eq_z_make a b e)

    at_left : T (is_at s.left p) → ⊥
    at_left t =
        let r = is_at_read s.left p t in
        onward_moves (no_step (s.left.x *ℤ p.W) p.X r.0) (no_step (s.left.y *ℤ p.W) p.Y r.1) a

    at_right : T (is_at s.right p) → ⊥
    at_right t =
        let r = is_at_read s.right p t in
        onward_moves (no_step p.X (s.right.x *ℤ p.W) (sym r.0)) (no_step p.Y (s.right.y *ℤ p.W) (sym r.1)) b

end_within_lem : (s : Segment) → Ordered s → (e : Point) → side_at s (grid e) ≡ pos 0 → Step s.left e → Step e s.right → T (end_within s e)
unfolding end_within
end_within_lem s o e z a b =
    let a' = step_after s.left e a in
    let b' = step_before e s.right b in
    and_make (on s (grid e)) (not (is_end s (grid e))) (along_on s (grid e) o (between_along s (grid e) o z a' b')) (between_no_end s (grid e) a' b')

-- ---- opposite signs

pub data Opposite (a b : ℤ) : Type 0 where
  falls : Pos a → Neg b → Opposite a b
  rises : Neg a → Pos b → Opposite a b

opposite_read : (a b : ℤ) → T (opposite a b) → Opposite a b
unfolding opposite
opposite_read a b t = ⊎_elim up down (or_cases (lt_z a (pos 0) && lt_z (pos 0) b) (lt_z (pos 0) a && lt_z b (pos 0)) t)
  where
    up : T (lt_z a (pos 0) && lt_z (pos 0) b) → Opposite a b
    up h = rises (lt_z0_neg a (and_left (lt_z a (pos 0)) (lt_z (pos 0) b) h)) (lt_z0_pos b (and_right (lt_z a (pos 0)) (lt_z (pos 0) b) h))

    down : T (lt_z (pos 0) a && lt_z b (pos 0)) → Opposite a b
    down h = falls (lt_z0_pos a (and_left (lt_z (pos 0) a) (lt_z b (pos 0)) h)) (lt_z0_neg b (and_right (lt_z (pos 0) a) (lt_z b (pos 0)) h))

opposite_make : (a b : ℤ) → Opposite a b → T (opposite a b)
unfolding opposite
opposite_make a b (rises h k) =
    or_left (lt_z a (pos 0) && lt_z (pos 0) b) (lt_z (pos 0) a && lt_z b (pos 0)) (and_make (lt_z a (pos 0)) (lt_z (pos 0) b) (neg_lt_z0 a h) (pos_lt_z0 b k))
opposite_make a b (falls h k) =
    or_right (lt_z a (pos 0) && lt_z (pos 0) b) (lt_z (pos 0) a && lt_z b (pos 0)) (and_make (lt_z (pos 0) a) (lt_z b (pos 0)) (pos_lt_z0 a h) (neg_lt_z0 b k))

opposite_product : {a b : ℤ} → Opposite a b → Neg (a *ℤ b)
opposite_product (falls h k) = pos_mul_neg h k
opposite_product (rises h k) = neg_mul_pos h k

pub opposite_differ : {A : Type 0} {a b : ℤ} → Opposite a b → a ≡ b → A
opposite_differ (falls h k) e = pos_clash h (subst Neg (sym e) k)
opposite_differ (rises h k) e = pos_clash k (subst Neg e h)

-- a sum with positive weights that is zero
pub data Balance (a b : ℤ) : Type 0 where
  tipped : Opposite a b → Balance a b
  level : a ≡ pos 0 → b ≡ pos 0 → Balance a b

pub balance : {m n a b : ℤ} → Pos m → Pos n → m *ℤ a +ℤ n *ℤ b ≡ pos 0 → Balance a b
balance {m} {n} {a} {b} h k e = go (sign a)
  where
    rest : n *ℤ b ≡ neg_ℤ (m *ℤ a)
    rest =
        solve ((m *ℤ a) ∷ (n *ℤ b) ∷ []) (var 1) (var 0 :+ var 1 :- var 0) tt ∙ ap (λ z. z -ℤ m *ℤ a) e
        ∙ solve ((m *ℤ a) ∷ []) (con (pos 0) :- var 0) (opp (var 0)) tt

    go : Sign a → Balance a b
    go (minus p) = tipped (rises p (cancel_pos k (subst Pos (sym rest) (neg_pos (pos_mul_neg h p)))))
    go (nought p) = level p (cancel_zero k (rest ∙ ap neg_ℤ (mul_zero_right m p)))
    go (plus p) = tipped (falls p (cancel_neg k (subst Neg (sym rest) (pos_neg (pos_mul h p)))))

-- ---- side values along a segment

pub side_at_mean : (s : Segment) {u v p : HPoint} (h : Between u v p) → h.k *ℤ side_at s p ≡ h.a *ℤ side_at s u +ℤ h.b *ℤ side_at s v
unfolding side_at
side_at_mean s {u} {v} {p} h =
    sym (side_at_scale s h.k p) ∙ ap (side_at s) h.mean
    ∙ solve (s.left.x ∷ s.left.y ∷ s.right.x ∷ s.right.y ∷ u.X ∷ u.Y ∷ u.W ∷ v.X ∷ v.Y ∷ v.W ∷ h.a ∷ h.b ∷ [])
    (side_atᵉ (triple (var 10 :* var 4 :+ var 11 :* var 7) (var 10 :* var 5 :+ var 11 :* var 8) (var 10 :* var 6 :+ var 11 :* var 9)))
    (var 10 :* side_atᵉ first :+ var 11 :* side_atᵉ second)
    tt

-- the ends of t lie strictly on opposite sides of the line of s
abbrev pub Across : Segment → Segment → Type 0
Across s t = Opposite (side_at s (grid t.left)) (side_at s (grid t.right))

-- the side values of each segment's ends against the other differ by the same
pub sides_differ : (s t : Segment)
    → side_at s (grid t.right) -ℤ side_at s (grid t.left) ≡ side_at t (grid s.left) -ℤ side_at t (grid s.right)
unfolding side_at
sides_differ s t =
    solve (s.left.x ∷ s.left.y ∷ s.right.x ∷ s.right.y ∷ t.left.x ∷ t.left.y ∷ t.right.x ∷ t.right.y ∷ [])
    (side_atᵉ (gridᵉ (var 6) (var 7)) :- side_atᵉ (gridᵉ (var 4) (var 5)))
    (sideᵉ (var 4) (var 5) (var 6) (var 7) left :- sideᵉ (var 4) (var 5) (var 6) (var 7) right)
    tt

-- so where one segment is across the other's line, the other is not within its line
across_line : {A : Type 0} (s t : Segment) → Across s t → side_at t (grid s.left) ≡ pos 0 → side_at t (grid s.right) ≡ pos 0 → A
across_line s t a e f =
    opposite_differ a (sub_zero_eq (side_at s (grid t.left)) (side_at s (grid t.right)) (sides_differ s t ∙ ap₂ ◌-ℤ◌ e f))

cross_sides : (s t : Segment)
    → cross s t
    ≡ opposite (side_at s (grid t.left)) (side_at s (grid t.right)) && opposite (side_at t (grid s.left)) (side_at t (grid s.right))
unfolding cross
cross_sides s t = simp side_grid

pub cross_make : (s t : Segment) → Across s t → Across t s → T (cross s t)
cross_make s t a b =
    subst T (sym (cross_sides s t))
    (and_make (opposite (side_at s (grid t.left)) (side_at s (grid t.right))) (opposite (side_at t (grid s.left)) (side_at t (grid s.right)))
    (opposite_make (side_at s (grid t.left)) (side_at s (grid t.right)) a) (opposite_make (side_at t (grid s.left)) (side_at t (grid s.right)) b))

pub cross_read : (s t : Segment) → T (cross s t) → Across s t × Across t s
cross_read s t h = (
  opposite_read (side_at s (grid t.left)) (side_at s (grid t.right)) (and_left one other both),
  opposite_read (side_at t (grid s.left)) (side_at t (grid s.right)) (and_right one other both),
)
  where
    one : Bool
    one = opposite (side_at s (grid t.left)) (side_at s (grid t.right))

    other : Bool
    other = opposite (side_at t (grid s.left)) (side_at t (grid s.right))

    both : T (one && other)
    both = subst T (cross_sides s t) h

-- ---- the test, taken apart: they cross, or an end of t lies strictly inside s, or an end of s inside t

abbrev pub EndWithin : Segment → Segment → Type 0
EndWithin s t = T (end_within s t.left) ⊎ T (end_within s t.right)

abbrev pub Touching : Segment → Segment → Type 0
Touching s t = T (cross s t) ⊎ (EndWithin s t ⊎ EndWithin t s)

pub touch_read : (s t : Segment) → T (touch s t) → Touching s t
unfolding touch
touch_read s t h =
    first_of (cross s t) (end_within s t.left) (end_within s t.right) (end_within t s.left) (end_within t s.right)
    (and_right (not (is_same_segment s t)) (cross s t || end_within s t.left || end_within s t.right || end_within t s.left || end_within t s.right) h)
  where
    first_of : (x a b c d : Bool) → T (x || a || b || c || d) → T x ⊎ ((T a ⊎ T b) ⊎ (T c ⊎ T d))
    first_of true a b c d t = inl tt
    first_of false true b c d t = inr (inl (inl tt))
    first_of false false true c d t = inr (inl (inr tt))
    first_of false false false true d t = inr (inr (inl tt))
    first_of false false false false d t = inr (inr (inr t))

touch_make : (s t : Segment) → (s ≡ t → ⊥) → Touching s t → T (touch s t)
unfolding touch
touch_make s t n h =
    and_make (not (is_same_segment s t)) (cross s t || end_within s t.left || end_within s t.right || end_within t s.left || end_within t s.right)
    (not_T (is_same_segment s t) (λ e. n (same_segment_read s t e)))
    (any_of (cross s t) (end_within s t.left) (end_within s t.right) (end_within t s.left) (end_within t s.right) h)
  where
    any_of : (x a b c d : Bool) → T x ⊎ ((T a ⊎ T b) ⊎ (T c ⊎ T d)) → T (x || a || b || c || d)
    any_of x a b c d (inl h) = or_left (x || a || b || c) d (or_left (x || a || b) c (or_left (x || a) b (or_left x a h)))
    any_of x a b c d (inr (inl (inl h))) = or_left (x || a || b || c) d (or_left (x || a || b) c (or_left (x || a) b (or_right x a h)))
    any_of x a b c d (inr (inl (inr h))) = or_left (x || a || b || c) d (or_left (x || a || b) c (or_right (x || a) b h))
    any_of x a b c d (inr (inr (inl h))) = or_left (x || a || b || c) d (or_right (x || a || b) c h)
    any_of x a b c d (inr (inr (inr h))) = or_right (x || a || b || c) d h

-- ---- no touch, no common point but common ends

-- an end of s on t that is no end of t
end_on : (s t : Segment) (p : HPoint) → Ordered t → Pos p.W → T (is_end s p) → Along t p → T (not (is_end t p)) → EndWithin t s
unfolding end_within
end_on s t p o w e h n = ⊎_elim (λ k. inl (at s.left k)) (λ k. inr (at s.right k)) (is_end_read s p e)
  where
    at : (v : Point) → T (is_at v p) → T (end_within t v)
    at v k =
        subst T (at_grid (λ p. on t p && not (is_end t p)) (λ m g p. ap₂ (λ a b. a && not b) (on_scale t m g p) (is_end_scale t m g p)) v p w k)
        (and_make (on t p) (not (is_end t p)) (along_on t p o h) n)

-- strictly inside both
inside_both : (s t : Segment) (p : HPoint) → Ordered s → Ordered t → (s ≡ t → ⊥) → Pos p.W
    → Along s p → Along t p → T (not (is_end s p)) → T (not (is_end t p)) → Touching s t
inside_both s t p o u n w h k hn kn = go (sides s t h k kn) (sides t s k h hn)
  where
    sides : (s t : Segment) → Along s p → (k : Along t p) → T (not (is_end t p)) → Balance (side_at s (grid t.left)) (side_at s (grid t.right))
    sides s t h k n =
        let m = inner_weights t p k n in
        balance m.0 m.1 (sym (side_at_mean s k) ∙ mul_zero_right k.k (on_line s p h))

    -- through p
    to_right : Step s.left t.right
    to_right = step_through s.left t.right p w (inner_after s p o h (inner_weights s p h hn).1) (inner_before t p u k (inner_weights t p k kn).0)

    to_left : Step t.left s.right
    to_left = step_through t.left s.right p w (inner_after t p u k (inner_weights t p k kn).1) (inner_before s p o h (inner_weights s p h hn).0)

    go : Balance (side_at s (grid t.left)) (side_at s (grid t.right)) → Balance (side_at t (grid s.left)) (side_at t (grid s.right)) → Touching s t
    go (tipped a) (tipped b) = inl (cross_make s t a b)
    go (tipped a) (level e f) = across_line s t a e f
    go (level e f) (tipped b) = across_line t s b e f
    go (level e f) (level e' f') = on_one_line (compare s.left t.left) (compare s.right t.right)
      where
        on_one_line : Compare s.left t.left → Compare s.right t.right → Touching s t
        on_one_line (earlier c) d = inr (inl (inl (end_within_lem s o t.left e c to_left)))
        on_one_line (later c) d = inr (inr (inl (end_within_lem t u s.left e' c to_right)))
        on_one_line (equal c) (earlier d) = inr (inr (inr (end_within_lem t u s.right f' to_left d)))
        on_one_line (equal c) (later d) = inr (inl (inr (end_within_lem s o t.right f to_right d)))
        on_one_line (equal c) (equal d) = absurd (n (segment_eq c d))

touch_or_ends : (s t : Segment) → Ordered s → Ordered t → (s ≡ t → ⊥) → (p : HPoint) → Pos p.W
    → Along s p → Along t p → T (touch s t) ⊎ T (is_end s p && is_end t p)
touch_or_ends s t o u n p w h k = go (decide (is_end s p)) (decide (is_end t p))
  where
    go : T (is_end s p) ⊎ T (not (is_end s p)) → T (is_end t p) ⊎ T (not (is_end t p)) → T (touch s t) ⊎ T (is_end s p && is_end t p)
    go (inl a) (inl b) = inr (and_make (is_end s p) (is_end t p) a b)
    go (inl a) (inr b) = inl (touch_make s t n (inr (inr (end_on s t p u w a k b))))
    go (inr a) (inl b) = inl (touch_make s t n (inr (inl (end_on t s p o w b h a))))
    go (inr a) (inr b) = inl (touch_make s t n (inside_both s t p o u n w h k a b))

pub touch_free : {s t : Segment} → Ordered s → Ordered t → (s ≡ t → ⊥) → T (not (touch s t)) → (p : HPoint) → Pos p.W
    → Along s p → Along t p → T (is_end s p && is_end t p)
touch_free {s} {t} o u n f p w h k = ⊎_elim (λ a. absurd (T_not (touch s t) f a)) (λ a. a) (touch_or_ends s t o u n p w h k)

pub touch_complete : (s t : Segment) → Ordered s → Ordered t → (s ≡ t → ⊥) → SharePoint s t → T (touch s t)
touch_complete s t o u n m =
    ⊎_elim (λ a. a) (λ a. absurd (T_not (is_end s p && is_end t p) m.not_both_ends a))
    (touch_or_ends s t o u n p (fractions_pos m.shared) (on_along s p o m.on_one) (on_along t p u m.on_other))
  where
    p : HPoint
    p = fractions m.shared

-- ---- a touch is a shared point

-- a point strictly inside s and on t
share : (s t : Segment) (p : HPoint) → Ordered s → Ordered t → Pos p.W → Along s p → Along t p → T (not (is_end s p)) → SharePoint s t
share s t p o u w h k n =
    record {
      shared = (as_fractions p w).0;
      on_one = subst T (sym (at_fractions (on s) (on_scale s) p w)) (along_on s p o h);
      on_other = subst T (sym (at_fractions (on t) (on_scale t) p w)) (along_on t p u k);
      not_both_ends =
          subst T (sym (at_fractions (λ p. not (is_end s p && is_end t p)) free p w))
          (not_T (is_end s p && is_end t p) (λ b. T_not (is_end s p) n (and_left (is_end s p) (is_end t p) b)));
    }
  where
    free : ScaleFree (λ p. not (is_end s p && is_end t p))
    free m g p = ap₂ (λ a b. not (a && b)) (is_end_scale s m g p) (is_end_scale t m g p)

pub share_swap : {s t : Segment} → SharePoint s t → SharePoint t s
share_swap {s} {t} m =
    record {
      shared = m.shared;
      on_one = m.on_other;
      on_other = m.on_one;
      not_both_ends = subst (λ b. T (not b)) (and_comm (is_end s (fractions m.shared)) (is_end t (fractions m.shared))) m.not_both_ends;
    }

pub first_between : (u v : HPoint) → Between u v u
first_between u v =
    record {
      k = pos 1;
      a = pos 1;
      b = pos 0;
      k_pos = one_pos 0;
      a_least = lit_nonneg 1;
      b_least = lit_nonneg 0;
      mean = triple_eq (only u.X v.X) (only u.Y v.Y) (only u.W v.W);
    }
  where
    only : (a b : ℤ) → pos 1 *ℤ a ≡ pos 1 *ℤ a +ℤ pos 0 *ℤ b
    only a b = solve (a ∷ b ∷ []) (con (pos 1) :* var 0) (con (pos 1) :* var 0 :+ con (pos 0) :* var 1) tt

-- where they cross
pub cross_shares : (s t : Segment) → Ordered s → Ordered t → T (cross s t) → SharePoint s t
cross_shares s t o u h =
    ⊎_elim apart (λ m. share s t m.z o u m.z_pos m.on_segment m.on_path (no_end m))
    (clear_or_meets (grid t.left) (grid t.right) (one_pos 0) (one_pos 0) s)
  where
    over_s : Neg (side_at s (grid t.left) *ℤ side_at s (grid t.right))
    over_s = opposite_product (cross_read s t h).0

    over_t : Neg (side_at t (grid s.left) *ℤ side_at t (grid s.right))
    over_t = opposite_product (cross_read s t h).1

    det_t : Neg (det (grid t.left) (grid t.right) (grid s.left) *ℤ det (grid t.left) (grid t.right) (grid s.right))
    det_t = subst₂ (λ a b. Neg (a *ℤ b)) (side_at_det t (grid s.left)) (side_at_det t (grid s.right)) over_t

    apart : Clear (grid t.left) (grid t.right) s → SharePoint s t
    apart (aligned a b c d) = zero_neg (mul_zero_left (side_at s (grid t.right)) a) over_s
    apart (path_over a b) = pos_clash (pos_mul a b) over_s
    apart (path_under a b) = pos_clash (neg_mul_neg a b) over_s
    apart (ends_over a b) = pos_clash (pos_mul a b) det_t
    apart (ends_under a b) = pos_clash (neg_mul_neg a b) det_t

    -- at an end of s its side value against t would be zero
    no_end : (m : Meets (grid t.left) (grid t.right) s) → T (not (is_end s m.z))
    no_end m = not_T (is_end s m.z) (λ e. ⊎_elim at_left at_right (is_end_read s m.z e))
      where
        side_zero : (v : Point) → T (is_at v m.z) → side_at t (grid v) ≡ pos 0
        side_zero v a =
            cancel_zero m.z_pos
            (sym (side_at_scale t m.z.W (grid v)) ∙ sym (ap (side_at t) (at_multiple v m.z a)) ∙ on_line t m.z m.on_path)

        at_left : T (is_at s.left m.z) → ⊥
        at_left a = zero_neg (mul_zero_left (side_at t (grid s.right)) (side_zero s.left a)) over_t

        at_right : T (is_at s.right m.z) → ⊥
        at_right a = zero_neg (mul_zero_right (side_at t (grid s.left)) (side_zero s.right a)) over_t

-- an end of t strictly inside s
end_shares : (s t : Segment) (e : Point) → Ordered s → Ordered t → Along t (grid e) → T (end_within s e) → SharePoint s t
unfolding end_within
end_shares s t e o u k h =
    share s t (grid e) o u (one_pos 0) (on_along s (grid e) o (and_left (on s (grid e)) (not (is_end s (grid e))) h)) k
    (and_right (on s (grid e)) (not (is_end s (grid e))) h)

pub touch_sound : (s t : Segment) → Ordered s → Ordered t → T (touch s t) → SharePoint s t
touch_sound s t o u h = go (touch_read s t h)
  where
    ends : (s t : Segment) → Ordered s → Ordered t → EndWithin s t → SharePoint s t
    ends s t o u (inl h) = end_shares s t t.left o u (first_between (grid t.left) (grid t.right)) h
    ends s t o u (inr h) = end_shares s t t.right o u (between_swap (first_between (grid t.right) (grid t.left))) h

    go : Touching s t → SharePoint s t
    go (inl h) = cross_shares s t o u h
    go (inr (inl h)) = ends s t o u h
    go (inr (inr h)) = share_swap (ends t s u o h)
