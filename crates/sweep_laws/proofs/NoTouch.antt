-- Two segments that do not touch: one is the lower of the two at the left and at the right, or ends no later than the other begins. A point that
-- both pass through is then an end of both.
use mathlib.Core.Path.{◌≡◌, sym, ap, ap₂, ◌∙◌, subst}
use mathlib.Core.Logic.{◌⊎◌, inl, inr, ⊎_elim}
use mathlib.Core.Bool.{false, not, ◌&&◌, ◌||◌}
use mathlib.Core.List.{[], ◌∷◌}
use lib.Dec.{T, T_not}
use lib.IntN.{ℤ, pos, neg_ℤ, ◌+ℤ◌, ◌-ℤ◌, ◌*ℤ◌, +ℤ_comm}
use Rattle.whole.proofs.Solver.{var, con, opp, ◌:+◌, ◌:-◌, ◌:*◌, solve}
use Rattle.whole.specs.Count.{eq_z}
use Rattle.whole.proofs.Sign.{Pos, NonNeg, Neg, pos_of_neg, Half, at_least_lem, under, half, Weak, weak_zero, weak_plus, weak, zero_nonneg, pos_nonneg, neg_pos, zero_pos, pos_add, pos_add_nonneg, nonneg_add_pos, pos_mul, nonneg_mul, mul_zero_left, mul_zero_right, cancel_pos, cancel_zero, lt_z0_pos, lt_z0_neg}
use Rattle.whole.proofs.Logic.{and_left, and_right, and_make, or_cases, refute}
use Rattle.plane.specs.declared.Point.{Point}
use Rattle.plane.specs.declared.Segment.{Segment}
use Rattle.plane.specs.Plane.{HPoint, grid, fractions, before, is_same_point, ordered, side_at, is_not_before, is_not_after, on, is_end, SharePoint, touch}
use Rattle.plane.proofs.Homogeneous.{side_grid}
use Rattle.plane.proofs.OnSegment.{Ordered, slanting, upright, Along, right_of_left, above_left, left_of_right, below_right, on_line, on_along, not_before_read, not_after_read}
use Rattle.plane.proofs.Scale.{fractions_pos}
use Rattle.plane.proofs.Equal.{same_point_read}
use Rattle.plane.proofs.Means.{At, left_end, right_end, end_make}
use Rattle.plane.proofs.Touch.{side_at_mean, sides_differ, share_swap, touch_sound}
use Rattle.plane.proofs.Order.{ordered_make}
use Rattle.scene_segments.proofs.Parted.{left_line, right_line}
use Rattle.sweep_laws.specs.Lower.{passes_under, passes_over, lower_at_left, lower_at_right}

-- ---- a sum of two numbers with weights, not negative and not both zero, that is zero

record Balanced (x y : ℤ) : Type 0 where
  m : ℤ
  n : ℤ
  m_least : NonNeg m
  n_least : NonNeg n
  some : Pos (m +ℤ n)
  zero : m *ℤ x +ℤ n *ℤ y ≡ pos 0

other_way : {x y : ℤ} → Balanced x y → Balanced y x
other_way {x} {y} b =
    record {
      m = b.n;
      n = b.m;
      m_least = b.n_least;
      n_least = b.m_least;
      some = subst Pos (+ℤ_comm b.m b.n) b.some;
      zero = +ℤ_comm (b.n *ℤ y) (b.m *ℤ x) ∙ b.zero;
    }

module _ {x y : ℤ} (b : Balanced x y) where
  not_both : Pos x → Pos y → ⊥
  not_both h k = go (weak b.m_least) (weak b.n_least)
    where
      go : Weak b.m → Weak b.n → ⊥
      go (weak_zero e) (weak_zero f) = zero_pos (ap₂ ◌+ℤ◌ e f) b.some
      go (weak_zero e) (weak_plus n) = zero_pos b.zero (nonneg_add_pos (nonneg_mul b.m_least (pos_nonneg h)) (pos_mul n k))
      go (weak_plus m) w = zero_pos b.zero (pos_add_nonneg (pos_mul m h) (nonneg_mul b.n_least (pos_nonneg k)))

  then_not : Pos x → NonNeg (neg_ℤ y)
  then_not h = go (half (neg_ℤ y))
    where
      go : Half (neg_ℤ y) → NonNeg (neg_ℤ y)
      go (at_least_lem k) = k
      go (under k) = absurd (not_both h (pos_of_neg y k))

  -- where the second is zero, the first has no weight
  weightless : Pos x → y ≡ pos 0 → b.m ≡ pos 0
  weightless h e = go (weak b.m_least)
    where
      go : Weak b.m → b.m ≡ pos 0
      go (weak_zero f) = f
      go (weak_plus m) = zero_pos b.zero (pos_add_nonneg (pos_mul m h) (zero_nonneg (mul_zero_right b.n e)))

-- a fall and a rise are not the same
falls_rises : {x y x' y' : ℤ} → Balanced x y → Balanced x' y' → y -ℤ x ≡ y' -ℤ x' → Pos x → Pos y' → ⊥
falls_rises {x} {y} {x'} {y'} b c e h k =
    zero_pos
    (ap (λ z. x -ℤ y +ℤ z) (sym e) ∙ solve (x ∷ y ∷ []) (var 0 :- var 1 :+ (var 1 :- var 0)) (con (pos 0)) tt)
    (pos_add (pos_add_nonneg h (then_not b h)) (pos_add_nonneg k (then_not (other_way c) k)))

-- ---- a point of s with no weight on one end is at the other

back : (x y : ℤ) → y -ℤ x ≡ pos 0 → x -ℤ y ≡ pos 0
back x y e = solve (x ∷ y ∷ []) (var 0 :- var 1) (opp (var 1 :- var 0)) tt ∙ ap neg_ℤ e

module _ (s : Segment) (p : HPoint) (h : Along s p) where
  none : {c z : ℤ} (d : ℤ) → c ≡ pos 0 → h.k *ℤ z ≡ c *ℤ d → z ≡ pos 0
  none d e f = cancel_zero h.k_pos (f ∙ mul_zero_left d e)

  at_left_end : h.b ≡ pos 0 → At s.left p
  at_left_end e = record { at_x = none (s.right.x -ℤ s.left.x) e (right_of_left s p h); at_y = none (s.right.y -ℤ s.left.y) e (above_left s p h) }

  at_right_end : h.a ≡ pos 0 → At s.right p
  at_right_end e =
      record {
        at_x = back p.X (s.right.x *ℤ p.W) (none (s.right.x -ℤ s.left.x) e (left_of_right s p h));
        at_y = back p.Y (s.right.y *ℤ p.W) (none (s.right.y -ℤ s.left.y) e (below_right s p h));
      }

-- ---- the side values of the ends, where s and t pass through p

weights : {s : Segment} (p : HPoint) → Pos p.W → (h : Along s p) → Pos (h.a +ℤ h.b)
weights p w h =
    subst Pos (ap (λ q. q.W) h.mean ∙ solve (h.a ∷ h.b ∷ []) (var 0 :* con (pos 1) :+ var 1 :* con (pos 1)) (var 0 :+ var 1) tt)
    (pos_mul h.k_pos w)

ends_balanced : (s t : Segment) (p : HPoint) → Pos p.W → Along s p → Along t p → Balanced (side_at s (grid t.left)) (side_at s (grid t.right))
ends_balanced s t p w h k =
    record {
      m = k.a;
      n = k.b;
      m_least = k.a_least;
      n_least = k.b_least;
      some = weights p w k;
      zero = sym (side_at_mean s k) ∙ mul_zero_right k.k (on_line s p h);
    }

turned : {x y : ℤ} → Balanced x y → Balanced (neg_ℤ x) (neg_ℤ y)
turned {x} {y} b =
    record {
      m = b.m;
      n = b.n;
      m_least = b.m_least;
      n_least = b.n_least;
      some = b.some;
      zero =
          solve (b.m ∷ b.n ∷ x ∷ y ∷ []) (var 0 :* opp (var 2) :+ var 1 :* opp (var 3)) (opp (var 0 :* var 2 :+ var 1 :* var 3)) tt
          ∙ ap neg_ℤ b.zero;
    }

-- ---- lower at the left and at the right

under_read : (s : Segment) (c : Point) → T (passes_under s c) → Pos (side_at s (grid c))
under_read s c h = subst Pos (sym (side_grid s c)) (lt_z0_pos _ h)

over_read : (s : Segment) (c : Point) → T (passes_over s c) → Pos (neg_ℤ (side_at s (grid c)))
over_read s c h = neg_pos (subst Neg (sym (side_grid s c)) (lt_z0_neg _ h))

module _ (s t : Segment) where
  data AtLeft : Type 0 where
    left_above : Pos (side_at s (grid t.left)) → AtLeft
    left_below : Pos (neg_ℤ (side_at t (grid s.left))) → AtLeft
    begin_together : s.left ≡ t.left → Pos (side_at s (grid t.right)) → AtLeft

  data AtRight : Type 0 where
    right_above : Pos (side_at s (grid t.right)) → AtRight
    right_below : Pos (neg_ℤ (side_at t (grid s.right))) → AtRight
    end_together : s.right ≡ t.right → AtRight

  at_left_read : T (lower_at_left s t) → AtLeft
  at_left_read h =
      ⊎_elim (λ k. ⊎_elim (λ a. left_above (under_read s t.left a)) (λ a. left_below (over_read t s.left a)) (or_cases (passes_under s t.left) (passes_over t s.left) k))
      (λ k. begin_together (same_point_read s.left t.left (and_left (is_same_point s.left t.left) (passes_under s t.right) k)) (under_read s t.right (and_right (is_same_point s.left t.left) (passes_under s t.right) k)))
      (or_cases (passes_under s t.left || passes_over t s.left) (is_same_point s.left t.left && passes_under s t.right) h)

  at_right_read : T (lower_at_right s t) → AtRight
  at_right_read h =
      ⊎_elim (λ k. ⊎_elim (λ a. right_above (under_read s t.right a)) (λ a. right_below (over_read t s.right a)) (or_cases (passes_under s t.right) (passes_over t s.right) k))
      (λ k. end_together (same_point_read s.right t.right k))
      (or_cases (passes_under s t.right || passes_over t s.right) (is_same_point s.right t.right) h)

module _ (s t : Segment) (p : HPoint) (w : Pos p.W) (h : Along s p) (k : Along t p) (n : T (not (is_end s p && is_end t p))) where
  not_left : s.left ≡ t.left → At t.left p → ⊥
  not_left e a =
      T_not (is_end s p && is_end t p) n
      (and_make (is_end s p) (is_end t p) (end_make s p (left_end (subst (λ c. At c p) (sym e) a))) (end_make t p (left_end a)))

  not_right : s.right ≡ t.right → At t.right p → ⊥
  not_right e a =
      T_not (is_end s p && is_end t p) n
      (and_make (is_end s p) (is_end t p) (end_make s p (right_end (subst (λ c. At c p) (sym e) a))) (end_make t p (right_end a)))

  of_t : Balanced (side_at s (grid t.left)) (side_at s (grid t.right))
  of_t = ends_balanced s t p w h k

  of_s : Balanced (neg_ℤ (side_at t (grid s.left))) (neg_ℤ (side_at t (grid s.right)))
  of_s = turned (ends_balanced t s p w k h)

  same_turn : side_at s (grid t.right) -ℤ side_at s (grid t.left) ≡ neg_ℤ (side_at t (grid s.right)) -ℤ neg_ℤ (side_at t (grid s.left))
  same_turn =
      sides_differ s t
      ∙ solve (side_at t (grid s.left) ∷ side_at t (grid s.right) ∷ []) (var 0 :- var 1) (opp (var 1) :- opp (var 0)) tt

  lower_clash : AtLeft s t → AtRight s t → ⊥
  unfolding of_t of_s ends_balanced turned other_way
  lower_clash (left_above a) (right_above b) = not_both of_t a b
  lower_clash (left_above a) (right_below b) = falls_rises of_t of_s same_turn a b
  lower_clash (left_above a) (end_together e) =
      not_right e (at_right_end t p k (weightless of_t a (subst (λ c. side_at s (grid c) ≡ pos 0) e (right_line s))))
  lower_clash (left_below a) (right_above b) = falls_rises of_s of_t (sym same_turn) a b
  lower_clash (left_below a) (right_below b) = not_both of_s a b
  lower_clash (left_below a) (end_together e) =
      not_right e (subst (λ c. At c p) e (at_right_end s p h (weightless of_s a (ap neg_ℤ (subst (λ c. side_at t (grid c) ≡ pos 0) (sym e) (right_line t))))))
  lower_clash (begin_together e a) b =
      not_left e (at_left_end t p k (weightless (other_way of_t) a (subst (λ c. side_at s (grid c) ≡ pos 0) e (left_line s))))

-- ---- t ends no later than s begins

module _ (s t : Segment) (p : HPoint) (w : Pos p.W) (late : T (not (before s.left t.right))) (n : T (not (is_end s p && is_end t p))) where
  not_ordered : Ordered (record { left = s.left; right = t.right }) → ⊥
  unfolding ordered
  not_ordered o = T_not (before s.left t.right) late (ordered_make (record { left = s.left; right = t.right }) o)

  -- from s's left end to p to t's right end, in one coordinate
  way : (x c d : ℤ) → (x -ℤ c *ℤ p.W) +ℤ (d *ℤ p.W -ℤ x) ≡ p.W *ℤ (d -ℤ c)
  way x c d = solve (x ∷ c ∷ d ∷ p.W ∷ []) (var 0 :- var 1 :* var 3 :+ (var 2 :* var 3 :- var 0)) (var 3 :* (var 2 :- var 1)) tt

  far : (x c d : ℤ) → Pos ((x -ℤ c *ℤ p.W) +ℤ (d *ℤ p.W -ℤ x)) → Pos (d -ℤ c)
  far x c d h = cancel_pos w (subst Pos (way x c d) h)

  late_clash : Pos (p.X -ℤ s.left.x *ℤ p.W) ⊎ ((p.X -ℤ s.left.x *ℤ p.W ≡ pos 0) × NonNeg (p.Y -ℤ s.left.y *ℤ p.W))
      → Pos (t.right.x *ℤ p.W -ℤ p.X) ⊎ ((t.right.x *ℤ p.W -ℤ p.X ≡ pos 0) × NonNeg (t.right.y *ℤ p.W -ℤ p.Y)) → ⊥
  late_clash (inl a) (inl b) = not_ordered (slanting (far p.X s.left.x t.right.x (pos_add a b)))
  late_clash (inl a) (inr b) = not_ordered (slanting (far p.X s.left.x t.right.x (pos_add_nonneg a (zero_nonneg b.0))))
  late_clash (inr a) (inl b) = not_ordered (slanting (far p.X s.left.x t.right.x (nonneg_add_pos (zero_nonneg a.0) b)))
  late_clash (inr a) (inr b) = by_height (weak a.1) (weak b.1)
    where
      upwards : Pos ((p.Y -ℤ s.left.y *ℤ p.W) +ℤ (t.right.y *ℤ p.W -ℤ p.Y)) → ⊥
      upwards h =
          not_ordered
          (upright (cancel_zero w (sym (way p.X s.left.x t.right.x) ∙ ap₂ ◌+ℤ◌ a.0 b.0)) (far p.Y s.left.y t.right.y h))

      by_height : Weak (p.Y -ℤ s.left.y *ℤ p.W) → Weak (t.right.y *ℤ p.W -ℤ p.Y) → ⊥
      by_height (weak_plus c) d = upwards (pos_add_nonneg c b.1)
      by_height (weak_zero c) (weak_plus d) = upwards (nonneg_add_pos a.1 d)
      by_height (weak_zero c) (weak_zero d) =
          T_not (is_end s p && is_end t p) n
          (and_make (is_end s p) (is_end t p) (end_make s p (left_end (record { at_x = a.0; at_y = c }))) (end_make t p (right_end (record { at_x = back p.X (t.right.x *ℤ p.W) b.0; at_y = back p.Y (t.right.y *ℤ p.W) d }))))

-- ---- no touch, either way round

neither_touches : (s t : Segment) → Ordered s → Ordered t → (SharePoint s t → ⊥) → (touch s t ≡ false) × (touch t s ≡ false)
neither_touches s t o u none =
    (refute (touch s t) (λ h. none (touch_sound s t o u h)), refute (touch t s) (λ h. none (share_swap (touch_sound t s u o h))))

pub ordered_clear : (s t : Segment) → Ordered s → Ordered t → T (lower_at_left s t) → T (lower_at_right s t) → (touch s t ≡ false) × (touch t s ≡ false)
ordered_clear s t o u l r = neither_touches s t o u clash
  where
    clash : SharePoint s t → ⊥
    clash c =
        let p = fractions c.shared in
        lower_clash s t p (fractions_pos c.shared) (on_along s p o c.on_one) (on_along t p u c.on_other) c.not_both_ends (at_left_read s t l) (at_right_read s t r)

pub after_clear : (s t : Segment) → Ordered s → Ordered t → T (not (before s.left t.right)) → (touch s t ≡ false) × (touch t s ≡ false)
unfolding on
after_clear s t o u late = neither_touches s t o u clash
  where
    clash : SharePoint s t → ⊥
    clash c =
        let p = fractions c.shared in
        late_clash s t p (fractions_pos c.shared) late c.not_both_ends
        (not_before_read s.left p (and_right (eq_z (side_at s p) (pos 0)) (is_not_before s.left p) (and_left (eq_z (side_at s p) (pos 0) && is_not_before s.left p) (is_not_after s.right p) c.on_one)))
        (not_after_read t.right p (and_right (eq_z (side_at t p) (pos 0) && is_not_before t.left p) (is_not_after t.right p) c.on_other))
