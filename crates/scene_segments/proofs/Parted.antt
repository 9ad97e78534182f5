-- Segments that do not touch: the boxes round them are apart; or both ends of one lie strictly on one side of the other's line, or one of
-- them is off it and the other is an end of both. And touching goes both ways.
use native.Mathlib.Omega.{arith}
use mathlib.Core.Path.{◌≡◌, sym, ap, ap₂, subst, ◌∙◌}
use mathlib.Core.Logic.{⊎_elim}
use mathlib.Core.Bool.{false, ◌&&◌}
use mathlib.Core.List.{[], ◌∷◌}
use lib.Dec.{T, T_not, le→leb}
use lib.IntN.{ℤ, pos, neg_ℤ, ◌+ℤ◌, ◌-ℤ◌, ◌*ℤ◌, +ℤ_invr}
use Rattle.whole.proofs.Solver.{var, con, opp, ◌:+◌, ◌:-◌, ◌:*◌, solve}
use Rattle.whole.proofs.Sign.{Pos, NonNeg, Neg, Sign, minus, nought, plus, sign, zero_nonneg, neg_pos, pos_neg, nonneg_clash, nonneg_add, nonneg_mul, pos_mul, mul_zero_left, mul_zero_right, cancel_zero, cancel_zero_right, cancel_nonneg, pos_lit, lit_pos, le_z_nonneg}
use Rattle.whole.proofs.Logic.{and_make, true_is, refute}
use Rattle.plane.specs.declared.Point.{Point}
use Rattle.plane.specs.declared.Segment.{Segment}
use Rattle.plane.specs.Plane.{HPoint, grid, fractions, is_same_segment, ordered, side, side_at, is_end, SharePoint, touch}
use Rattle.plane.proofs.Homogeneous.{side_grid}
use Rattle.plane.proofs.OnSegment.{ordered_read, width, Between, Along, on_line, on_along, right_of_left, above_left}
use Rattle.plane.proofs.Meeting.{between_swap}
use Rattle.plane.proofs.Equal.{same_point_read, same_segment_refl}
use Rattle.plane.proofs.Means.{At, EndOf, left_end, right_end, end_make}
use Rattle.plane.proofs.Scale.{fractions_pos}
use Rattle.plane.proofs.Touch.{is_end_read, side_at_mean, first_between, share_swap, touch_sound, touch_complete}
use Rattle.plane.proofs.Accepted.{is_at_grid}

above_one : (z : ℤ) → Pos z → NonNeg (z -ℤ pos 1)
above_one z h = let w = pos_lit z h in subst (λ z. NonNeg (z -ℤ pos 1)) w.2 (le_z_nonneg (pos 1) (pos w.0) (le→leb 1 w.0 w.1))

-- one coordinate, of points and of grid points
module _ (f : HPoint → ℤ) (g : Point → ℤ) (linear : (s : Segment) (p : HPoint) (h : Along s p) → h.k *ℤ f p ≡ h.a *ℤ g s.left +ℤ h.b *ℤ g s.right) where
  module _ (s : Segment) (p : HPoint) (h : Along s p) (c : ℤ) where
    at_most : NonNeg (c -ℤ g s.left) → NonNeg (c -ℤ g s.right) → NonNeg (c *ℤ p.W -ℤ f p)
    at_most l r = cancel_nonneg h.k_pos (subst NonNeg (sym mean) (nonneg_add (nonneg_mul h.a_least l) (nonneg_mul h.b_least r)))
      where
        mean : h.k *ℤ (c *ℤ p.W -ℤ f p) ≡ h.a *ℤ (c -ℤ g s.left) +ℤ h.b *ℤ (c -ℤ g s.right)
        mean =
            solve (h.k ∷ c ∷ p.W ∷ f p ∷ []) (var 0 :* (var 1 :* var 2 :- var 3)) (var 1 :* (var 0 :* var 2) :- var 0 :* var 3) tt
            ∙ ap₂ (λ m n. c *ℤ m -ℤ n) (ap (λ (q : HPoint). q.W) h.mean) (linear s p h)
            ∙ solve (h.a ∷ h.b ∷ c ∷ g s.left ∷ g s.right ∷ [])
            (var 2 :* (var 0 :* con (pos 1) :+ var 1 :* con (pos 1)) :- (var 0 :* var 3 :+ var 1 :* var 4))
            (var 0 :* (var 2 :- var 3) :+ var 1 :* (var 2 :- var 4))
            tt

    at_least_lem : NonNeg (g s.left -ℤ c) → NonNeg (g s.right -ℤ c) → NonNeg (f p -ℤ c *ℤ p.W)
    at_least_lem l r = cancel_nonneg h.k_pos (subst NonNeg (sym mean) (nonneg_add (nonneg_mul h.a_least l) (nonneg_mul h.b_least r)))
      where
        mean : h.k *ℤ (f p -ℤ c *ℤ p.W) ≡ h.a *ℤ (g s.left -ℤ c) +ℤ h.b *ℤ (g s.right -ℤ c)
        mean =
            solve (h.k ∷ c ∷ p.W ∷ f p ∷ []) (var 0 :* (var 3 :- var 1 :* var 2)) (var 0 :* var 3 :- var 1 :* (var 0 :* var 2)) tt
            ∙ ap₂ (λ m n. n -ℤ c *ℤ m) (ap (λ (q : HPoint). q.W) h.mean) (linear s p h)
            ∙ solve (h.a ∷ h.b ∷ c ∷ g s.left ∷ g s.right ∷ [])
            (var 0 :* var 3 :+ var 1 :* var 4 :- var 2 :* (var 0 :* con (pos 1) :+ var 1 :* con (pos 1)))
            (var 0 :* (var 3 :- var 2) :+ var 1 :* (var 4 :- var 2))
            tt

  -- t is at most c and u at least d, which is more
  parted : (t u : Segment) (c d : ℤ) → T (ordered t) → T (ordered u) → Pos (d -ℤ c)
      → NonNeg (c -ℤ g t.left) → NonNeg (c -ℤ g t.right) → NonNeg (g u.left -ℤ d) → NonNeg (g u.right -ℤ d) → SharePoint t u → ⊥
  parted t u c d o o' gap tl tr ul ur w =
      nonneg_clash (subst NonNeg sum (nonneg_add below above)) (pos_neg (pos_mul gap (fractions_pos w.shared)))
    where
      p : HPoint
      p = fractions w.shared

      below : NonNeg (c *ℤ p.W -ℤ f p)
      below = at_most t p (on_along t p (ordered_read t o) w.on_one) c tl tr

      above : NonNeg (f p -ℤ d *ℤ p.W)
      above = at_least_lem u p (on_along u p (ordered_read u o') w.on_other) d ul ur

      sum : (c *ℤ p.W -ℤ f p) +ℤ (f p -ℤ d *ℤ p.W) ≡ neg_ℤ ((d -ℤ c) *ℤ p.W)
      sum = solve (c ∷ d ∷ p.W ∷ f p ∷ []) ((var 0 :* var 2 :- var 3) :+ (var 3 :- var 1 :* var 2)) (opp ((var 1 :- var 0) :* var 2)) tt

  -- t is at 0, and both ends of u are above it
  one_side : (t u : Segment) → T (ordered t) → T (ordered u) → g t.left ≡ pos 0 → g t.right ≡ pos 0 → Pos (g u.left) → Pos (g u.right) → SharePoint t u → ⊥
  one_side t u o o' tl tr ul ur = parted t u (pos 0) (pos 1) o o' (lit_pos 1 (omega arith)) (none tl) (none tr) (above_one _ ul) (above_one _ ur)
    where
      none : {z : ℤ} → z ≡ pos 0 → NonNeg (pos 0 -ℤ z)
      none e = zero_nonneg (ap (λ z. pos 0 -ℤ z) e)

-- ---- by their boxes

module _ (t u : Segment) (o : T (ordered t)) (o' : T (ordered u)) where
  pub no_touch : (SharePoint t u → ⊥) → (touch t u ≡ false) × (touch u t ≡ false)
  no_touch none = (
    refute (touch t u) (λ h. none (touch_sound t u (ordered_read t o) (ordered_read u o') h)),
    refute (touch u t) (λ h. none (share_swap (touch_sound u t (ordered_read u o') (ordered_read t o) h))),
  )

  -- t's right end is left of u's left end
  pub parted_across : Pos (u.left.x -ℤ t.right.x) → (touch t u ≡ false) × (touch u t ≡ false)
  parted_across gap =
      no_touch
      (parted (λ q. q.X) (λ e. e.x) (λ s p h. ap (λ q. q.X) h.mean) t u t.right.x u.left.x o o' gap
      (width (ordered_read t o)) (zero_nonneg (+ℤ_invr t.right.x)) (zero_nonneg (+ℤ_invr u.left.x)) (width (ordered_read u o')))

  -- t is at most as high as c, and u at least as high as d, which is more
  pub parted_up : (c d : ℤ) → Pos (d -ℤ c)
      → NonNeg (c -ℤ t.left.y) → NonNeg (c -ℤ t.right.y) → NonNeg (u.left.y -ℤ d) → NonNeg (u.right.y -ℤ d) → (touch t u ≡ false) × (touch u t ≡ false)
  parted_up c d gap tl tr ul ur = no_touch (parted (λ q. q.Y) (λ e. e.y) (λ s p h. ap (λ q. q.Y) h.mean) t u c d o o' gap tl tr ul ur)

-- ---- by the line of one of them

pub left_line : (t : Segment) → side_at t (grid t.left) ≡ pos 0
left_line t = on_line t (grid t.left) (first_between (grid t.left) (grid t.right))

pub right_line : (t : Segment) → side_at t (grid t.right) ≡ pos 0
right_line t = on_line t (grid t.right) (between_swap (first_between (grid t.right) (grid t.left)))

-- e is an end of t
data IsEnd (t : Segment) (e : Point) : Type 0 where
  is_left_lem : t.left ≡ e → IsEnd t e
  is_right : t.right ≡ e → IsEnd t e

is_end_lem : (t : Segment) (e : Point) → T (is_end t (grid e)) → IsEnd t e
is_end_lem t e h =
    ⊎_elim (λ k. is_left_lem (same_point_read t.left e (subst T (is_at_grid t.left e) k))) (λ k. is_right (same_point_read t.right e (subst T (is_at_grid t.right e) k)))
    (is_end_read t (grid e) h)

-- a point of t between an end of t and a point off its line is that end
module _ (t : Segment) (p : HPoint) (h : Along t p) (e f : Point) (k : Between (grid e) (grid f) p) (end : IsEnd t e) (off : side_at t (grid f) ≡ pos 0 → ⊥) where
  at_line : IsEnd t e → side_at t (grid e) ≡ pos 0
  at_line (is_left_lem q) = subst (λ c. side_at t (grid c) ≡ pos 0) q (left_line t)
  at_line (is_right q) = subst (λ c. side_at t (grid c) ≡ pos 0) q (right_line t)

  no_weight : k.b ≡ pos 0
  no_weight = go (sign (side_at t (grid f)))
    where
      product : k.b *ℤ side_at t (grid f) ≡ pos 0
      product =
          solve ((k.a *ℤ side_at t (grid e)) ∷ (k.b *ℤ side_at t (grid f)) ∷ []) (var 1) (var 0 :+ var 1 :- var 0) tt
          ∙ ap₂ ◌-ℤ◌ (sym (side_at_mean t k) ∙ mul_zero_right k.k (on_line t p h)) (mul_zero_right k.a (at_line end))

      go : Sign (side_at t (grid f)) → k.b ≡ pos 0
      go (minus n) =
          cancel_zero_right (neg_pos n) (solve (k.b ∷ side_at t (grid f) ∷ []) (var 0 :* opp (var 1)) (opp (var 0 :* var 1)) tt ∙ ap neg_ℤ product)
      go (nought z) = absurd (off z)
      go (plus n) = cancel_zero_right n product

  at_end_lem : At e p
  at_end_lem =
      record {
        at_x = cancel_zero k.k_pos (right_of_left s p k ∙ mul_zero_left (f.x -ℤ e.x) no_weight);
        at_y = cancel_zero k.k_pos (above_left s p k ∙ mul_zero_left (f.y -ℤ e.y) no_weight);
      }
    where
      s : Segment
      s = record { left = e; right = f }

  end_of_t : EndOf t p
  end_of_t = go end
    where
      go : IsEnd t e → EndOf t p
      go (is_left_lem q) = left_end (subst (λ c. At c p) (sym q) at_end_lem)
      go (is_right q) = right_end (subst (λ c. At c p) (sym q) at_end_lem)

-- the ends of u by the line of t
pub data Beside (t u : Segment) : Type 0 where
  over : Pos (side t.left t.right u.left) → Pos (side t.left t.right u.right) → Beside t u
  under : Neg (side t.left t.right u.left) → Neg (side t.left t.right u.right) → Beside t u
  begins_at : T (is_end t (grid u.left)) → (side t.left t.right u.right ≡ pos 0 → ⊥) → Beside t u
  ends_at : T (is_end t (grid u.right)) → (side t.left t.right u.left ≡ pos 0 → ⊥) → Beside t u

pub beside_clear : (t u : Segment) → T (ordered t) → T (ordered u) → Beside t u → (touch t u ≡ false) × (touch u t ≡ false)
beside_clear t u o o' b = no_touch t u o o' (clash b)
  where
    both_ends : (w : SharePoint t u) → EndOf t (fractions w.shared) → EndOf u (fractions w.shared) → ⊥
    both_ends w h k = let p = fractions w.shared in T_not (is_end t p && is_end u p) w.not_both_ends (and_make (is_end t p) (is_end u p) (end_make t p h) (end_make u p k))

    turned : (s : Segment) (p : HPoint) (h : Along s p) → h.k *ℤ neg_ℤ (side_at t p) ≡ h.a *ℤ neg_ℤ (side_at t (grid s.left)) +ℤ h.b *ℤ neg_ℤ (side_at t (grid s.right))
    turned s p h =
        solve (h.k ∷ side_at t p ∷ []) (var 0 :* opp (var 1)) (opp (var 0 :* var 1)) tt ∙ ap neg_ℤ (side_at_mean t h)
        ∙ solve (h.a ∷ h.b ∷ side_at t (grid s.left) ∷ side_at t (grid s.right) ∷ []) (opp (var 0 :* var 2 :+ var 1 :* var 3)) (var 0 :* opp (var 2) :+ var 1 :* opp (var 3)) tt

    clash : Beside t u → SharePoint t u → ⊥
    clash (over l r) w =
        one_side (side_at t) (λ e. side_at t (grid e)) (λ s p h. side_at_mean t h) t u o o' (left_line t) (right_line t)
        (subst Pos (sym (side_grid t u.left)) l) (subst Pos (sym (side_grid t u.right)) r) w
    clash (under l r) w =
        one_side (λ p. neg_ℤ (side_at t p)) (λ e. neg_ℤ (side_at t (grid e))) turned t u o o' (ap neg_ℤ (left_line t)) (ap neg_ℤ (right_line t))
        (neg_pos (subst Neg (sym (side_grid t u.left)) l)) (neg_pos (subst Neg (sym (side_grid t u.right)) r)) w
    clash (begins_at e off) w =
        let p = fractions w.shared in
        let h = on_along t p (ordered_read t o) w.on_one in
        let k = on_along u p (ordered_read u o') w.on_other in
        let far : (side_at t (grid u.right) ≡ pos 0 → ⊥) = (λ z. off (sym (side_grid t u.right) ∙ z)) in
        both_ends w (end_of_t t p h u.left u.right k (is_end_lem t u.left e) far) (left_end (at_end_lem t p h u.left u.right k (is_end_lem t u.left e) far))
    clash (ends_at e off) w =
        let p = fractions w.shared in
        let h = on_along t p (ordered_read t o) w.on_one in
        let k = between_swap (on_along u p (ordered_read u o') w.on_other) in
        let far : (side_at t (grid u.left) ≡ pos 0 → ⊥) = (λ z. off (sym (side_grid t u.left) ∙ z)) in
        both_ends w (end_of_t t p h u.right u.left k (is_end_lem t u.right e) far) (right_end (at_end_lem t p h u.right u.left k (is_end_lem t u.right e) far))

-- ---- touching goes both ways, and nothing touches itself

pub touch_itself : (t : Segment) → touch t t ≡ false
unfolding touch
touch_itself t = rw (true_is (is_same_segment t t) (same_segment_refl t))

pub touch_swap : (t u : Segment) → T (ordered t) → T (ordered u) → T (touch t u) → T (touch u t)
touch_swap t u o o' h =
    touch_complete u t (ordered_read u o') (ordered_read t o) unequal (share_swap (touch_sound t u (ordered_read t o) (ordered_read u o') h))
  where
    unequal : u ≡ t → ⊥
    unequal e = subst T (ap (touch t) e ∙ touch_itself t) h
