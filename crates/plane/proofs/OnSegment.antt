-- A point on a segment, as the test of the specification and as a weighted mean of the two ends; and "away", its negation as strict
-- inequalities, which small steps preserve. Every point is on a segment or away from it.
use mathlib.Core.Path.{◌≡◌, sym, ap, ap₂, ◌∙◌, subst}
use mathlib.Core.Logic.{◌⊎◌, inl, inr, ⊎_elim}
use mathlib.Core.Bool.{false, ◌&&◌}
use mathlib.Core.List.{List, [], ◌∷◌}
use lib.Dec.{T}
use lib.IntN.{ℤ, pos, neg_ℤ, ◌+ℤ◌, ◌-ℤ◌, ◌*ℤ◌}
use lib.Signed.{lt_z, le_z}
use Rattle.whole.specs.Count.{eq_z}
use Rattle.whole.proofs.Solver.{var, con, opp, ◌:+◌, ◌:-◌, ◌:*◌, solve}
use Rattle.whole.proofs.Sign.{Pos, NonNeg, Neg, Sign, minus, nought, plus, sign, Weak, weak_zero, weak_plus, weak, Half, at_least_lem, under, half, pos_nonneg, zero_nonneg, nonneg_clash, zero_pos, zero_neg, pos_mul, nonneg_mul, mul_zero_left, mul_zero_right, cancel_zero, cancel_pos, cancel_nonneg, lt_z_pos, pos_lt_z, le_z_nonneg, nonneg_le_z, eq_z_zero, zero_eq_z, sub_zero_eq}
use Rattle.whole.proofs.Balance.{eq_z_read, eq_z_make}
use Rattle.whole.proofs.Logic.{and_left, and_right, and_make, or_cases, or_left, or_right, refute}
use Rattle.plane.specs.declared.Point.{Point}
use Rattle.plane.specs.declared.Segment.{Segment}
use Rattle.plane.specs.Plane.{HPoint, grid, side_at, before, ordered, is_not_before, is_not_after, on}
use Rattle.plane.proofs.Homogeneous.{◌⋆◌, ◌⊞◌, triple_eq, values₁, side_atᵉ, first}

-- ---- the order of a segment's ends

pub data Ordered (s : Segment) : Type 0 where
  slanting : Pos (s.right.x -ℤ s.left.x) → Ordered s
  upright : s.right.x -ℤ s.left.x ≡ pos 0 → Pos (s.right.y -ℤ s.left.y) → Ordered s

pub ordered_read : (s : Segment) → T (ordered s) → Ordered s
unfolding ordered before
ordered_read s t = ⊎_elim (λ h. slanting (lt_z_pos s.left.x s.right.x h)) down (or_cases (lt_z s.left.x s.right.x) (eq_z s.left.x s.right.x && lt_z s.left.y s.right.y) t)
  where
    down : T (eq_z s.left.x s.right.x && lt_z s.left.y s.right.y) → Ordered s
    down h =
        upright (eq_z_zero s.left.x s.right.x (and_left (eq_z s.left.x s.right.x) (lt_z s.left.y s.right.y) h))
        (lt_z_pos s.left.y s.right.y (and_right (eq_z s.left.x s.right.x) (lt_z s.left.y s.right.y) h))

pub width : {s : Segment} → Ordered s → NonNeg (s.right.x -ℤ s.left.x)
width (slanting h) = pos_nonneg h
width (upright e h) = zero_nonneg e

-- ---- weighted means

-- a positive multiple of p is a sum of multiples, not negative, of u and v
pub record Between (u v p : HPoint) : Type 0 where
  pub k : ℤ
  pub a : ℤ
  pub b : ℤ
  pub k_pos : Pos k
  pub a_least : NonNeg a
  pub b_least : NonNeg b
  pub mean : k ⋆ p ≡ a ⋆ u ⊞ b ⋆ v

abbrev pub Along : Segment → HPoint → Type 0
Along s p = Between (grid s.left) (grid s.right) p

-- how far p is from each end, times the multiple
module _ (s : Segment) (p : HPoint) (h : Along s p) where
  weights : List ℤ
  weights = s.left.x ∷ s.left.y ∷ s.right.x ∷ s.right.y ∷ p.X ∷ p.Y ∷ p.W ∷ h.k ∷ h.a ∷ h.b ∷ []

  -- k z ≡ c from the mean's equations in one coordinate and in W
  from_mean : {z z' w w' : ℤ} (e : ℤ) → z ≡ z' → w ≡ w' → z -ℤ e *ℤ w ≡ z' -ℤ e *ℤ w'
  from_mean e f g = ap₂ (λ m n. m -ℤ e *ℤ n) f g

  pub right_of_left : h.k *ℤ (p.X -ℤ s.left.x *ℤ p.W) ≡ h.b *ℤ (s.right.x -ℤ s.left.x)
  unfolding weights
  right_of_left =
      solve weights (var 7 :* (var 4 :- var 0 :* var 6)) (var 7 :* var 4 :- var 0 :* (var 7 :* var 6)) tt
      ∙ from_mean s.left.x (ap (λ q. q.X) h.mean) (ap (λ q. q.W) h.mean)
      ∙ solve weights (var 8 :* var 0 :+ var 9 :* var 2 :- var 0 :* (var 8 :* con (pos 1) :+ var 9 :* con (pos 1))) (var 9 :* (var 2 :- var 0)) tt

  pub above_left : h.k *ℤ (p.Y -ℤ s.left.y *ℤ p.W) ≡ h.b *ℤ (s.right.y -ℤ s.left.y)
  unfolding weights
  above_left =
      solve weights (var 7 :* (var 5 :- var 1 :* var 6)) (var 7 :* var 5 :- var 1 :* (var 7 :* var 6)) tt
      ∙ from_mean s.left.y (ap (λ q. q.Y) h.mean) (ap (λ q. q.W) h.mean)
      ∙ solve weights (var 8 :* var 1 :+ var 9 :* var 3 :- var 1 :* (var 8 :* con (pos 1) :+ var 9 :* con (pos 1))) (var 9 :* (var 3 :- var 1)) tt

  pub left_of_right : h.k *ℤ (s.right.x *ℤ p.W -ℤ p.X) ≡ h.a *ℤ (s.right.x -ℤ s.left.x)
  unfolding weights
  left_of_right =
      solve weights (var 7 :* (var 2 :* var 6 :- var 4)) (opp (var 7 :* var 4 :- var 2 :* (var 7 :* var 6))) tt
      ∙ ap neg_ℤ (from_mean s.right.x (ap (λ q. q.X) h.mean) (ap (λ q. q.W) h.mean))
      ∙ solve weights (opp (var 8 :* var 0 :+ var 9 :* var 2 :- var 2 :* (var 8 :* con (pos 1) :+ var 9 :* con (pos 1)))) (var 8 :* (var 2 :- var 0)) tt

  pub below_right : h.k *ℤ (s.right.y *ℤ p.W -ℤ p.Y) ≡ h.a *ℤ (s.right.y -ℤ s.left.y)
  unfolding weights
  below_right =
      solve weights (var 7 :* (var 3 :* var 6 :- var 5)) (opp (var 7 :* var 5 :- var 3 :* (var 7 :* var 6))) tt
      ∙ ap neg_ℤ (from_mean s.right.y (ap (λ q. q.Y) h.mean) (ap (λ q. q.W) h.mean))
      ∙ solve weights (opp (var 8 :* var 1 :+ var 9 :* var 3 :- var 3 :* (var 8 :* con (pos 1) :+ var 9 :* con (pos 1)))) (var 8 :* (var 3 :- var 1)) tt

  pub on_line : side_at s p ≡ pos 0
  unfolding side_at weights
  on_line =
      cancel_zero h.k_pos
      (solve weights (var 7 :* side_atᵉ first) ((var 2 :- var 0) :* (var 7 :* (var 5 :- var 1 :* var 6)) :- (var 3 :- var 1) :* (var 7 :* (var 4 :- var 0 :* var 6))) tt
      ∙ ap₂ (λ m n. (s.right.x -ℤ s.left.x) *ℤ m -ℤ (s.right.y -ℤ s.left.y) *ℤ n) above_left right_of_left
      ∙ solve weights ((var 2 :- var 0) :* (var 9 :* (var 3 :- var 1)) :- (var 3 :- var 1) :* (var 9 :* (var 2 :- var 0))) (con (pos 0)) tt)

-- ---- the test is the mean

-- by width and by height: the same two weights
mean_by_width : (s : Segment) (p : HPoint) → side_at s p ≡ pos 0 → Pos (s.right.x -ℤ s.left.x)
    → NonNeg (p.X -ℤ s.left.x *ℤ p.W) → NonNeg (s.right.x *ℤ p.W -ℤ p.X) → Along s p
unfolding side_at
mean_by_width s p e w l r =
    record {
      k = s.right.x -ℤ s.left.x;
      a = s.right.x *ℤ p.W -ℤ p.X;
      b = p.X -ℤ s.left.x *ℤ p.W;
      k_pos = w;
      a_least = r;
      b_least = l;
      mean =
          triple_eq
          (solve (values₁ s p) ((var 2 :- var 0) :* var 4) ((var 2 :* var 6 :- var 4) :* var 0 :+ (var 4 :- var 0 :* var 6) :* var 2) tt)
          (solve (values₁ s p) ((var 2 :- var 0) :* var 5) (side_atᵉ first :+ ((var 2 :* var 6 :- var 4) :* var 1 :+ (var 4 :- var 0 :* var 6) :* var 3)) tt
          ∙ ap (λ z. z +ℤ ((s.right.x *ℤ p.W -ℤ p.X) *ℤ s.left.y +ℤ (p.X -ℤ s.left.x *ℤ p.W) *ℤ s.right.y)) e
          ∙ solve (values₁ s p) (con (pos 0) :+ ((var 2 :* var 6 :- var 4) :* var 1 :+ (var 4 :- var 0 :* var 6) :* var 3)) ((var 2 :* var 6 :- var 4) :* var 1 :+ (var 4 :- var 0 :* var 6) :* var 3) tt)
          (solve (values₁ s p) ((var 2 :- var 0) :* var 6) ((var 2 :* var 6 :- var 4) :* con (pos 1) :+ (var 4 :- var 0 :* var 6) :* con (pos 1)) tt);
    }

mean_by_height : (s : Segment) (p : HPoint) → s.right.x -ℤ s.left.x ≡ pos 0 → Pos (s.right.y -ℤ s.left.y)
    → p.X -ℤ s.left.x *ℤ p.W ≡ pos 0 → NonNeg (p.Y -ℤ s.left.y *ℤ p.W) → NonNeg (s.right.y *ℤ p.W -ℤ p.Y) → Along s p
mean_by_height s p e w f l r =
    record {
      k = s.right.y -ℤ s.left.y;
      a = s.right.y *ℤ p.W -ℤ p.Y;
      b = p.Y -ℤ s.left.y *ℤ p.W;
      k_pos = w;
      a_least = r;
      b_least = l;
      mean =
          triple_eq
          (solve (values₁ s p) ((var 3 :- var 1) :* var 4) ((var 3 :- var 1) :* (var 4 :- var 0 :* var 6) :- (var 5 :- var 1 :* var 6) :* (var 2 :- var 0) :+ ((var 3 :* var 6 :- var 5) :* var 0 :+ (var 5 :- var 1 :* var 6) :* var 2)) tt
          ∙ ap₂ (λ m n. (s.right.y -ℤ s.left.y) *ℤ m -ℤ (p.Y -ℤ s.left.y *ℤ p.W) *ℤ n +ℤ ((s.right.y *ℤ p.W -ℤ p.Y) *ℤ s.left.x +ℤ (p.Y -ℤ s.left.y *ℤ p.W) *ℤ s.right.x)) f e
          ∙ solve (values₁ s p) ((var 3 :- var 1) :* con (pos 0) :- (var 5 :- var 1 :* var 6) :* con (pos 0) :+ ((var 3 :* var 6 :- var 5) :* var 0 :+ (var 5 :- var 1 :* var 6) :* var 2)) ((var 3 :* var 6 :- var 5) :* var 0 :+ (var 5 :- var 1 :* var 6) :* var 2) tt)
          (solve (values₁ s p) ((var 3 :- var 1) :* var 5) ((var 3 :* var 6 :- var 5) :* var 1 :+ (var 5 :- var 1 :* var 6) :* var 3) tt)
          (solve (values₁ s p) ((var 3 :- var 1) :* var 6) ((var 3 :* var 6 :- var 5) :* con (pos 1) :+ (var 5 :- var 1 :* var 6) :* con (pos 1)) tt);
    }

-- on an upright line x is the segment's
upright_x : (s : Segment) (p : HPoint) → s.right.x -ℤ s.left.x ≡ pos 0 → Pos (s.right.y -ℤ s.left.y) → side_at s p ≡ pos 0 → p.X -ℤ s.left.x *ℤ p.W ≡ pos 0
unfolding side_at
upright_x s p e w z =
    cancel_zero w
    (solve (values₁ s p) ((var 3 :- var 1) :* (var 4 :- var 0 :* var 6)) ((var 2 :- var 0) :* (var 5 :- var 1 :* var 6) :- side_atᵉ first) tt
    ∙ ap₂ (λ m n. m *ℤ (p.Y -ℤ s.left.y *ℤ p.W) -ℤ n) e z
    ∙ solve (values₁ s p) (con (pos 0) :* (var 5 :- var 1 :* var 6) :- con (pos 0)) (con (pos 0)) tt)

-- and the right end's x is the left end's
upright_right_x : (s : Segment) (p : HPoint) → s.right.x -ℤ s.left.x ≡ pos 0 → p.X -ℤ s.left.x *ℤ p.W ≡ pos 0 → s.right.x *ℤ p.W -ℤ p.X ≡ pos 0
upright_right_x s p e f =
    solve (values₁ s p) (var 2 :* var 6 :- var 4) ((var 2 :- var 0) :* var 6 :- (var 4 :- var 0 :* var 6)) tt
    ∙ ap₂ (λ m n. m *ℤ p.W -ℤ n) e f
    ∙ solve (values₁ s p) (con (pos 0) :* var 6 :- con (pos 0)) (con (pos 0)) tt

-- ---- on or away

pub data Away (s : Segment) (p : HPoint) : Type 0 where
  over : Pos (side_at s p) → Away s p
  beneath : Neg (side_at s p) → Away s p
  leftward : Neg (p.X -ℤ s.left.x *ℤ p.W) → Away s p
  rightward : Neg (s.right.x *ℤ p.W -ℤ p.X) → Away s p
  short : s.right.x -ℤ s.left.x ≡ pos 0 → Neg (p.Y -ℤ s.left.y *ℤ p.W) → Away s p
  past : s.right.x -ℤ s.left.x ≡ pos 0 → Neg (s.right.y *ℤ p.W -ℤ p.Y) → Away s p

pub on_or_away : (s : Segment) → Ordered s → (p : HPoint) → Along s p ⊎ Away s p
on_or_away s o p = by_side (sign (side_at s p)) o
  where
    by_width : side_at s p ≡ pos 0 → Pos (s.right.x -ℤ s.left.x) → Half (p.X -ℤ s.left.x *ℤ p.W) → Half (s.right.x *ℤ p.W -ℤ p.X) → Along s p ⊎ Away s p
    by_width e w (at_least_lem l) (at_least_lem r) = inl (mean_by_width s p e w l r)
    by_width e w (at_least_lem l) (under r) = inr (rightward r)
    by_width e w (under l) r = inr (leftward l)

    by_height : s.right.x -ℤ s.left.x ≡ pos 0 → Pos (s.right.y -ℤ s.left.y) → p.X -ℤ s.left.x *ℤ p.W ≡ pos 0 → Half (p.Y -ℤ s.left.y *ℤ p.W) → Half (s.right.y *ℤ p.W -ℤ p.Y) → Along s p ⊎ Away s p
    by_height e w f (at_least_lem l) (at_least_lem r) = inl (mean_by_height s p e w f l r)
    by_height e w f (at_least_lem l) (under r) = inr (past e r)
    by_height e w f (under l) r = inr (short e l)

    by_side : Sign (side_at s p) → Ordered s → Along s p ⊎ Away s p
    by_side (minus h) o = inr (beneath h)
    by_side (plus h) o = inr (over h)
    by_side (nought e) (slanting w) = by_width e w (half _) (half _)
    by_side (nought e) (upright f w) = by_height f w (upright_x s p f w e) (half _) (half _)

-- no point is both
pub on_away {ℓ} : {A : Type ℓ} (s : Segment) (p : HPoint) → Ordered s → Along s p → Away s p → A
on_away s p o h (over n) = zero_pos (on_line s p h) n
on_away s p o h (beneath n) = zero_neg (on_line s p h) n
on_away s p o h (leftward n) =
    nonneg_clash (cancel_nonneg h.k_pos (subst NonNeg (sym (right_of_left s p h)) (nonneg_mul h.b_least (width o)))) n
on_away s p o h (rightward n) =
    nonneg_clash (cancel_nonneg h.k_pos (subst NonNeg (sym (left_of_right s p h)) (nonneg_mul h.a_least (width o)))) n
on_away s p (slanting w) h (short e n) = zero_pos e w
on_away s p (slanting w) h (past e n) = zero_pos e w
on_away s p (upright f w) h (short e n) =
    nonneg_clash (cancel_nonneg h.k_pos (subst NonNeg (sym (above_left s p h)) (nonneg_mul h.b_least (pos_nonneg w)))) n
on_away s p (upright f w) h (past e n) =
    nonneg_clash (cancel_nonneg h.k_pos (subst NonNeg (sym (below_right s p h)) (nonneg_mul h.a_least (pos_nonneg w)))) n

-- ---- the specification's test

-- e ≤ p by x, then y, from the signs
not_before : (e : Point) (p : HPoint) → Pos (p.X -ℤ e.x *ℤ p.W) ⊎ ((p.X -ℤ e.x *ℤ p.W ≡ pos 0) × NonNeg (p.Y -ℤ e.y *ℤ p.W)) → T (is_not_before e p)
unfolding is_not_before
not_before e p (inl h) = or_left (lt_z (e.x *ℤ p.W) p.X) _ (pos_lt_z (e.x *ℤ p.W) p.X h)
not_before e p (inr h) =
    or_right (lt_z (e.x *ℤ p.W) p.X) _
    (and_make (eq_z (e.x *ℤ p.W) p.X) (le_z (e.y *ℤ p.W) p.Y) (zero_eq_z (e.x *ℤ p.W) p.X h.0) (nonneg_le_z (e.y *ℤ p.W) p.Y h.1))

not_after : (e : Point) (p : HPoint) → Pos (e.x *ℤ p.W -ℤ p.X) ⊎ ((e.x *ℤ p.W -ℤ p.X ≡ pos 0) × NonNeg (e.y *ℤ p.W -ℤ p.Y)) → T (is_not_after e p)
unfolding is_not_after
not_after e p (inl h) = or_left (lt_z p.X (e.x *ℤ p.W)) _ (pos_lt_z p.X (e.x *ℤ p.W) h)
not_after e p (inr h) =
    or_right (lt_z p.X (e.x *ℤ p.W)) _
    (and_make (eq_z (e.x *ℤ p.W) p.X) (le_z p.Y (e.y *ℤ p.W)) (eq_z_make (e.x *ℤ p.W) p.X (sym (sub_zero_eq p.X (e.x *ℤ p.W) h.0))) (nonneg_le_z p.Y (e.y *ℤ p.W) h.1))

pub along_on : (s : Segment) (p : HPoint) → Ordered s → Along s p → T (on s p)
unfolding on
along_on s p o h =
    and_make (eq_z (side_at s p) (pos 0) && is_not_before s.left p) (is_not_after s.right p)
    (and_make (eq_z (side_at s p) (pos 0)) (is_not_before s.left p) (eq_z_make (side_at s p) (pos 0) (on_line s p h)) (not_before s.left p (from_left o (weak h.b_least))))
    (not_after s.right p (to_right o (weak h.a_least)))
  where
    from_left : Ordered s → Weak h.b → Pos (p.X -ℤ s.left.x *ℤ p.W) ⊎ ((p.X -ℤ s.left.x *ℤ p.W ≡ pos 0) × NonNeg (p.Y -ℤ s.left.y *ℤ p.W))
    from_left (slanting w) (weak_plus b) = inl (cancel_pos h.k_pos (subst Pos (sym (right_of_left s p h)) (pos_mul b w)))
    from_left (slanting w) (weak_zero e) =
        inr (cancel_zero h.k_pos (right_of_left s p h ∙ mul_zero_left (s.right.x -ℤ s.left.x) e), zero_nonneg (cancel_zero h.k_pos (above_left s p h ∙ mul_zero_left (s.right.y -ℤ s.left.y) e)))
    from_left (upright e w) b =
        inr (cancel_zero h.k_pos (right_of_left s p h ∙ mul_zero_right h.b e), cancel_nonneg h.k_pos (subst NonNeg (sym (above_left s p h)) (nonneg_mul h.b_least (pos_nonneg w))))

    to_right : Ordered s → Weak h.a → Pos (s.right.x *ℤ p.W -ℤ p.X) ⊎ ((s.right.x *ℤ p.W -ℤ p.X ≡ pos 0) × NonNeg (s.right.y *ℤ p.W -ℤ p.Y))
    to_right (slanting w) (weak_plus a) = inl (cancel_pos h.k_pos (subst Pos (sym (left_of_right s p h)) (pos_mul a w)))
    to_right (slanting w) (weak_zero e) =
        inr (cancel_zero h.k_pos (left_of_right s p h ∙ mul_zero_left (s.right.x -ℤ s.left.x) e), zero_nonneg (cancel_zero h.k_pos (below_right s p h ∙ mul_zero_left (s.right.y -ℤ s.left.y) e)))
    to_right (upright e w) a =
        inr (cancel_zero h.k_pos (left_of_right s p h ∙ mul_zero_right h.a e), cancel_nonneg h.k_pos (subst NonNeg (sym (below_right s p h)) (nonneg_mul h.a_least (pos_nonneg w))))

-- and back
pub not_before_read : (e : Point) (p : HPoint) → T (is_not_before e p) → Pos (p.X -ℤ e.x *ℤ p.W) ⊎ ((p.X -ℤ e.x *ℤ p.W ≡ pos 0) × NonNeg (p.Y -ℤ e.y *ℤ p.W))
unfolding is_not_before
not_before_read e p t =
    ⊎_elim (λ h. inl (lt_z_pos (e.x *ℤ p.W) p.X h))
    (λ h. inr (eq_z_zero (e.x *ℤ p.W) p.X (and_left (eq_z (e.x *ℤ p.W) p.X) (le_z (e.y *ℤ p.W) p.Y) h), le_z_nonneg (e.y *ℤ p.W) p.Y (and_right (eq_z (e.x *ℤ p.W) p.X) (le_z (e.y *ℤ p.W) p.Y) h)))
    (or_cases (lt_z (e.x *ℤ p.W) p.X) (eq_z (e.x *ℤ p.W) p.X && le_z (e.y *ℤ p.W) p.Y) t)

pub not_after_read : (e : Point) (p : HPoint) → T (is_not_after e p) → Pos (e.x *ℤ p.W -ℤ p.X) ⊎ ((e.x *ℤ p.W -ℤ p.X ≡ pos 0) × NonNeg (e.y *ℤ p.W -ℤ p.Y))
unfolding is_not_after
not_after_read e p t =
    ⊎_elim (λ h. inl (lt_z_pos p.X (e.x *ℤ p.W) h))
    (λ h. inr (eq_z_zero p.X (e.x *ℤ p.W) (eq_z_make p.X (e.x *ℤ p.W) (sym (eq_z_read (e.x *ℤ p.W) p.X (and_left (eq_z (e.x *ℤ p.W) p.X) (le_z p.Y (e.y *ℤ p.W)) h)))), le_z_nonneg p.Y (e.y *ℤ p.W) (and_right (eq_z (e.x *ℤ p.W) p.X) (le_z p.Y (e.y *ℤ p.W)) h)))
    (or_cases (lt_z p.X (e.x *ℤ p.W)) (eq_z (e.x *ℤ p.W) p.X && le_z p.Y (e.y *ℤ p.W)) t)

pub on_along : (s : Segment) (p : HPoint) → Ordered s → T (on s p) → Along s p
unfolding on
on_along s p o t = go o
  where
    both : T (eq_z (side_at s p) (pos 0) && is_not_before s.left p)
    both = and_left (eq_z (side_at s p) (pos 0) && is_not_before s.left p) (is_not_after s.right p) t

    line : side_at s p ≡ pos 0
    line = eq_z_read (side_at s p) (pos 0) (and_left (eq_z (side_at s p) (pos 0)) (is_not_before s.left p) both)

    from_left : Pos (p.X -ℤ s.left.x *ℤ p.W) ⊎ ((p.X -ℤ s.left.x *ℤ p.W ≡ pos 0) × NonNeg (p.Y -ℤ s.left.y *ℤ p.W))
    from_left = not_before_read s.left p (and_right (eq_z (side_at s p) (pos 0)) (is_not_before s.left p) both)

    to_right : Pos (s.right.x *ℤ p.W -ℤ p.X) ⊎ ((s.right.x *ℤ p.W -ℤ p.X ≡ pos 0) × NonNeg (s.right.y *ℤ p.W -ℤ p.Y))
    to_right = not_after_read s.right p (and_right (eq_z (side_at s p) (pos 0) && is_not_before s.left p) (is_not_after s.right p) t)

    -- the x part alone, and the y part where x is settled
    weakly : {z y : ℤ} → Pos z ⊎ ((z ≡ pos 0) × NonNeg y) → NonNeg z
    weakly (inl h) = pos_nonneg h
    weakly (inr h) = zero_nonneg h.0

    then_y : {z y : ℤ} → z ≡ pos 0 → Pos z ⊎ ((z ≡ pos 0) × NonNeg y) → NonNeg y
    then_y e (inl h) = zero_pos e h
    then_y e (inr h) = h.1

    go : Ordered s → Along s p
    go (slanting w) = mean_by_width s p line w (weakly from_left) (weakly to_right)
    go (upright e w) =
        let f = upright_x s p e w line in
        mean_by_height s p e w f (then_y f from_left) (then_y (upright_right_x s p e f) to_right)

pub away_off : (s : Segment) (p : HPoint) → Ordered s → Away s p → on s p ≡ false
away_off s p o n = refute (on s p) (λ t. on_away s p o (on_along s p o t) n)
