-- The tests on homogeneous points at a grid point, and at a point held by its doubled coordinates: what they are as tests on whole points, which is
-- what the program computes.
use Prim.Native.Nat.{ℕ, zero, suc, ◌+◌, ◌*◌}
use native.Mathlib.Omega.{arith}
use mathlib.Core.Path.{◌≡◌, refl, sym, ap, ap₂, ◌∙◌}
use mathlib.Core.Bool.{Bool, true, false, not, ◌&&◌, ◌||◌, or-false}
use borrow.Author.Tests.{ltb-true, ltb-false, lt-ltb, le-ltb, le-leb, lt-leb}
use lib.Dec.{leb, ltb}
use lib.IntN.{ℤ, pos, negsuc, neg_ℤ, one, ◌+ℤ◌, ◌-ℤ◌, ◌*ℤ◌, +ℤ_assoc, +ℤ_comm, neg_ℤ-+ℤ, *ℤ-one}
use lib.Signed.{lt_z, le_z}
use Rattle.whole.specs.Count.{eq_z}
use Rattle.plane.specs.declared.Point.{Point}
use Rattle.plane.specs.declared.Segment.{Segment}
use Rattle.plane.specs.Plane.{before, is_same_point, side, turn, grid, halved, side_at, is_at, is_not_before, is_not_after, on, is_end, counts_below, counts_below_left}
use Rattle.plane.proofs.Machine.{eq_z_false, eq_z_sym, eq_z_yes, eq_z_no, eq_z_true, lt_z_no, is_straight, straight_is}

-- ---- tests of order
leb_not : (a b : ℕ) → leb a b ≡ not (ltb b a)
leb_not a b = go (ltb b a) refl
  where
    go : (t : Bool) → ltb b a ≡ t → leb a b ≡ not t
    go true e = lt-leb a b (ltb-true b a e)
    go false e = le-leb a b (ltb-false b a e)

le_z_not : (a b : ℤ) → le_z a b ≡ not (lt_z b a)
le_z_not (pos a) (pos b) = leb_not a b
le_z_not (pos a) (negsuc b) = refl
le_z_not (negsuc a) (pos b) = refl
le_z_not (negsuc a) (negsuc b) = leb_not b a

ltb_other : (a b : ℕ) → (a ≡ b → ⊥) → ltb a b ≡ not (ltb b a)
ltb_other a b h = go (ltb b a) refl
  where
    go : (t : Bool) → ltb b a ≡ t → ltb a b ≡ not t
    go true e = le-ltb a b (omega (arith, ltb-true b a e))
    go false e = lt-ltb a b (omega (arith, ltb-false b a e, h))

lt_z_other : (a b : ℤ) → (a ≡ b → ⊥) → lt_z a b ≡ not (lt_z b a)
lt_z_other (pos a) (pos b) h = ltb_other a b (λ e. h (ap pos e))
lt_z_other (pos a) (negsuc b) h = refl
lt_z_other (negsuc a) (pos b) h = refl
lt_z_other (negsuc a) (negsuc b) h = ltb_other b a (λ e. h (ap negsuc (sym e)))

-- not after, as the order of points says it
weakly_before : Point → Point → Bool
weakly_before p q = lt_z p.x q.x || (eq_z p.x q.x && le_z p.y q.y)

weakly_not : (p q : Point) → weakly_before p q ≡ not (before q p)
unfolding weakly_before before
weakly_not p q = go (eq_z p.x q.x) refl
  where
    go : (t : Bool) → eq_z p.x q.x ≡ t → weakly_before p q ≡ not (before q p)
    go true e =
        let same = eq_z_true p.x q.x e in
        rw (e, lt_z_no p.x q.x same, lt_z_no q.x p.x (sym same), eq_z_yes q.x p.x (sym same)) (le_z_not p.y q.y)
    go false e =
        let other = eq_z_false p.x q.x e in
        rw (e, eq_z_no q.x p.x (λ s. other (sym s)), or-false (lt_z p.x q.x), or-false (lt_z q.x p.x)) (lt_z_other p.x q.x other)

-- ---- at a grid point
times_one : (z : ℤ) → z *ℤ pos 1 ≡ z
unfolding one
times_one = *ℤ-one

module _ (e p : Point) where
  pub at_grid : is_at e (grid p) ≡ is_same_point e p
  unfolding is_at is_same_point
  at_grid = rw (times_one e.x, times_one e.y)

  not_before_grid : is_not_before e (grid p) ≡ not (before p e)
  unfolding is_not_before weakly_before
  not_before_grid = rw (times_one e.x, times_one e.y) (weakly_not e p)

  not_after_grid : is_not_after e (grid p) ≡ not (before e p)
  unfolding is_not_after weakly_before
  not_after_grid = rw (times_one e.x, times_one e.y, eq_z_sym e.x p.x) (weakly_not p e)

module _ (s : Segment) (p : Point) where
  pub side_grid : side_at s (grid p) ≡ side s.left s.right p
  unfolding side_at side
  side_grid = rw (times_one s.left.x, times_one s.left.y)

  pub on_by_side :
      on s (grid p)
      ≡ (eq_z (side s.left s.right p) (pos 0) && not (before p s.left) && not (before s.right p))
  unfolding on
  on_by_side = rw (side_grid, not_before_grid s.left p, not_after_grid s.right p)

  pub on_grid :
      on s (grid p)
      ≡ (is_straight (turn s.left s.right p) && not (before p s.left) && not (before s.right p))
  unfolding turn
  on_grid = rw (on_by_side, straight_is (side s.left s.right p))

  pub end_grid : is_end s (grid p) ≡ (is_same_point s.left p || is_same_point s.right p)
  unfolding is_end
  end_grid = rw (at_grid s.left p, at_grid s.right p)

-- ---- at a point held by its doubled coordinates
times_two : (z : ℤ) → z *ℤ pos 2 ≡ z +ℤ z
times_two (pos n) = ap pos (omega arith)
times_two (negsuc n) = ap (λ (k : ℕ). neg_ℤ (pos k)) e
  where
    e : suc n * 2 ≡ suc (suc (n + n))
    e = omega arith

exchange : (a b c d : ℤ) → (a +ℤ b) +ℤ (c +ℤ d) ≡ (a +ℤ c) +ℤ (b +ℤ d)
exchange a b c d =
    +ℤ_assoc a b (c +ℤ d)
    ∙ ap (λ (z : ℤ). a +ℤ z) (sym (+ℤ_assoc b c d) ∙ ap (λ (z : ℤ). z +ℤ d) (+ℤ_comm b c) ∙ +ℤ_assoc c b d)
    ∙ sym (+ℤ_assoc a c (b +ℤ d))

double_difference : (a b : ℤ) → (a +ℤ a) -ℤ (b +ℤ b) ≡ (a -ℤ b) +ℤ (a -ℤ b)
double_difference a b = ap (λ (z : ℤ). (a +ℤ a) +ℤ z) (neg_ℤ-+ℤ b b) ∙ exchange a a (neg_ℤ b) (neg_ℤ b)

double_product : (u v : ℤ) → (u +ℤ u) *ℤ v ≡ u *ℤ v +ℤ u *ℤ v
double_product (pos a) (pos b) = ap pos (omega arith)
double_product (pos a) (negsuc b) = ap (λ (k : ℕ). neg_ℤ (pos k)) e ∙ neg_ℤ-+ℤ (pos (a * suc b)) (pos (a * suc b))
  where
    e : (a + a) * suc b ≡ a * suc b + a * suc b
    e = omega arith
double_product (negsuc a) (pos b) = ap (λ (k : ℕ). neg_ℤ (pos k)) e ∙ neg_ℤ-+ℤ (pos (suc a * b)) (pos (suc a * b))
  where
    e : suc (suc (a + a)) * b ≡ suc a * b + suc a * b
    e = omega arith
double_product (negsuc a) (negsuc b) = ap pos (omega arith)

double_above : (z : ℤ) → lt_z (pos 0) (z +ℤ z) ≡ lt_z (pos 0) z
double_above (pos zero) = refl
double_above (pos (suc n)) = lt-ltb 0 (suc n + suc n) (omega arith) ∙ sym (lt-ltb 0 (suc n) (omega arith))
double_above (negsuc n) = refl

side_double : (u v w z : ℤ) → lt_z (pos 0) ((u +ℤ u) *ℤ v -ℤ (w +ℤ w) *ℤ z) ≡ lt_z (pos 0) (u *ℤ v -ℤ w *ℤ z)
side_double u v w z =
    ap (lt_z (pos 0)) (ap₂ ◌-ℤ◌ (double_product u v) (double_product w z) ∙ double_difference (u *ℤ v) (w *ℤ z))
    ∙ double_above (u *ℤ v -ℤ w *ℤ z)

-- p is the grid point q, by doubled coordinates
pub record Doubled (q p : Point) : Type 0 where
  pub x_is : p.x ≡ q.x +ℤ q.x
  pub y_is : p.y ≡ q.y +ℤ q.y

module _ (s : Segment) (l r m : Point) (dl : Doubled s.left l) (dr : Doubled s.right r) where
  above_halved : lt_z (pos 0) (side_at s (halved m)) ≡ lt_z (pos 0) (side l r m)
  unfolding side_at side
  above_halved =
      rw (
        times_two s.left.x,
        times_two s.left.y,
        dl.x_is,
        dl.y_is,
        dr.x_is,
        dr.y_is,
        double_difference s.right.x s.left.x,
        double_difference s.right.y s.left.y,
      )
      (sym
      (side_double (s.right.x -ℤ s.left.x) (m.y -ℤ (s.left.y +ℤ s.left.y)) (s.right.y -ℤ s.left.y) (m.x -ℤ (s.left.x +ℤ s.left.x))))

  pub below_halved : counts_below (halved m) s ≡ (le_z l.x m.x && lt_z m.x r.x && lt_z (pos 0) (side l r m))
  unfolding counts_below
  below_halved = rw (above_halved, times_two s.left.x, times_two s.right.x, dl.x_is, dr.x_is)

  pub below_left_halved : counts_below_left (halved m) s ≡ (lt_z l.x m.x && le_z m.x r.x && lt_z (pos 0) (side l r m))
  unfolding counts_below_left
  below_left_halved = rw (above_halved, times_two s.left.x, times_two s.right.x, dl.x_is, dr.x_is)
