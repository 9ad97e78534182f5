-- The test `under` where the sweep knows the answer: for a segment that passes strictly under or over the beginning, that has ended before it, or
-- that begins after it.
use mathlib.Core.Path.{◌≡◌, sym, ap, ap₂, ◌∙◌, subst}
use mathlib.Core.Logic.{⊎_elim}
use mathlib.Core.Bool.{Bool, true, false, not, ◌&&◌, ◌||◌}
use mathlib.Core.List.{[], ◌∷◌}
use lib.Dec.{T, T_not}
use lib.IntN.{ℤ, pos, neg_ℤ, one, ◌-ℤ◌, ◌*ℤ◌, *ℤ-one}
use lib.Signed.{lt_z, le_z}
use Rattle.whole.specs.Count.{eq_z}
use Rattle.whole.proofs.Solver.{var, con, opp, ◌:-◌, ◌:*◌, solve}
use Rattle.whole.proofs.Sign.{Pos, NonNeg, zero_pos, zero_neg, nonneg_clash, nonneg_mul, nonneg_both, le_z_nonneg, nonneg_le_z, lt_z_le_z, lt_z0_pos, lt_z0_neg, neg_of_pos, pos_clash, zero_eq_z, sub_zero_eq}
use Rattle.whole.proofs.Logic.{and_left, and_right, or_cases, or_left, and_make, refute, decide}
use Rattle.plane.specs.declared.Point.{Point}
use Rattle.plane.specs.declared.Segment.{Segment}
use Rattle.plane.specs.Plane.{side, side_at, is_same_point, before, ordered, counts_below, grid}
use Rattle.plane.proofs.OnSegment.{Ordered, width}
use Rattle.plane.proofs.Equal.{point_eq, same_point_read}
use Rattle.plane.proofs.Grid.{side_grid}
use Rattle.sweep_laws.specs.Lower.{passes_under, passes_over, under}

-- ---- p is q or comes after it, by coordinates

abbrev pub NotBefore : Point → Point → Type 0
NotBefore p q = T (not (before p q))

not_less : (a b : ℤ) → T (not (lt_z a b)) → T (le_z b a)
not_less a b t = ⊎_elim (λ u. u) (λ u. absurd (T_not (lt_z a b) t (subst T (sym (lt_z_le_z a b)) u))) (decide (le_z b a))

neither : (a b : Bool) → T (not (a || b)) → T (not a) × T (not b)
neither true b t = absurd t
neither false b t = (tt, t)

pub after_x : (p q : Point) → NotBefore p q → NonNeg (p.x -ℤ q.x)
unfolding before
after_x p q t =
    le_z_nonneg q.x p.x (not_less p.x q.x (neither (lt_z p.x q.x) (eq_z p.x q.x && lt_z p.y q.y) t).0)

pub after_y : (p q : Point) → NotBefore p q → p.x ≡ q.x → NonNeg (p.y -ℤ q.y)
unfolding before
after_y p q t e =
    le_z_nonneg q.y p.y
    (not_less p.y q.y
    (rest (eq_z p.x q.x) (lt_z p.y q.y) (zero_eq_z p.x q.x (same p.x q.x e)) (neither (lt_z p.x q.x) (eq_z p.x q.x && lt_z p.y q.y) t).1))
  where
    same : (a b : ℤ) → a ≡ b → b -ℤ a ≡ pos 0
    same a b e = ap (λ z. b -ℤ z) e ∙ solve (b ∷ []) (var 0 :- var 0) (con (pos 0)) tt

    rest : (a b : Bool) → T a → T (not (a && b)) → T (not b)
    rest true b h t = t
    rest false b h t = absurd h

-- points neither of which comes before the other are one
pub not_before_both : (p q : Point) → NotBefore p q → NotBefore q p → p ≡ q
not_before_both p q h k = point_eq same_x (both p.y q.y (after_y p q h same_x) (after_y q p k (sym same_x)))
  where
    both : (a b : ℤ) → NonNeg (a -ℤ b) → NonNeg (b -ℤ a) → a ≡ b
    both a b m n = sub_zero_eq a b (nonneg_both n (subst NonNeg (solve (a ∷ b ∷ []) (var 0 :- var 1) (opp (var 1 :- var 0)) tt) m))

    same_x : p.x ≡ q.x
    same_x = both p.x q.x (after_x p q h) (after_x q p k)

-- ---- the side value at an end

module _ (s : Segment) where
  pub side_left : side s.left s.right s.left ≡ pos 0
  unfolding side
  side_left =
      solve (s.left.x ∷ s.left.y ∷ s.right.x ∷ s.right.y ∷ [])
      ((var 2 :- var 0) :* (var 1 :- var 1) :- (var 3 :- var 1) :* (var 0 :- var 0)) (con (pos 0)) tt

  pub side_right : side s.left s.right s.right ≡ pos 0
  unfolding side
  side_right =
      solve (s.left.x ∷ s.left.y ∷ s.right.x ∷ s.right.y ∷ [])
      ((var 2 :- var 0) :* (var 3 :- var 1) :- (var 3 :- var 1) :* (var 2 :- var 0)) (con (pos 0)) tt

-- of two turns at one point one is left, the other right
pub side_turned : (a b c : Point) → side a b c ≡ neg_ℤ (side a c b)
unfolding side
side_turned a b c =
    solve (a.x ∷ a.y ∷ b.x ∷ b.y ∷ c.x ∷ c.y ∷ [])
    ((var 2 :- var 0) :* (var 5 :- var 1) :- (var 3 :- var 1) :* (var 4 :- var 0))
    (opp ((var 4 :- var 0) :* (var 3 :- var 1) :- (var 5 :- var 1) :* (var 2 :- var 0)))
    tt

-- straight under an end, or at it, no point is strictly above the segment
below_left : (s : Segment) (p : Point) → Ordered s → p.x ≡ s.left.x → NonNeg (s.left.y -ℤ p.y) → Pos (side s.left s.right p) → ⊥
unfolding side
below_left s p o e h k =
    nonneg_clash (nonneg_mul (width o) h)
    (neg_of_pos ((s.right.x -ℤ s.left.x) *ℤ (s.left.y -ℤ p.y))
    (subst Pos (ap (λ x. (s.right.x -ℤ s.left.x) *ℤ (p.y -ℤ s.left.y) -ℤ (s.right.y -ℤ s.left.y) *ℤ (x -ℤ s.left.x)) e ∙ flat) k))
  where
    flat : (s.right.x -ℤ s.left.x) *ℤ (p.y -ℤ s.left.y) -ℤ (s.right.y -ℤ s.left.y) *ℤ (s.left.x -ℤ s.left.x) ≡ neg_ℤ ((s.right.x -ℤ s.left.x) *ℤ (s.left.y -ℤ p.y))
    flat =
        solve (s.left.x ∷ s.left.y ∷ s.right.x ∷ s.right.y ∷ p.y ∷ [])
        ((var 2 :- var 0) :* (var 4 :- var 1) :- (var 3 :- var 1) :* (var 0 :- var 0)) (opp ((var 2 :- var 0) :* (var 1 :- var 4))) tt

below_right : (s : Segment) (p : Point) → Ordered s → p.x ≡ s.right.x → NonNeg (s.right.y -ℤ p.y) → Pos (side s.left s.right p) → ⊥
unfolding side
below_right s p o e h k =
    nonneg_clash (nonneg_mul (width o) h)
    (neg_of_pos ((s.right.x -ℤ s.left.x) *ℤ (s.right.y -ℤ p.y))
    (subst Pos (ap (λ x. (s.right.x -ℤ s.left.x) *ℤ (p.y -ℤ s.left.y) -ℤ (s.right.y -ℤ s.left.y) *ℤ (x -ℤ s.left.x)) e ∙ flat) k))
  where
    flat : (s.right.x -ℤ s.left.x) *ℤ (p.y -ℤ s.left.y) -ℤ (s.right.y -ℤ s.left.y) *ℤ (s.right.x -ℤ s.left.x) ≡ neg_ℤ ((s.right.x -ℤ s.left.x) *ℤ (s.right.y -ℤ p.y))
    flat =
        solve (s.left.x ∷ s.left.y ∷ s.right.x ∷ s.right.y ∷ p.y ∷ [])
        ((var 2 :- var 0) :* (var 4 :- var 1) :- (var 3 :- var 1) :* (var 2 :- var 0)) (opp ((var 2 :- var 0) :* (var 3 :- var 4))) tt

-- ---- counting below a grid point

counts_grid : (p : Point) (t : Segment) → counts_below (grid p) t ≡ (le_z t.left.x p.x && lt_z p.x t.right.x && passes_under t p)
unfolding counts_below one
counts_grid p t =
    ap₂ (λ a b. le_z a p.x && lt_z p.x b && lt_z (pos 0) (side_at t (grid p))) (*ℤ-one t.left.x) (*ℤ-one t.right.x)
    ∙ ap (λ z. le_z t.left.x p.x && lt_z p.x t.right.x && lt_z (pos 0) z) (side_grid t p)

module _ (p : Point) (t : Segment) (h : T (counts_below (grid p) t)) where
  tests : T (le_z t.left.x p.x && lt_z p.x t.right.x && passes_under t p)
  tests = subst T (counts_grid p t) h

  range : T (le_z t.left.x p.x && lt_z p.x t.right.x)
  range = and_left (le_z t.left.x p.x && lt_z p.x t.right.x) (passes_under t p) tests

  counts_left : NonNeg (p.x -ℤ t.left.x)
  counts_left = le_z_nonneg t.left.x p.x (and_left (le_z t.left.x p.x) (lt_z p.x t.right.x) range)

  counts_right : T (before p t.right)
  unfolding before
  counts_right = or_left (lt_z p.x t.right.x) _ (and_right (le_z t.left.x p.x) (lt_z p.x t.right.x) range)

  pub counts_under : Pos (side t.left t.right p)
  counts_under = lt_z0_pos (side t.left t.right p) (and_right (le_z t.left.x p.x && lt_z p.x t.right.x) (passes_under t p) tests)

-- a segment between whose ends p comes, and that passes strictly under p
pub counts_make : (p : Point) (t : Segment) → Ordered t → NotBefore p t.left → NotBefore t.right p → T (passes_under t p) → T (counts_below (grid p) t)
counts_make p t o l r u =
    subst T (sym (counts_grid p t))
    (and_make (le_z t.left.x p.x && lt_z p.x t.right.x) (passes_under t p) (and_make (le_z t.left.x p.x) (lt_z p.x t.right.x) (nonneg_le_z t.left.x p.x (after_x p t.left l)) short) u)
  where
    at_right : T (not (lt_z p.x t.right.x)) → ⊥
    at_right n =
        below_right t p o same (after_y t.right p r (sym same)) (lt_z0_pos (side t.left t.right p) u)
      where
        same : p.x ≡ t.right.x
        same =
            sub_zero_eq p.x t.right.x
            (nonneg_both (after_x t.right p r)
            (subst NonNeg (solve (p.x ∷ t.right.x ∷ []) (var 0 :- var 1) (opp (var 1 :- var 0)) tt) (le_z_nonneg t.right.x p.x (not_less p.x t.right.x n))))

    short : T (lt_z p.x t.right.x)
    short = ⊎_elim (λ h. h) (λ n. absurd (at_right n)) (decide (lt_z p.x t.right.x))

-- one that has ended before p does not count below it, nor does one that begins after p
pub counts_ended : (p : Point) (t : Segment) → NotBefore p t.right → T (counts_below (grid p) t) → ⊥
counts_ended p t n h = T_not (before p t.right) n (counts_right p t h)

pub counts_later : (p : Point) (t : Segment) → Ordered t → NotBefore t.left p → T (counts_below (grid p) t) → ⊥
counts_later p t o n h = below_left t p o (sym same) (after_y t.left p n same) (counts_under p t h)
  where
    same : t.left.x ≡ p.x
    same =
        sub_zero_eq t.left.x p.x
        (nonneg_both (counts_left p t h)
        (subst NonNeg (solve (t.left.x ∷ p.x ∷ []) (var 0 :- var 1) (opp (var 1 :- var 0)) tt) (after_x t.left p n)))

-- ---- under the beginning of s

module _ (s t : Segment) where
  off : (T (counts_below (grid s.left) t) → ⊥) → (t.left ≡ s.left → T (passes_under t s.right) → ⊥) → under s t ≡ false
  off f g =
      refute (under s t)
      (λ h. ⊎_elim f (λ u. g (same_point_read t.left s.left (and_left (is_same_point t.left s.left) (passes_under t s.right) u)) (and_right (is_same_point t.left s.left) (passes_under t s.right) u)) (or_cases (counts_below (grid s.left) t) (is_same_point t.left s.left && passes_under t s.right) h))

  pub under_lower : Ordered t → NotBefore s.left t.left → NotBefore t.right s.left → T (passes_under t s.left) → T (under s t)
  under_lower o l r u =
      or_left (counts_below (grid s.left) t) (is_same_point t.left s.left && passes_under t s.right) (counts_make s.left t o l r u)

  pub under_over : T (passes_over t s.left) → under s t ≡ false
  under_over u =
      off (λ h. pos_clash (counts_under s.left t h) (lt_z0_neg (side t.left t.right s.left) u))
      (λ e h. zero_neg (ap (side t.left t.right) (sym e) ∙ side_left t) (lt_z0_neg (side t.left t.right s.left) u))

  pub under_ended : T (ordered t) → NotBefore s.left t.right → under s t ≡ false
  unfolding ordered
  under_ended o n =
      off (counts_ended s.left t n)
      (λ e h. T_not (before s.left t.right) n (subst (λ p. T (before p t.right)) e o))

  -- t begins where s does or later, and where it does, not under s
  pub under_later : Ordered t → NotBefore t.left s.left → (t.left ≡ s.left → T (passes_under t s.right) → ⊥) → under s t ≡ false
  under_later o n g = off (counts_later s.left t o n) g

pub under_itself : (s : Segment) → under s s ≡ false
under_itself s =
    off s s (λ h. zero_pos (side_left s) (counts_under s.left s h)) (λ e h. zero_pos (side_right s) (lt_z0_pos (side s.left s.right s.right) h))
