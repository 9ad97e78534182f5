-- What does not depend on how a fraction is written (2/4 for 1/2): every test on points is the same at (X, Y, W) and at a positive multiple of it.
-- So fraction points with equal coordinates pass the same tests, and homogeneous points with W above zero are fraction points.
use Prim.Native.Nat.{ℕ, ◌+◌, ◌<◌}
use mathlib.Core.Path.{◌≡◌, refl, sym, ap, ap₂, ◌∙◌, subst}
use mathlib.Core.Logic.{◌↔◌}
use mathlib.Core.Bool.{Bool, not, ◌&&◌, ◌||◌}
use mathlib.Core.List.{List, [], ◌∷◌}
use lib.IntN.{ℤ, pos, ◌*ℤ◌, *ℤ_comm, *ℤ-zero}
use lib.Signed.{lt_z}
use Rattle.whole.specs.Count.{eq_z, odd, some, count, bit}
use Rattle.whole.proofs.Solver.{var, ◌:*◌, solve}
use Rattle.whole.proofs.Sign.{Pos, lt_z_times, le_z_times, eq_z_times, lit_pos, pos_lit, pos_mul}
use Rattle.plane.specs.declared.Point.{Point}
use Rattle.plane.specs.declared.Segment.{Segment}
use Rattle.plane.specs.Plane.{HPoint, Fraction, FractionPoint, fractions, side_at, is_at, is_not_before, is_not_after, on, is_end, counts_below, counts_below_left, is_on_some, inside, is_boundary, ends_at, Object, points, line, region, in_boundary, in_interior, in_exterior}
use Rattle.plane.proofs.Homogeneous.{◌⋆◌, triple_eq, triple, side_atᵉ, first}

-- f is the same at p and at every positive multiple of p
abbrev pub ScaleFree {ℓ} : {A : Type ℓ} → (HPoint → A) → Type ℓ
ScaleFree f = (k : ℤ) → Pos k → (p : HPoint) → f (k ⋆ p) ≡ f p

-- ---- the tests on one segment or point

pub side_at_scale : (s : Segment) (k : ℤ) (p : HPoint) → side_at s (k ⋆ p) ≡ k *ℤ side_at s p
unfolding side_at
side_at_scale s k p =
    solve (s.left.x ∷ s.left.y ∷ s.right.x ∷ s.right.y ∷ p.X ∷ p.Y ∷ p.W ∷ k ∷ [])
    (side_atᵉ (triple (var 7 :* var 4) (var 7 :* var 5) (var 7 :* var 6)))
    (var 7 :* side_atᵉ first)
    tt

-- so a test of c w against x does not see a common factor of w and x
factor_out : (k c w : ℤ) → c *ℤ (k *ℤ w) ≡ k *ℤ (c *ℤ w)
factor_out k c w = solve (c ∷ k ∷ w ∷ []) (var 0 :* (var 1 :* var 2)) (var 1 :* (var 0 :* var 2)) tt

-- nor does a test of the side value against zero
pub above_scale : (s : Segment) → ScaleFree (λ p. lt_z (pos 0) (side_at s p))
above_scale s k h p =
    ap₂ lt_z (sym (*ℤ-zero k)) (side_at_scale s k p) ∙ lt_z_times h (pos 0) (side_at s p)

pub line_scale : (s : Segment) → ScaleFree (λ p. eq_z (side_at s p) (pos 0))
line_scale s k h p = ap₂ eq_z (side_at_scale s k p) (sym (*ℤ-zero k)) ∙ eq_z_times h (side_at s p) (pos 0)

pub is_at_scale : (e : Point) → ScaleFree (is_at e)
unfolding is_at
is_at_scale e k h p = simp (factor_out k, eq_z_times h)

pub is_end_scale : (s : Segment) → ScaleFree (is_end s)
unfolding is_end
is_end_scale s k h p = ap₂ ◌||◌ (is_at_scale s.left k h p) (is_at_scale s.right k h p)

pub not_before_scale : (e : Point) → ScaleFree (is_not_before e)
unfolding is_not_before
not_before_scale e k h p = simp (factor_out k, eq_z_times h, lt_z_times h, le_z_times h)

pub not_after_scale : (e : Point) → ScaleFree (is_not_after e)
unfolding is_not_after
not_after_scale e k h p = simp (factor_out k, eq_z_times h, lt_z_times h, le_z_times h)

pub on_scale : (s : Segment) → ScaleFree (on s)
unfolding on
on_scale s k h p = ap₂ ◌&&◌ (ap₂ ◌&&◌ (line_scale s k h p) (not_before_scale s.left k h p)) (not_after_scale s.right k h p)

pub counts_below_scale : (s : Segment) → ScaleFree (λ p. counts_below p s)
unfolding counts_below
counts_below_scale s k h p = simp (factor_out k, lt_z_times h, le_z_times h, above_scale s k h p)

pub counts_below_left_scale : (s : Segment) → ScaleFree (λ p. counts_below_left p s)
unfolding counts_below_left
counts_below_left_scale s k h p = simp (factor_out k, lt_z_times h, le_z_times h, above_scale s k h p)

-- ---- over lists, and of objects

module _ {A : Type 0} (f : HPoint → A → Bool) (free : (a : A) → ScaleFree (λ p. f p a)) where
  pub some_scale : (l : List A) → ScaleFree (λ p. some (f p) l)
  some_scale [] k h p = refl
  some_scale (a ∷ l) k h p = ap₂ ◌||◌ (free a k h p) (some_scale l k h p)

  pub count_scale : (l : List A) → ScaleFree (λ p. count (f p) l)
  count_scale [] k h p = refl
  count_scale (a ∷ l) k h p = ap₂ (λ b n. bit b + n) (free a k h p) (count_scale l k h p)

pub on_some_scale : (l : List Segment) → ScaleFree (is_on_some l)
unfolding is_on_some
on_some_scale l = some_scale (λ p s. on s p) on_scale l

pub ends_at_scale : (l : List Segment) → ScaleFree (ends_at l)
unfolding ends_at
ends_at_scale l = count_scale (λ p s. is_end s p) is_end_scale l

pub inside_scale : (l : List Segment) → ScaleFree (inside l)
unfolding inside
inside_scale l k h p = ap₂ (λ b n. not b && odd n) (on_some_scale l k h p) (count_scale counts_below counts_below_scale l k h p)

pub in_boundary_scale : (o : Object) → ScaleFree (in_boundary o)
unfolding in_boundary
in_boundary_scale (points l) k h p = refl
in_boundary_scale (line l) k h p = ap is_boundary (ends_at_scale l k h p)
in_boundary_scale (region l) k h p = on_some_scale l k h p

pub in_interior_scale : (o : Object) → ScaleFree (in_interior o)
unfolding in_interior
in_interior_scale (points l) k h p = some_scale (λ p e. is_at e p) is_at_scale l k h p
in_interior_scale (line l) k h p = ap₂ (λ b n. b && not (is_boundary n)) (on_some_scale l k h p) (ends_at_scale l k h p)
in_interior_scale (region l) k h p = inside_scale l k h p

pub in_exterior_scale : (o : Object) → ScaleFree (in_exterior o)
unfolding in_exterior
in_exterior_scale o k h p = ap₂ (λ a b. not a && not b) (in_interior_scale o k h p) (in_boundary_scale o k h p)

-- ---- fraction points

pub fractions_pos : (q : FractionPoint) → Pos (fractions q).W
fractions_pos q = pos_mul (lit_pos q.at_x.under q.at_x.above_zero) (lit_pos q.at_y.under q.at_y.above_zero)

-- equal coordinates: a/b = a'/b' when a b' = a' b
abbrev pub Equal : Fraction → Fraction → Type 0
Equal m n = m.over *ℤ pos n.under ≡ n.over *ℤ pos m.under

pub record SamePlace (p q : FractionPoint) : Type 0 where
  pub same_x : Equal p.at_x q.at_x
  pub same_y : Equal p.at_y q.at_y

pub same_multiple : (p q : FractionPoint) → SamePlace p q → (fractions q).W ⋆ fractions p ≡ (fractions p).W ⋆ fractions q
same_multiple p q e =
    triple_eq (across p.at_x q.at_x p.at_y q.at_y e.same_x)
    (ap (λ w. w *ℤ (fractions p).Y) (*ℤ_comm (under_of q.at_x) (under_of q.at_y))
    ∙ across p.at_y q.at_y p.at_x q.at_x e.same_y
    ∙ ap (λ w. w *ℤ (fractions q).Y) (*ℤ_comm (under_of p.at_y) (under_of p.at_x)))
    (*ℤ_comm (fractions q).W (fractions p).W)
  where
    under_of : Fraction → ℤ
    under_of m = pos m.under

    -- (b' d') (a d) = (b d) (a' d')
    across : (m m' n n' : Fraction) → Equal m m'
        → (under_of m' *ℤ under_of n') *ℤ (m.over *ℤ under_of n) ≡ (under_of m *ℤ under_of n) *ℤ (m'.over *ℤ under_of n')
    across m m' n n' e =
        solve (m.over ∷ under_of m' ∷ under_of n ∷ under_of n' ∷ []) ((var 1 :* var 3) :* (var 0 :* var 2)) ((var 0 :* var 1) :* (var 2 :* var 3)) tt
        ∙ ap (λ z. z *ℤ (under_of n *ℤ under_of n')) e
        ∙ solve (m'.over ∷ under_of m ∷ under_of n ∷ under_of n' ∷ []) ((var 0 :* var 1) :* (var 2 :* var 3)) ((var 1 :* var 2) :* (var 0 :* var 3)) tt

pub same_test_at {ℓ} : {A : Type ℓ} (f : HPoint → A) → ScaleFree f → {p q : FractionPoint} → SamePlace p q → f (fractions p) ≡ f (fractions q)
same_test_at f free {p} {q} e =
    sym (free (fractions q).W (fractions_pos q) (fractions p)) ∙ ap f (same_multiple p q e)
    ∙ free (fractions p).W (fractions_pos p) (fractions q)

module _ {p q : FractionPoint} (e : SamePlace p q) where
  pub on_same : (s : Segment) → on s (fractions p) ≡ on s (fractions q)
  on_same s = same_test_at (on s) (on_scale s) e

  pub counts_below_same : (s : Segment) → counts_below (fractions p) s ≡ counts_below (fractions q) s
  counts_below_same s = same_test_at (λ p. counts_below p s) (counts_below_scale s) e

  pub in_interior_same : (o : Object) → in_interior o (fractions p) ≡ in_interior o (fractions q)
  in_interior_same o = same_test_at (in_interior o) (in_interior_scale o) e

  pub in_boundary_same : (o : Object) → in_boundary o (fractions p) ≡ in_boundary o (fractions q)
  in_boundary_same o = same_test_at (in_boundary o) (in_boundary_scale o) e

  pub in_exterior_same : (o : Object) → in_exterior o (fractions p) ≡ in_exterior o (fractions q)
  in_exterior_same o = same_test_at (in_exterior o) (in_exterior_scale o) e

-- ---- a homogeneous point with W above zero is a fraction point: X/W, Y/W

pub as_fractions : (p : HPoint) → Pos p.W → (q : FractionPoint) × (fractions q ≡ p.W ⋆ p)
as_fractions p h = (record { at_x = over_W p.X; at_y = over_W p.Y }, triple_eq (over_is p.X) (over_is p.Y) (ap₂ ◌*ℤ◌ d.2 d.2))
  where
    d : (n : ℕ) × (0 < n) × (pos n ≡ p.W)
    d = pos_lit p.W h

    over_W : ℤ → Fraction
    over_W z = record { over = z; under = d.0; above_zero = d.1 }

    over_is : (z : ℤ) → z *ℤ pos d.0 ≡ p.W *ℤ z
    over_is z = ap (λ w. z *ℤ w) d.2 ∙ *ℤ_comm z p.W

pub at_fractions {ℓ} : {A : Type ℓ} (f : HPoint → A) → ScaleFree f → (p : HPoint) (h : Pos p.W) → f (fractions (as_fractions p h).0) ≡ f p
at_fractions f free p h = ap f (as_fractions p h).1 ∙ free p.W h p

-- so of what does not depend on scale, some fraction point has it if and only if some homogeneous point with W above zero has it
pub some_fractions : (A : HPoint → Type 0) → ScaleFree A → ((q : FractionPoint) × A (fractions q)) ↔ ((p : HPoint) × Pos p.W × A p)
some_fractions A free = (λ (q, a). (fractions q, fractions_pos q, a), λ (p, h, a). ((as_fractions p h).0, subst (λ B. B) (sym (at_fractions A free p h)) a))
