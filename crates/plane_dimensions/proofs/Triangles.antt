-- Triangles with area: a smaller one at a corner keeps what the corner keeps; and in each there is one that is away from any segments.
use Prim.Native.Nat.{ℕ, ◌≤◌}
use native.Mathlib.Omega.{arith}
use mathlib.Core.Path.{◌≡◌, sym, ap, ap₂, ◌∙◌, subst}
use mathlib.Core.List.{List, [], ◌∷◌}
use mathlib.Core.Logic.{⊎_elim}
use lib.IntN.{ℤ, pos, neg_ℤ, ◌+ℤ◌, ◌-ℤ◌, ◌*ℤ◌}
use Rattle.whole.specs.Count.{◌∈◌, here, there}
use Rattle.whole.proofs.Logic.{in_nil, in_cons}
use Rattle.whole.proofs.Solver.{Exp, var, con, opp, ◌:+◌, ◌:-◌, ◌:*◌, solve}
use Rattle.whole.proofs.Sign.{Pos, Sign, minus, nought, plus, sign, pos_nonneg, nonneg_add, nonneg_add_pos, nonneg_mul, cancel_zero, lit_nonneg, one_pos}
use Rattle.plane.specs.declared.Segment.{Segment}
use Rattle.plane.specs.Plane.{HPoint, side_at}
use Rattle.plane.proofs.Homogeneous.{triple_eq, Triple, triple, detᵉ}
use Rattle.plane.proofs.OnSegment.{Ordered, slanting, upright, Away, over, beneath}
use Rattle.plane.proofs.Steps.{Large, large_map, large_and, step}
use Rattle.plane_dimensions.specs.Dimensions.{area}
use Rattle.plane_dimensions.proofs.Means.{Mean, mean_positive, Kept, kept_step}
use Rattle.plane_dimensions.proofs.Avoided.{away_kept}

pub record Triangle : Type 0 where
  pub a : HPoint
  pub b : HPoint
  pub c : HPoint
  pub a_pos : Pos a.W
  pub b_pos : Pos b.W
  pub c_pos : Pos c.W
  pub non_zero : area a b c ≡ pos 0 → ⊥

abbrev pub Inside : Triangle → HPoint → Type 0
Inside t p = Mean t.a t.b t.c p

pub corner : (t : Triangle) → Inside t t.a
corner t =
    record {
      k = pos 1;
      l = pos 1;
      m = pos 0;
      n = pos 0;
      k_pos = one_pos 0;
      l_least = lit_nonneg 1;
      m_least = lit_nonneg 0;
      n_least = lit_nonneg 0;
      mean = triple_eq (at t.a.X t.b.X t.c.X) (at t.a.Y t.b.Y t.c.Y) (at t.a.W t.b.W t.c.W);
    }
  where
    at : (x y z : ℤ) → pos 1 *ℤ x ≡ pos 1 *ℤ x +ℤ pos 0 *ℤ y +ℤ pos 0 *ℤ z
    at x y z = solve (x ∷ y ∷ z ∷ []) (con (pos 1) :* var 0) (con (pos 1) :* var 0 :+ con (pos 0) :* var 1 :+ con (pos 0) :* var 2) tt

-- ---- the area is the determinant of the corners, over expressions: variables 0 to 8

abbrev pub firstᵉ : Triple
firstᵉ = triple (var 0) (var 1) (var 2)

abbrev pub secondᵉ : Triple
secondᵉ = triple (var 3) (var 4) (var 5)

abbrev pub thirdᵉ : Triple
thirdᵉ = triple (var 6) (var 7) (var 8)

abbrev plain : Exp
plain = detᵉ firstᵉ secondᵉ thirdᵉ

abbrev pub corners : HPoint → HPoint → HPoint → List ℤ
corners a b c = a.X ∷ a.Y ∷ a.W ∷ b.X ∷ b.Y ∷ b.W ∷ c.X ∷ c.Y ∷ c.W ∷ []

-- ---- the same triangle from another corner

area_turn : (a b c : HPoint) → area a b c ≡ area b c a
unfolding area
area_turn a b c = solve (corners a b c) plain (detᵉ secondᵉ thirdᵉ firstᵉ) tt

turn : Triangle → Triangle
turn t =
    record { a = t.b; b = t.c; c = t.a; a_pos = t.b_pos; b_pos = t.c_pos; c_pos = t.a_pos; non_zero = λ e. t.non_zero (area_turn t.a t.b t.c ∙ e) }

turn_inside : (t : Triangle) (q : HPoint) → Inside (turn t) q → Inside t q
unfolding turn
turn_inside t q h =
    record {
      k = h.k;
      l = h.n;
      m = h.l;
      n = h.m;
      k_pos = h.k_pos;
      l_least = h.n_least;
      m_least = h.l_least;
      n_least = h.m_least;
      mean = h.mean ∙ triple_eq (at t.a.X t.b.X t.c.X) (at t.a.Y t.b.Y t.c.Y) (at t.a.W t.b.W t.c.W);
    }
  where
    at : (x y z : ℤ) → h.l *ℤ y +ℤ h.m *ℤ z +ℤ h.n *ℤ x ≡ h.n *ℤ x +ℤ h.l *ℤ y +ℤ h.m *ℤ z
    at x y z = solve (h.l ∷ h.m ∷ h.n ∷ x ∷ y ∷ z ∷ []) (var 0 :* var 4 :+ var 1 :* var 5 :+ var 2 :* var 3) (var 2 :* var 3 :+ var 0 :* var 4 :+ var 1 :* var 5) tt

-- ---- a smaller triangle at the first corner: its two others are n a + b and n a + c

pub area_narrow : (a b c : HPoint) (n : ℕ) → area a (step b a n) (step c a n) ≡ area a b c
unfolding area
area_narrow a b c n =
    solve (a.X ∷ a.Y ∷ a.W ∷ b.X ∷ b.Y ∷ b.W ∷ c.X ∷ c.Y ∷ c.W ∷ pos n ∷ [])
    (detᵉ firstᵉ (triple (var 9 :* var 0 :+ var 3) (var 9 :* var 1 :+ var 4) (var 9 :* var 2 :+ var 5)) (triple (var 9 :* var 0 :+ var 6) (var 9 :* var 1 :+ var 7) (var 9 :* var 2 :+ var 8)))
    plain
    tt

pub step_pos : (b a : HPoint) → Pos b.W → Pos a.W → (n : ℕ) → Pos (step b a n).W
step_pos b a b_pos a_pos n = nonneg_add_pos (nonneg_mul (lit_nonneg n) (pos_nonneg a_pos)) b_pos

module _ (t : Triangle) where
  abbrev pub narrow : ℕ → Triangle
  narrow n =
      record {
        a = t.a;
        b = step t.b t.a n;
        c = step t.c t.a n;
        a_pos = t.a_pos;
        b_pos = step_pos t.b t.a t.b_pos t.a_pos n;
        c_pos = step_pos t.c t.a t.c_pos t.a_pos n;
        non_zero = λ e. t.non_zero (sym (area_narrow t.a t.b t.c n) ∙ e);
      }

  pub narrow_inside : (n : ℕ) (q : HPoint) → Inside (narrow n) q → Inside t q
  narrow_inside n q h =
      record {
        k = h.k;
        l = h.l +ℤ pos n *ℤ h.m +ℤ pos n *ℤ h.n;
        m = h.m;
        n = h.n;
        k_pos = h.k_pos;
        l_least = nonneg_add (nonneg_add h.l_least (nonneg_mul (lit_nonneg n) h.m_least)) (nonneg_mul (lit_nonneg n) h.n_least);
        m_least = h.m_least;
        n_least = h.n_least;
        mean = h.mean ∙ triple_eq (at t.a.X t.b.X t.c.X) (at t.a.Y t.b.Y t.c.Y) (at t.a.W t.b.W t.c.W);
      }
    where
      at : (x y z : ℤ) → h.l *ℤ x +ℤ h.m *ℤ (pos n *ℤ x +ℤ y) +ℤ h.n *ℤ (pos n *ℤ x +ℤ z) ≡ (h.l +ℤ pos n *ℤ h.m +ℤ pos n *ℤ h.n) *ℤ x +ℤ h.m *ℤ y +ℤ h.n *ℤ z
      at x y z =
          solve (h.l ∷ h.m ∷ h.n ∷ x ∷ y ∷ z ∷ pos n ∷ []) (var 0 :* var 3 :+ var 1 :* (var 6 :* var 3 :+ var 4) :+ var 2 :* (var 6 :* var 3 :+ var 5))
          ((var 0 :+ var 6 :* var 1 :+ var 6 :* var 2) :* var 3 :+ var 1 :* var 4 :+ var 2 :* var 5) tt

  -- what the first corner keeps, small ones have throughout
  abbrev pub Throughout : (HPoint → Type 0) → ℕ → Type 0
  Throughout P n = (q : HPoint) → Pos q.W → Inside (narrow n) q → P q

  pub narrow_keeps : {P : HPoint → Type 0} → Kept P t.a → Large (Throughout P)
  narrow_keeps k =
      large_map (λ n g q q-pos h. k.gives q (mean_positive h q-pos k.form k.above g.0 g.1)) (large_and (kept_step k t.b) (kept_step k t.c))

-- ---- a triangle inside another

pub record Smaller (t : Triangle) (P : HPoint → Type 0) : Type 0 where
  pub small : Triangle
  pub inner : (q : HPoint) → Inside small q → Inside t q
  pub all : (q : HPoint) → Pos q.W → Inside small q → P q

at_corner : {P : HPoint → Type 0} (t : Triangle) → Kept P t.a → Smaller t P
at_corner t k =
    let w = narrow_keeps t k in
    record { small = narrow t w.from; inner = narrow_inside t w.from; all = w.holds w.from least }
  where
    least : {n : ℕ} → n ≤ n
    least = omega arith

turned : {P : HPoint → Type 0} (t : Triangle) → Smaller (turn t) P → Smaller t P
turned t w = record { small = w.small; inner = λ q h. turn_inside t q (w.inner q h); all = w.all }

-- ---- away from a segment

-- not all three corners are on its line
module _ (s : Segment) (a b c : HPoint) where
  sides : List ℤ
  sides = a.X ∷ a.Y ∷ a.W ∷ b.X ∷ b.Y ∷ b.W ∷ c.X ∷ c.Y ∷ c.W ∷ s.left.x ∷ s.left.y ∷ s.right.x ∷ s.right.y ∷ []

  abbrev side_of : Exp → Exp → Exp → Exp
  side_of x y w = (var 11 :- var 9) :* (y :- var 10 :* w) :- (var 12 :- var 10) :* (x :- var 9 :* w)

  abbrev sa : Exp
  sa = side_of (var 0) (var 1) (var 2)

  abbrev sb : Exp
  sb = side_of (var 3) (var 4) (var 5)

  abbrev sc : Exp
  sc = side_of (var 6) (var 7) (var 8)

  -- the area with the three side values for x, or for y
  for_x : ℤ → ℤ → ℤ → ℤ
  for_x u v w = area (record { X = u; Y = a.Y; W = a.W }) (record { X = v; Y = b.Y; W = b.W }) (record { X = w; Y = c.Y; W = c.W })

  for_y : ℤ → ℤ → ℤ → ℤ
  for_y u v w = area (record { X = a.X; Y = u; W = a.W }) (record { X = b.X; Y = v; W = b.W }) (record { X = c.X; Y = w; W = c.W })

  by_width : (s.right.x -ℤ s.left.x) *ℤ area a b c ≡ for_y (side_at s a) (side_at s b) (side_at s c)
  unfolding area side_at for_y sides
  by_width = solve sides ((var 11 :- var 9) :* plain) (detᵉ (triple (var 0) sa (var 2)) (triple (var 3) sb (var 5)) (triple (var 6) sc (var 8))) tt

  by_height : (s.right.y -ℤ s.left.y) *ℤ area a b c ≡ neg_ℤ (for_x (side_at s a) (side_at s b) (side_at s c))
  unfolding area side_at for_x sides
  by_height = solve sides ((var 12 :- var 10) :* plain) (opp (detᵉ (triple sa (var 1) (var 2)) (triple sb (var 4) (var 5)) (triple sc (var 7) (var 8)))) tt

  flat_y : for_y (pos 0) (pos 0) (pos 0) ≡ pos 0
  unfolding area for_y
  flat_y = solve (corners a b c) (detᵉ (triple (var 0) (con (pos 0)) (var 2)) (triple (var 3) (con (pos 0)) (var 5)) (triple (var 6) (con (pos 0)) (var 8))) (con (pos 0)) tt

  flat_x : neg_ℤ (for_x (pos 0) (pos 0) (pos 0)) ≡ pos 0
  unfolding area for_x
  flat_x = solve (corners a b c) (opp (detᵉ (triple (con (pos 0)) (var 1) (var 2)) (triple (con (pos 0)) (var 4) (var 5)) (triple (con (pos 0)) (var 7) (var 8)))) (con (pos 0)) tt

  on_one_line : Ordered s → side_at s a ≡ pos 0 → side_at s b ≡ pos 0 → side_at s c ≡ pos 0 → area a b c ≡ pos 0
  on_one_line (slanting w) x y z = cancel_zero w (by_width ∙ ap₂ (λ m n. for_y m n (side_at s c)) x y ∙ ap (λ n. for_y (pos 0) (pos 0) n) z ∙ flat_y)
  on_one_line (upright e w) x y z = cancel_zero w (by_height ∙ ap₂ (λ m n. neg_ℤ (for_x m n (side_at s c))) x y ∙ ap (λ n. neg_ℤ (for_x (pos 0) (pos 0) n)) z ∙ flat_x)

pub clear_one : (s : Segment) → Ordered s → (t : Triangle) → Smaller t (Away s)
unfolding turn
clear_one s o t = go (sign (side_at s t.a)) (sign (side_at s t.b)) (sign (side_at s t.c))
  where
    go : Sign (side_at s t.a) → Sign (side_at s t.b) → Sign (side_at s t.c) → Smaller t (Away s)
    go (plus h) v w = at_corner t (away_kept s (over h))
    go (minus h) v w = at_corner t (away_kept s (beneath h))
    go (nought x) (plus h) w = turned t (at_corner (turn t) (away_kept s (over h)))
    go (nought x) (minus h) w = turned t (at_corner (turn t) (away_kept s (beneath h)))
    go (nought x) (nought y) (plus h) = turned t (turned (turn t) (at_corner (turn (turn t)) (away_kept s (over h))))
    go (nought x) (nought y) (minus h) = turned t (turned (turn t) (at_corner (turn (turn t)) (away_kept s (beneath h))))
    go (nought x) (nought y) (nought z) = absurd (t.non_zero (on_one_line s t.a t.b t.c o x y z))

-- away from all segments of a list
pub clear_all : (l : List Segment) → ((s : Segment) → s ∈ l → Ordered s) → (t : Triangle) → Smaller t (λ q. (s : Segment) → s ∈ l → Away s q)
clear_all [] o t = record { small = t; inner = λ q h. h; all = λ q k h s m. absurd (in_nil m) }
clear_all (r ∷ l) o t =
    let w = clear_one r (o r here) t in
    let v = clear_all l (λ s m. o s (there m)) w.small in
    record {
      small = v.small;
      inner = λ q h. w.inner q (v.inner q h);
      all = λ q k h s m. ⊎_elim (λ e. subst (λ x. Away x q) (sym e) (w.all q k (v.inner q h))) (v.all q k h s) (in_cons m);
    }
