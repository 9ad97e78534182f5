-- Weighted means of two points: a mean of means is a mean; two means are collinear with their ends; a mean that is one of the ends has no
-- weight on the other; and points that differ by a positive factor lie on the same segments.
use Prim.Native.Nat.{ℕ}
use mathlib.Core.Path.{◌≡◌, refl, sym, ap, ap₂, ◌∙◌}
use mathlib.Core.Logic.{⊎_elim}
use mathlib.Core.List.{[], ◌∷◌}
use lib.Dec.{T}
use lib.IntN.{ℤ, pos, neg_ℤ, ◌+ℤ◌, ◌-ℤ◌, ◌*ℤ◌, *ℤ_comm}
use Rattle.whole.specs.Count.{eq_z}
use Rattle.whole.proofs.Ring.{mul_assoc}
use Rattle.whole.proofs.Solver.{var, con, opp, ◌:+◌, ◌:-◌, ◌:*◌, solve}
use Rattle.whole.proofs.Sign.{Pos, NonNeg, Weak, weak_zero, weak_plus, weak, pos_nonneg, one_pos, lit_nonneg, zero_pos, pos_mul, nonneg_mul, nonneg_add, mul_zero_left, mul_zero_right, cancel_zero, cancel_zero_right, sum_zero_right, eq_z_zero, zero_eq_z}
use Rattle.whole.proofs.Logic.{and_left, and_right, and_make, or_cases, or_left, or_right}
use Rattle.plane.specs.declared.Point.{Point}
use Rattle.plane.specs.declared.Segment.{Segment}
use Rattle.plane.specs.Plane.{HPoint, midpoint, is_at, is_end}
use Rattle.plane.proofs.Homogeneous.{◌⋆◌, ◌⊞◌, triple_eq, det, detᵉ, triple, Triple}
use Rattle.plane.proofs.OnSegment.{Between, Along, Ordered, slanting, upright, right_of_left, above_left, left_of_right, below_right}

-- ---- points that differ by a positive factor

pub record Multiple (p q : HPoint) : Type 0 where
  pub m : ℤ
  pub n : ℤ
  pub m_pos : Pos m
  pub n_pos : Pos n
  pub same : m ⋆ p ≡ n ⋆ q

pub times_times : (j k : ℤ) (p : HPoint) → j ⋆ (k ⋆ p) ≡ (j *ℤ k) ⋆ p
times_times j k p = sym (triple_eq (mul_assoc j k p.X) (mul_assoc j k p.Y) (mul_assoc j k p.W))

times_swap : (j k : ℤ) (p : HPoint) → j ⋆ (k ⋆ p) ≡ k ⋆ (j ⋆ p)
times_swap j k p = times_times j k p ∙ ap (λ z. z ⋆ p) (*ℤ_comm j k) ∙ sym (times_times k j p)

-- j (a u + b v) = (j a) u + (j b) v
times_sum : (j a b : ℤ) (u v : HPoint) → j ⋆ (a ⋆ u ⊞ b ⋆ v) ≡ (j *ℤ a) ⋆ u ⊞ (j *ℤ b) ⋆ v
times_sum j a b u v = triple_eq (at u.X v.X) (at u.Y v.Y) (at u.W v.W)
  where
    at : (x y : ℤ) → j *ℤ (a *ℤ x +ℤ b *ℤ y) ≡ j *ℤ a *ℤ x +ℤ j *ℤ b *ℤ y
    at x y = solve (j ∷ a ∷ b ∷ x ∷ y ∷ []) (var 0 :* (var 1 :* var 3 :+ var 2 :* var 4)) (var 0 :* var 1 :* var 3 :+ var 0 :* var 2 :* var 4) tt

-- a positive multiple of a mean of u and v is a mean of them
pub between_multiple : {u v p q : HPoint} → Multiple p q → Between u v p → Between u v q
between_multiple {u} {v} {p} {q} e h =
    record {
      k = h.k *ℤ e.n;
      a = e.m *ℤ h.a;
      b = e.m *ℤ h.b;
      k_pos = pos_mul h.k_pos e.n_pos;
      a_least = nonneg_mul (pos_nonneg e.m_pos) h.a_least;
      b_least = nonneg_mul (pos_nonneg e.m_pos) h.b_least;
      mean =
          sym (times_times h.k e.n q) ∙ ap (λ z. h.k ⋆ z) (sym e.same) ∙ times_swap h.k e.m p
          ∙ ap (λ z. e.m ⋆ z) h.mean ∙ times_sum e.m h.a h.b u v;
    }

-- ---- means of means

module _ {u v p q z : HPoint} (h : Between u v p) (g : Between u v q) (f : Between p q z) where
  abbrev weight_u : ℤ
  weight_u = f.a *ℤ g.k *ℤ h.a +ℤ f.b *ℤ h.k *ℤ g.a

  abbrev weight_v : ℤ
  weight_v = f.a *ℤ g.k *ℤ h.b +ℤ f.b *ℤ h.k *ℤ g.b

  -- one coordinate of it
  compose_at : (z p q u v : ℤ) → f.k *ℤ z ≡ f.a *ℤ p +ℤ f.b *ℤ q → h.k *ℤ p ≡ h.a *ℤ u +ℤ h.b *ℤ v → g.k *ℤ q ≡ g.a *ℤ u +ℤ g.b *ℤ v
      → f.k *ℤ h.k *ℤ g.k *ℤ z ≡ weight_u *ℤ u +ℤ weight_v *ℤ v
  compose_at z p q u v e₁ e₂ e₃ =
      solve (h.k ∷ g.k ∷ f.k ∷ z ∷ []) (var 2 :* var 0 :* var 1 :* var 3) (var 0 :* var 1 :* (var 2 :* var 3)) tt
      ∙ ap (λ x. h.k *ℤ g.k *ℤ x) e₁
      ∙ solve (h.k ∷ g.k ∷ f.a ∷ f.b ∷ p ∷ q ∷ []) (var 0 :* var 1 :* (var 2 :* var 4 :+ var 3 :* var 5)) (var 2 :* var 1 :* (var 0 :* var 4) :+ var 3 :* var 0 :* (var 1 :* var 5)) tt
      ∙ ap₂ (λ x y. f.a *ℤ g.k *ℤ x +ℤ f.b *ℤ h.k *ℤ y) e₂ e₃
      ∙ solve (h.k ∷ g.k ∷ f.a ∷ f.b ∷ h.a ∷ h.b ∷ g.a ∷ g.b ∷ u ∷ v ∷ []) (var 2 :* var 1 :* (var 4 :* var 8 :+ var 5 :* var 9) :+ var 3 :* var 0 :* (var 6 :* var 8 :+ var 7 :* var 9)) ((var 2 :* var 1 :* var 4 :+ var 3 :* var 0 :* var 6) :* var 8 :+ (var 2 :* var 1 :* var 5 :+ var 3 :* var 0 :* var 7) :* var 9) tt

  pub between_compose : Between u v z
  between_compose =
      record {
        k = f.k *ℤ h.k *ℤ g.k;
        a = weight_u;
        b = weight_v;
        k_pos = pos_mul (pos_mul f.k_pos h.k_pos) g.k_pos;
        a_least = nonneg_add (both f.a_least g.k_pos h.a_least) (both f.b_least h.k_pos g.a_least);
        b_least = nonneg_add (both f.a_least g.k_pos h.b_least) (both f.b_least h.k_pos g.b_least);
        mean = triple_eq (compose_at z.X p.X q.X u.X v.X (ap (λ w. w.X) f.mean) (ap (λ w. w.X) h.mean) (ap (λ w. w.X) g.mean)) (compose_at z.Y p.Y q.Y u.Y v.Y (ap (λ w. w.Y) f.mean) (ap (λ w. w.Y) h.mean) (ap (λ w. w.Y) g.mean)) (compose_at z.W p.W q.W u.W v.W (ap (λ w. w.W) f.mean) (ap (λ w. w.W) h.mean) (ap (λ w. w.W) g.mean));
      }
    where
      both : {x y w : ℤ} → NonNeg x → Pos y → NonNeg w → NonNeg (x *ℤ y *ℤ w)
      both x y w = nonneg_mul (nonneg_mul x (pos_nonneg y)) w

-- a mean of p and q with no weight on q is a multiple of p
pub first_alone : {p q z : HPoint} (f : Between p q z) → f.b ≡ pos 0 → Pos z.W → Multiple z p
first_alone {p} {q} {z} f e z_pos = record { m = f.k; n = f.a; m_pos = f.k_pos; n_pos = go (weak f.a_least); same = f.mean ∙ gone }
  where
    drop : (x y : ℤ) → f.a *ℤ x +ℤ f.b *ℤ y ≡ f.a *ℤ x
    drop x y = ap (λ b. f.a *ℤ x +ℤ b *ℤ y) e ∙ solve (f.a ∷ x ∷ y ∷ []) (var 0 :* var 1 :+ con (pos 0) :* var 2) (var 0 :* var 1) tt

    gone : f.a ⋆ p ⊞ f.b ⋆ q ≡ f.a ⋆ p
    gone = triple_eq (drop p.X q.X) (drop p.Y q.Y) (drop p.W q.W)

    go : Weak f.a → Pos f.a
    go (weak_plus a) = a
    go (weak_zero a) = zero_pos (ap (λ w. w.W) f.mean ∙ drop p.W q.W ∙ mul_zero_left p.W a) (pos_mul f.k_pos z_pos)

-- ---- two means are collinear with their ends

module _ {u v p q : HPoint} (h : Between u v p) (g : Between u v q) where
  -- the determinant with the means put in, times their multiples
  det_times : (j k : ℤ) (p q r : HPoint) → det (j ⋆ p) (k ⋆ q) r ≡ j *ℤ k *ℤ det p q r
  unfolding det
  det_times j k p q r =
      solve (j ∷ k ∷ p.X ∷ p.Y ∷ p.W ∷ q.X ∷ q.Y ∷ q.W ∷ r.X ∷ r.Y ∷ r.W ∷ [])
      (detᵉ (triple (var 0 :* var 2) (var 0 :* var 3) (var 0 :* var 4)) (triple (var 1 :* var 5) (var 1 :* var 6) (var 1 :* var 7)) (triple (var 8) (var 9) (var 10)))
      (var 0 :* var 1 :* detᵉ (triple (var 2) (var 3) (var 4)) (triple (var 5) (var 6) (var 7)) (triple (var 8) (var 9) (var 10)))
      tt

  abbrev sumᵉ : ℕ → ℕ → Triple
  sumᵉ i j = triple (var i :* var 4 :+ var j :* var 7) (var i :* var 5 :+ var j :* var 8) (var i :* var 6 :+ var j :* var 9)

  flat : (a b c d : ℤ) → (det (a ⋆ u ⊞ b ⋆ v) (c ⋆ u ⊞ d ⋆ v) u ≡ pos 0) × (det (a ⋆ u ⊞ b ⋆ v) (c ⋆ u ⊞ d ⋆ v) v ≡ pos 0)
  unfolding det
  flat a b c d = (
    solve (a ∷ b ∷ c ∷ d ∷ u.X ∷ u.Y ∷ u.W ∷ v.X ∷ v.Y ∷ v.W ∷ []) (detᵉ (sumᵉ 0 1) (sumᵉ 2 3) (triple (var 4) (var 5) (var 6))) (con (pos 0)) tt,
    solve (a ∷ b ∷ c ∷ d ∷ u.X ∷ u.Y ∷ u.W ∷ v.X ∷ v.Y ∷ v.W ∷ []) (detᵉ (sumᵉ 0 1) (sumᵉ 2 3) (triple (var 7) (var 8) (var 9))) (con (pos 0)) tt,
  )

  by_means : (r : HPoint) → det (h.a ⋆ u ⊞ h.b ⋆ v) (g.a ⋆ u ⊞ g.b ⋆ v) r ≡ pos 0 → det p q r ≡ pos 0
  by_means r e =
      cancel_zero (pos_mul h.k_pos g.k_pos)
      (sym (det_times h.k g.k p q r) ∙ ap₂ (λ m n. det m n r) h.mean g.mean ∙ e)

  pub collinear : (det p q u ≡ pos 0) × (det p q v ≡ pos 0)
  collinear = (by_means u (flat h.a h.b g.a g.b).0, by_means v (flat h.a h.b g.a g.b).1)

-- ---- ends

pub record At (e : Point) (p : HPoint) : Type 0 where
  pub at_x : p.X -ℤ e.x *ℤ p.W ≡ pos 0
  pub at_y : p.Y -ℤ e.y *ℤ p.W ≡ pos 0

pub data EndOf (s : Segment) (p : HPoint) : Type 0 where
  left_end : At s.left p → EndOf s p
  right_end : At s.right p → EndOf s p

pub at_read : (e : Point) (p : HPoint) → T (is_at e p) → At e p
unfolding is_at
at_read e p t =
    record { at_x = eq_z_zero (e.x *ℤ p.W) p.X (and_left (eq_z (e.x *ℤ p.W) p.X) (eq_z (e.y *ℤ p.W) p.Y) t); at_y = eq_z_zero (e.y *ℤ p.W) p.Y (and_right (eq_z (e.x *ℤ p.W) p.X) (eq_z (e.y *ℤ p.W) p.Y) t) }

pub at_make : (e : Point) (p : HPoint) → At e p → T (is_at e p)
unfolding is_at
at_make e p h = and_make (eq_z (e.x *ℤ p.W) p.X) (eq_z (e.y *ℤ p.W) p.Y) (zero_eq_z (e.x *ℤ p.W) p.X h.at_x) (zero_eq_z (e.y *ℤ p.W) p.Y h.at_y)

pub end_read : (s : Segment) (p : HPoint) → T (is_end s p) → EndOf s p
unfolding is_end
end_read s p t = ⊎_elim (λ h. left_end (at_read s.left p h)) (λ h. right_end (at_read s.right p h)) (or_cases (is_at s.left p) (is_at s.right p) t)

pub end_make : (s : Segment) (p : HPoint) → EndOf s p → T (is_end s p)
unfolding is_end
end_make s p (left_end h) = or_left (is_at s.left p) (is_at s.right p) (at_make s.left p h)
end_make s p (right_end h) = or_right (is_at s.left p) (is_at s.right p) (at_make s.right p h)

-- at an end, a point of the segment has no weight on the other end
module _ (s : Segment) (p : HPoint) (o : Ordered s) (h : Along s p) where
  no_weight : {c : ℤ} → c *ℤ (s.right.x -ℤ s.left.x) ≡ pos 0 → c *ℤ (s.right.y -ℤ s.left.y) ≡ pos 0 → c ≡ pos 0
  no_weight {c} ex ey = go o
    where
      go : Ordered s → c ≡ pos 0
      go (slanting w) = cancel_zero_right w ex
      go (upright e w) = cancel_zero_right w ey

  pub at_left : At s.left p → h.b ≡ pos 0
  at_left e = no_weight (sym (right_of_left s p h) ∙ mul_zero_right h.k e.at_x) (sym (above_left s p h) ∙ mul_zero_right h.k e.at_y)

  pub at_right : At s.right p → h.a ≡ pos 0
  at_right e =
      no_weight (sym (left_of_right s p h) ∙ mul_zero_right h.k (turned p.X (s.right.x *ℤ p.W) e.at_x))
      (sym (below_right s p h) ∙ mul_zero_right h.k (turned p.Y (s.right.y *ℤ p.W) e.at_y))
    where
      turned : (x y : ℤ) → x -ℤ y ≡ pos 0 → y -ℤ x ≡ pos 0
      turned x y e = solve (x ∷ y ∷ []) (var 1 :- var 0) (opp (var 0 :- var 1)) tt ∙ ap neg_ℤ e

-- ---- the midpoint

pub middle : (s : Segment) → Along s (midpoint s)
middle s =
    record {
      k = pos 1;
      a = pos 1;
      b = pos 1;
      k_pos = one_pos 0;
      a_least = lit_nonneg 1;
      b_least = lit_nonneg 1;
      mean = triple_eq (at s.left.x s.right.x) (at s.left.y s.right.y) refl;
    }
  where
    at : (x y : ℤ) → pos 1 *ℤ (x +ℤ y) ≡ pos 1 *ℤ x +ℤ pos 1 *ℤ y
    at x y = solve (x ∷ y ∷ []) (con (pos 1) :* (var 0 :+ var 1)) (con (pos 1) :* var 0 :+ con (pos 1) :* var 1) tt

-- it is no end
pub middle_inner : (s : Segment) → Ordered s → EndOf s (midpoint s) → ⊥
unfolding middle
middle_inner s o (left_end e) = zero_pos (at_left s (midpoint s) o (middle s) e) (one_pos 0)
middle_inner s o (right_end e) = zero_pos (at_right s (midpoint s) o (middle s) e) (one_pos 0)

-- p and the midpoint of its segment: a mean of the two that is an end of the segment is a multiple of p
pub end_beside_middle : (s : Segment) → Ordered s → {p z : HPoint} → Along s p → Between p (midpoint s) z → Pos z.W → EndOf s z → Multiple z p
unfolding between_compose middle
end_beside_middle s o {p} {z} h f z_pos end = first_alone f (go end) z_pos
  where
    gone : {c : ℤ} → NonNeg c → f.a *ℤ pos 1 *ℤ c +ℤ f.b *ℤ h.k *ℤ pos 1 ≡ pos 0 → f.b ≡ pos 0
    gone c e =
        cancel_zero_right h.k_pos
        (cancel_zero_right (one_pos 0) (sum_zero_right (nonneg_mul (nonneg_mul f.a_least (lit_nonneg 1)) c) (nonneg_mul (nonneg_mul f.b_least (pos_nonneg h.k_pos)) (lit_nonneg 1)) e))

    go : EndOf s z → f.b ≡ pos 0
    go (left_end e) = gone h.b_least (at_left s z o (between_compose h (middle s) f) e)
    go (right_end e) = gone h.a_least (at_right s z o (between_compose h (middle s) f) e)
