-- From fraction points and natural weights, as the specification has them, to homogeneous points and whole weights, and back.
use Prim.Native.Nat.{ℕ, ◌<◌}
use native.Mathlib.Omega.{arith}
use mathlib.Core.Path.{◌≡◌, refl, sym, ap, ap₂, ◌∙◌, subst}
use mathlib.Core.List.{[], ◌∷◌}
use lib.IntN.{ℤ, pos, negsuc, ◌+ℤ◌, ◌*ℤ◌}
use Rattle.whole.proofs.Balance.{P, N}
use Rattle.whole.proofs.Solver.{var, ◌:+◌, ◌:-◌, ◌:*◌, solve}
use Rattle.whole.proofs.Sign.{Pos, NonNeg, pos_nonneg, nonneg_mul, cancel_zero, sub_zero_eq, lit_nonneg, lit_pos, pos_lit, one_pos}
use Rattle.plane.specs.Plane.{FractionPoint, fractions, HPoint}
use Rattle.plane.proofs.Homogeneous.{◌⋆◌, triple_eq, one_times, Triple, triple, detᵉ}
use Rattle.plane.proofs.OnSegment.{Between}
use Rattle.plane.proofs.Means.{between_multiple}
use Rattle.plane.proofs.Scale.{fractions_pos, as_fractions}
use Rattle.plane_dimensions.specs.Dimensions.{Same, area, OfSegment, OfTriangle, Stretch, Patch}
use Rattle.plane_dimensions.proofs.Means.{Mean}
use Rattle.plane_dimensions.proofs.Avoided.{equal_zero}
use Rattle.plane_dimensions.proofs.Triangles as triangles
use Rattle.plane_dimensions.proofs.Triangles.{Triangle, firstᵉ, secondᵉ, thirdᵉ}
use Rattle.plane_dimensions.proofs.Spans as spans
use Rattle.plane_dimensions.proofs.Spans.{Span}

nonneg_lit : (z : ℤ) → NonNeg z → (n : ℕ) × (pos n ≡ z)
unfolding P N
nonneg_lit (pos n) h = (n, refl)
nonneg_lit (negsuc n) h = absurd (below h)
  where
    below : NonNeg (negsuc n) → ⊥
    below k = omega arith

-- ---- the means

pub of_triangle : {a b c p : HPoint} → Mean a b c p → OfTriangle a b c p
of_triangle {a} {b} {c} {p} h =
    record {
      k = k.0;
      l = l.0;
      m = m.0;
      n = n.0;
      above_zero = k.1;
      mean_x = at a.X b.X c.X p.X (ap (λ q. q.X) h.mean);
      mean_y = at a.Y b.Y c.Y p.Y (ap (λ q. q.Y) h.mean);
      mean_w = at a.W b.W c.W p.W (ap (λ q. q.W) h.mean);
    }
  where
    k : (n : ℕ) × (0 < n) × (pos n ≡ h.k)
    k = pos_lit h.k h.k_pos

    l : (n : ℕ) × (pos n ≡ h.l)
    l = nonneg_lit h.l h.l_least

    m : (n : ℕ) × (pos n ≡ h.m)
    m = nonneg_lit h.m h.m_least

    n : (n : ℕ) × (pos n ≡ h.n)
    n = nonneg_lit h.n h.n_least

    at : (x y z w : ℤ) → h.k *ℤ w ≡ h.l *ℤ x +ℤ h.m *ℤ y +ℤ h.n *ℤ z → pos k.0 *ℤ w ≡ pos l.0 *ℤ x +ℤ pos m.0 *ℤ y +ℤ pos n.0 *ℤ z
    at x y z w e =
        ap (λ i. i *ℤ w) k.2 ∙ e ∙ ap₂ (λ i j. i *ℤ x +ℤ j *ℤ y +ℤ h.n *ℤ z) (sym l.1) (sym m.1) ∙ ap (λ j. pos l.0 *ℤ x +ℤ pos m.0 *ℤ y +ℤ j *ℤ z) (sym n.1)

pub triangle_mean : {a b c p : HPoint} → OfTriangle a b c p → Mean a b c p
triangle_mean h =
    record {
      k = pos h.k;
      l = pos h.l;
      m = pos h.m;
      n = pos h.n;
      k_pos = lit_pos h.k h.above_zero;
      l_least = lit_nonneg h.l;
      m_least = lit_nonneg h.m;
      n_least = lit_nonneg h.n;
      mean = triple_eq h.mean_x h.mean_y h.mean_w;
    }

pub of_segment_lem : {a b p : HPoint} → Between a b p → OfSegment a b p
of_segment_lem {a} {b} {p} h =
    record {
      k = k.0;
      l = l.0;
      m = m.0;
      above_zero = k.1;
      mean_x = at a.X b.X p.X (ap (λ q. q.X) h.mean);
      mean_y = at a.Y b.Y p.Y (ap (λ q. q.Y) h.mean);
      mean_w = at a.W b.W p.W (ap (λ q. q.W) h.mean);
    }
  where
    k : (n : ℕ) × (0 < n) × (pos n ≡ h.k)
    k = pos_lit h.k h.k_pos

    l : (n : ℕ) × (pos n ≡ h.a)
    l = nonneg_lit h.a h.a_least

    m : (n : ℕ) × (pos n ≡ h.b)
    m = nonneg_lit h.b h.b_least

    at : (x y w : ℤ) → h.k *ℤ w ≡ h.a *ℤ x +ℤ h.b *ℤ y → pos k.0 *ℤ w ≡ pos l.0 *ℤ x +ℤ pos m.0 *ℤ y
    at x y w e = ap (λ i. i *ℤ w) k.2 ∙ e ∙ ap₂ (λ i j. i *ℤ x +ℤ j *ℤ y) (sym l.1) (sym m.1)

pub segment_mean : {a b p : HPoint} → OfSegment a b p → Between a b p
segment_mean h =
    record {
      k = pos h.k;
      a = pos h.l;
      b = pos h.m;
      k_pos = lit_pos h.k h.above_zero;
      a_least = lit_nonneg h.l;
      b_least = lit_nonneg h.m;
      mean = triple_eq h.mean_x h.mean_y h.mean_w;
    }

-- ---- multiples of the corners, and of the mean

module _ (i j k : ℤ) (i-pos : Pos i) (j_pos : Pos j) (k_pos : Pos k) (a b c : HPoint) where
  mean_corners : {p : HPoint} → Mean (i ⋆ a) (j ⋆ b) (k ⋆ c) p → Mean a b c p
  mean_corners h =
      record {
        k = h.k;
        l = h.l *ℤ i;
        m = h.m *ℤ j;
        n = h.n *ℤ k;
        k_pos = h.k_pos;
        l_least = nonneg_mul h.l_least (pos_nonneg i-pos);
        m_least = nonneg_mul h.m_least (pos_nonneg j_pos);
        n_least = nonneg_mul h.n_least (pos_nonneg k_pos);
        mean = h.mean ∙ triple_eq (at a.X b.X c.X) (at a.Y b.Y c.Y) (at a.W b.W c.W);
      }
    where
      at : (x y z : ℤ) → h.l *ℤ (i *ℤ x) +ℤ h.m *ℤ (j *ℤ y) +ℤ h.n *ℤ (k *ℤ z) ≡ h.l *ℤ i *ℤ x +ℤ h.m *ℤ j *ℤ y +ℤ h.n *ℤ k *ℤ z
      at x y z =
          solve (h.l ∷ h.m ∷ h.n ∷ i ∷ j ∷ k ∷ x ∷ y ∷ z ∷ []) (var 0 :* (var 3 :* var 6) :+ var 1 :* (var 4 :* var 7) :+ var 2 :* (var 5 :* var 8))
          (var 0 :* var 3 :* var 6 :+ var 1 :* var 4 :* var 7 :+ var 2 :* var 5 :* var 8) tt

  area_corners : area (i ⋆ a) (j ⋆ b) (k ⋆ c) ≡ i *ℤ (j *ℤ (k *ℤ area a b c))
  unfolding area
  area_corners =
      solve (a.X ∷ a.Y ∷ a.W ∷ b.X ∷ b.Y ∷ b.W ∷ c.X ∷ c.Y ∷ c.W ∷ i ∷ j ∷ k ∷ []) (detᵉ (times 9 firstᵉ) (times 10 secondᵉ) (times 11 thirdᵉ))
      (var 9 :* (var 10 :* (var 11 :* detᵉ firstᵉ secondᵉ thirdᵉ))) tt
    where
      times : ℕ → Triple → Triple
      times v t = triple (var v :* t.X) (var v :* t.Y) (var v :* t.W)

  no_area : area (i ⋆ a) (j ⋆ b) (k ⋆ c) ≡ pos 0 → area a b c ≡ pos 0
  no_area e = cancel_zero k_pos (cancel_zero j_pos (cancel_zero i-pos (sym area_corners ∙ e)))

  mean_multiple : {p : HPoint} → Mean a b c p → Mean a b c (i ⋆ p)
  mean_multiple {p} h =
      record {
        k = h.k;
        l = i *ℤ h.l;
        m = i *ℤ h.m;
        n = i *ℤ h.n;
        k_pos = h.k_pos;
        l_least = nonneg_mul (pos_nonneg i-pos) h.l_least;
        m_least = nonneg_mul (pos_nonneg i-pos) h.m_least;
        n_least = nonneg_mul (pos_nonneg i-pos) h.n_least;
        mean = triple_eq (at a.X b.X c.X p.X (ap (λ q. q.X) h.mean)) (at a.Y b.Y c.Y p.Y (ap (λ q. q.Y) h.mean)) (at a.W b.W c.W p.W (ap (λ q. q.W) h.mean));
      }
    where
      at : (x y z w : ℤ) → h.k *ℤ w ≡ h.l *ℤ x +ℤ h.m *ℤ y +ℤ h.n *ℤ z → h.k *ℤ (i *ℤ w) ≡ i *ℤ h.l *ℤ x +ℤ i *ℤ h.m *ℤ y +ℤ i *ℤ h.n *ℤ z
      at x y z w e =
          solve (h.k ∷ i ∷ w ∷ []) (var 0 :* (var 1 :* var 2)) (var 1 :* (var 0 :* var 2)) tt ∙ ap (λ q. i *ℤ q) e
          ∙ solve (h.l ∷ h.m ∷ h.n ∷ x ∷ y ∷ z ∷ i ∷ []) (var 6 :* (var 0 :* var 3 :+ var 1 :* var 4 :+ var 2 :* var 5)) (var 6 :* var 0 :* var 3 :+ var 6 :* var 1 :* var 4 :+ var 6 :* var 2 :* var 5) tt

module _ (i j : ℤ) (i-pos : Pos i) (j_pos : Pos j) (u v : HPoint) where
  between_ends : {p : HPoint} → Between (i ⋆ u) (j ⋆ v) p → Between u v p
  between_ends h =
      record {
        k = h.k;
        a = h.a *ℤ i;
        b = h.b *ℤ j;
        k_pos = h.k_pos;
        a_least = nonneg_mul h.a_least (pos_nonneg i-pos);
        b_least = nonneg_mul h.b_least (pos_nonneg j_pos);
        mean = h.mean ∙ triple_eq (at u.X v.X) (at u.Y v.Y) (at u.W v.W);
      }
    where
      at : (x y : ℤ) → h.a *ℤ (i *ℤ x) +ℤ h.b *ℤ (j *ℤ y) ≡ h.a *ℤ i *ℤ x +ℤ h.b *ℤ j *ℤ y
      at x y = solve (h.a ∷ h.b ∷ i ∷ j ∷ x ∷ y ∷ []) (var 0 :* (var 2 :* var 4) :+ var 1 :* (var 3 :* var 5)) (var 0 :* var 2 :* var 4 :+ var 1 :* var 3 :* var 5) tt

  same_ends : Same (i ⋆ u) (j ⋆ v) → Same u v
  same_ends h = record { same_x = at u.X u.W v.X v.W h.same_x; same_y = at u.Y u.W v.Y v.W h.same_y }
    where
      at : (x w y z : ℤ) → i *ℤ x *ℤ (j *ℤ z) ≡ j *ℤ y *ℤ (i *ℤ w) → x *ℤ z ≡ y *ℤ w
      at x w y z e =
          sub_zero_eq (x *ℤ z) (y *ℤ w)
          (cancel_zero i-pos (cancel_zero j_pos
          (solve (x ∷ w ∷ y ∷ z ∷ i ∷ j ∷ []) (var 5 :* (var 4 :* (var 2 :* var 1 :- var 0 :* var 3))) (var 5 :* var 2 :* (var 4 :* var 1) :- var 4 :* var 0 :* (var 5 :* var 3)) tt ∙ equal_zero (sym e))))

  between_times : {p : HPoint} → Between u v p → Between u v (i ⋆ p)
  between_times {p} = between_multiple (record { m = i; n = pos 1; m_pos = i-pos; n_pos = one_pos 0; same = sym (one_times (i ⋆ p)) })

-- ---- patches

module _ {A : FractionPoint → Type 0} where
  -- a triangle by homogeneous corners makes a patch
  pub patch_make : (t : Triangle) → ((q : FractionPoint) → triangles.Inside t (fractions q) → A q) → Patch A
  patch_make t f =
      record {
        a = a.0;
        b = b.0;
        c = c.0;
        non_zero = λ e. t.non_zero (no_area t.a.W t.b.W t.c.W t.a_pos t.b_pos t.c_pos t.a t.b t.c (at (λ x y z. area x y z ≡ pos 0) e));
        all = λ q h. f q (mean_corners t.a.W t.b.W t.c.W t.a_pos t.b_pos t.c_pos t.a t.b t.c (at (λ x y z. Mean x y z (fractions q)) (triangle_mean h)));
      }
    where
      a : (q : FractionPoint) × (fractions q ≡ t.a.W ⋆ t.a)
      a = as_fractions t.a t.a_pos

      b : (q : FractionPoint) × (fractions q ≡ t.b.W ⋆ t.b)
      b = as_fractions t.b t.b_pos

      c : (q : FractionPoint) × (fractions q ≡ t.c.W ⋆ t.c)
      c = as_fractions t.c t.c_pos

      at : (B : HPoint → HPoint → HPoint → Type 0) → B (fractions a.0) (fractions b.0) (fractions c.0) → B (t.a.W ⋆ t.a) (t.b.W ⋆ t.b) (t.c.W ⋆ t.c)
      at B h =
          subst (λ z. B (t.a.W ⋆ t.a) (t.b.W ⋆ t.b) z) c.1 (subst (λ y. B (t.a.W ⋆ t.a) y (fractions c.0)) b.1 (subst (λ x. B x (fractions b.0) (fractions c.0)) a.1 h))

  -- a patch has a triangle
  pub patch_triangle : Patch A → Triangle
  patch_triangle h =
      record { a = fractions h.a; b = fractions h.b; c = fractions h.c; a_pos = fractions_pos h.a; b_pos = fractions_pos h.b; c_pos = fractions_pos h.c; non_zero = h.non_zero }

  pub patch_at : (h : Patch A) (q : HPoint) → Pos q.W → triangles.Inside (patch_triangle h) q → (p : FractionPoint) × (fractions p ≡ q.W ⋆ q) × A p
  unfolding patch_triangle
  patch_at h q q-pos k =
      let p = as_fractions q q-pos in
      (p.0, p.1, h.all p.0 (of_triangle (subst (Mean (fractions h.a) (fractions h.b) (fractions h.c)) (sym p.1) (mean_multiple q.W q.W q.W q-pos q-pos q-pos (fractions h.a) (fractions h.b) (fractions h.c) k))))

  -- ---- stretches

  pub stretch_make : (t : Span) → ((q : FractionPoint) → spans.Inside t (fractions q) → A q) → Stretch A
  stretch_make t f =
      record {
        a = a.0;
        b = b.0;
        non_zero = λ e. t.non_zero (same_ends t.u.W t.v.W t.u_pos t.v_pos t.u t.v (at Same e));
        all = λ q h. f q (between_ends t.u.W t.v.W t.u_pos t.v_pos t.u t.v (at (λ x y. Between x y (fractions q)) (segment_mean h)));
      }
    where
      a : (q : FractionPoint) × (fractions q ≡ t.u.W ⋆ t.u)
      a = as_fractions t.u t.u_pos

      b : (q : FractionPoint) × (fractions q ≡ t.v.W ⋆ t.v)
      b = as_fractions t.v t.v_pos

      at : (B : HPoint → HPoint → Type 0) → B (fractions a.0) (fractions b.0) → B (t.u.W ⋆ t.u) (t.v.W ⋆ t.v)
      at B h = subst (λ y. B (t.u.W ⋆ t.u) y) b.1 (subst (λ x. B x (fractions b.0)) a.1 h)

  pub stretch_span : Stretch A → Span
  stretch_span h = record { u = fractions h.a; v = fractions h.b; u_pos = fractions_pos h.a; v_pos = fractions_pos h.b; non_zero = h.non_zero }

  pub stretch_at : (h : Stretch A) (q : HPoint) → Pos q.W → spans.Inside (stretch_span h) q → (p : FractionPoint) × (fractions p ≡ q.W ⋆ q) × A p
  unfolding stretch_span
  stretch_at h q q-pos k =
      let p = as_fractions q q-pos in
      (p.0, p.1, h.all p.0 (of_segment_lem (subst (Between (fractions h.a) (fractions h.b)) (sym p.1) (between_times q.W q.W q-pos q-pos (fractions h.a) (fractions h.b) k))))
