-- Around a point off some segments and points there is a triangle off them, all of whose points have the point's parities.
use Prim.Native.Nat.{ℕ, ◌≤◌}
use native.Mathlib.Omega.{arith}
use mathlib.Core.Path.{◌≡◌, sym, ap, ◌∙◌, subst}
use mathlib.Core.Logic.{⊎_elim}
use mathlib.Core.Bool.{false}
use mathlib.Core.List.{List, [], ◌∷◌}
use lib.Dec.{T}
use lib.IntN.{ℤ, pos, ◌+ℤ◌, ◌-ℤ◌, ◌*ℤ◌}
use Rattle.whole.specs.Count.{◌∈◌}
use Rattle.whole.proofs.Logic.{refute}
use Rattle.whole.proofs.Solver.{var, con, ◌:+◌, ◌:*◌, solve}
use Rattle.whole.proofs.Sign.{Pos, pos_nonneg, pos_mul, nonneg_mul, nonneg_add, zero_pos, sub_zero_eq}
use Rattle.whole.proofs.Parity.{parity}
use Rattle.plane.specs.declared.Point.{Point}
use Rattle.plane.specs.declared.Segment.{Segment}
use Rattle.plane.specs.Plane.{FractionPoint, fractions, HPoint, grid, is_at, counts_below}
use Rattle.plane.proofs.Homogeneous.{triple_eq, triple, detᵉ}
use Rattle.plane.proofs.OnSegment.{Between, Ordered, width, Away, on_away}
use Rattle.plane.proofs.Meeting.{Clear, clear_or_meets}
use Rattle.plane.proofs.Means.{at_read, at_make, between_compose}
use Rattle.plane.proofs.Path.{Even, path}
use Rattle.plane.proofs.Scale.{fractions_pos}
use Rattle.plane.proofs.Steps.{Large, large_map, large_and, large_each}
use Rattle.plane_dimensions.specs.Dimensions.{Same, area, Patch}
use Rattle.plane_dimensions.proofs.Means.{Mean}
use Rattle.plane_dimensions.proofs.Avoided.{away_kept, Off, off_kept, equal_zero}
use Rattle.plane_dimensions.proofs.Triangles.{Triangle, Inside, firstᵉ, narrow, narrow_keeps, Throughout}
use Rattle.plane_dimensions.proofs.Spans as spans
use Rattle.plane_dimensions.proofs.Spans.{Span}
use Rattle.plane_dimensions.proofs.Border.{patch_make}

-- ---- at a grid point

pub at_same : (e : Point) (p : HPoint) → T (is_at e p) → Same p (grid e)
at_same e p t = let h = at_read e p t in record { same_x = is p.X e.x h.at_x; same_y = is p.Y e.y h.at_y }
  where
    is : (x c : ℤ) → x -ℤ c *ℤ p.W ≡ pos 0 → x *ℤ pos 1 ≡ c *ℤ p.W
    is x c e = solve (x ∷ []) (var 0 :* con (pos 1)) (var 0) tt ∙ sym (sub_zero_eq (c *ℤ p.W) x e)

pub same_at_grid : (e : Point) (p : HPoint) → Same p (grid e) → T (is_at e p)
same_at_grid e p h = at_make e p (record { at_x = is p.X e.x h.same_x; at_y = is p.Y e.y h.same_y })
  where
    is : (x c : ℤ) → x *ℤ pos 1 ≡ c *ℤ p.W → x -ℤ c *ℤ p.W ≡ pos 0
    is x c e = equal_zero (solve (x ∷ []) (var 0) (var 0 :* con (pos 1)) tt ∙ e)

pub off_read : (e : Point) (p : HPoint) → is_at e p ≡ false → Off (grid e) p
off_read e p h s = absurd (subst T h (same_at_grid e p s))

pub off_make : (e : Point) (p : HPoint) → Off (grid e) p → is_at e p ≡ false
off_make e p h = refute (is_at e p) (λ t. h (at_same e p t))

-- ---- a triangle at p

-- p, the point one over W right of it, and the one above it
pub at_point : (p : HPoint) → Pos p.W → Triangle
unfolding area
at_point p h =
    record {
      a = p;
      b = record { X = p.X +ℤ pos 1; Y = p.Y; W = p.W };
      c = record { X = p.X; Y = p.Y +ℤ pos 1; W = p.W };
      a_pos = h;
      b_pos = h;
      c_pos = h;
      non_zero = λ e. zero_pos (sym is ∙ e) h;
    }
  where
    is : area p (record { X = p.X +ℤ pos 1; Y = p.Y; W = p.W }) (record { X = p.X; Y = p.Y +ℤ pos 1; W = p.W }) ≡ p.W
    is =
        solve (p.X ∷ p.Y ∷ p.W ∷ []) (detᵉ firstᵉ (triple (var 0 :+ con (pos 1)) (var 1) (var 2)) (triple (var 0) (var 1 :+ con (pos 1)) (var 2))) (var 2) tt

-- the way from the first corner to a point of the triangle stays in it
way : {a b c q z : HPoint} → Mean a b c q → Between a q z → Mean a b c z
way {a} {b} {c} {q} {z} h f =
    record {
      k = f.k *ℤ h.k;
      l = f.a *ℤ h.k +ℤ f.b *ℤ h.l;
      m = f.b *ℤ h.m;
      n = f.b *ℤ h.n;
      k_pos = pos_mul f.k_pos h.k_pos;
      l_least = nonneg_add (nonneg_mul f.a_least (pos_nonneg h.k_pos)) (nonneg_mul f.b_least h.l_least);
      m_least = nonneg_mul f.b_least h.m_least;
      n_least = nonneg_mul f.b_least h.n_least;
      mean = triple_eq (is a.X b.X c.X q.X z.X (ap (λ x. x.X) f.mean) (ap (λ x. x.X) h.mean)) (is a.Y b.Y c.Y q.Y z.Y (ap (λ x. x.Y) f.mean) (ap (λ x. x.Y) h.mean)) (is a.W b.W c.W q.W z.W (ap (λ x. x.W) f.mean) (ap (λ x. x.W) h.mean));
    }
  where
    is : (a b c q z : ℤ) → f.k *ℤ z ≡ f.a *ℤ a +ℤ f.b *ℤ q → h.k *ℤ q ≡ h.l *ℤ a +ℤ h.m *ℤ b +ℤ h.n *ℤ c
        → f.k *ℤ h.k *ℤ z ≡ (f.a *ℤ h.k +ℤ f.b *ℤ h.l) *ℤ a +ℤ f.b *ℤ h.m *ℤ b +ℤ f.b *ℤ h.n *ℤ c
    is a b c q z e g =
        solve (f.k ∷ h.k ∷ z ∷ []) (var 0 :* var 1 :* var 2) (var 1 :* (var 0 :* var 2)) tt
        ∙ ap (λ x. h.k *ℤ x) e
        ∙ solve (h.k ∷ f.a ∷ f.b ∷ a ∷ q ∷ []) (var 0 :* (var 1 :* var 3 :+ var 2 :* var 4)) (var 1 :* var 0 :* var 3 :+ var 2 :* (var 0 :* var 4)) tt
        ∙ ap (λ x. f.a *ℤ h.k *ℤ a +ℤ f.b *ℤ x) g
        ∙ solve (h.k ∷ f.a ∷ f.b ∷ h.l ∷ h.m ∷ h.n ∷ a ∷ b ∷ c ∷ []) (var 1 :* var 0 :* var 6 :+ var 2 :* (var 3 :* var 6 :+ var 4 :* var 7 :+ var 5 :* var 8))
        ((var 1 :* var 0 :+ var 2 :* var 3) :* var 6 :+ var 2 :* var 4 :* var 7 :+ var 2 :* var 5 :* var 8) tt

-- ---- the points around p

module _ (H : List Segment) (E : List Point) (p : HPoint) where
  pub record Around (q : HPoint) : Type 0 where
    pub away : (t : Segment) → t ∈ H → Away t q
    pub off : (e : Point) → e ∈ E → is_at e q ≡ false
    pub parities : (l : List Segment) → Even l → ((t : Segment) → t ∈ l → t ∈ H) → parity (counts_below q) l ≡ parity (counts_below p) l

  module _ (o : (t : Segment) → t ∈ H → Ordered t) (p_pos : Pos p.W) (away : (t : Segment) → t ∈ H → Away t p) (off : (e : Point) → e ∈ E → is_at e p ≡ false) where
    clears : Large (λ n. ((t : Segment) → t ∈ H → Throughout (at_point p p_pos) (Away t) n) × ((e : Point) → e ∈ E → Throughout (at_point p p_pos) (Off (grid e)) n))
    unfolding at_point
    clears =
        large_and (large_each H (λ t m. narrow_keeps (at_point p p_pos) (away_kept t (away t m))))
        (large_each E (λ e m. narrow_keeps (at_point p p_pos) (off_kept (grid e) (off_read e p (off e m)))))

    pub patch_around : {A : FractionPoint → Type 0} → ((q : FractionPoint) → Around (fractions q) → A q) → Patch A
    unfolding at_point
    patch_around f = patch_make t (λ q h. f q (record { away = λ s m. clear.0 s m (fractions q) (fractions_pos q) h; off = λ e m. off_make e (fractions q) (clear.1 e m (fractions q) (fractions_pos q) h); parities = λ l even sub. sym (path p (fractions q) p_pos (fractions_pos q) l even (λ s m. width (o s (sub s m))) (λ s m. free q h s (sub s m))) }))
      where
        least : {n : ℕ} → n ≤ n
        least = omega arith

        clear : ((t : Segment) → t ∈ H → Throughout (at_point p p_pos) (Away t) clears.from) × ((e : Point) → e ∈ E → Throughout (at_point p p_pos) (Off (grid e)) clears.from)
        clear = clears.holds clears.from least

        t : Triangle
        t = narrow (at_point p p_pos) clears.from

        free : (q : FractionPoint) → Inside t (fractions q) → (s : Segment) → s ∈ H → Clear p (fractions q) s
        free q h s m = ⊎_elim (λ c. c) (λ w. on_away s w.z (o s m) w.on_segment (clear.0 s m w.z w.z_pos (way h w.on_path))) (clear_or_meets p (fractions q) p_pos (fractions_pos q) s)

    -- and so in a part of any segment from p
    pub span_around : (v : HPoint) (v_pos : Pos v.W) (far : Same p v → ⊥) → spans.Smaller (record { u = p; v = v; u_pos = p_pos; v_pos = v_pos; non_zero = far }) Around
    unfolding spans.narrow
    span_around v v_pos far = spans.at_end_lem t (large_map around (large_and (large_each H (λ s m. spans.narrow_keeps t (away_kept s (away s m)))) (large_each E (λ e m. spans.narrow_keeps t (off_kept (grid e) (off_read e p (off e m)))))))
      where
        t : Span
        t = record { u = p; v = v; u_pos = p_pos; v_pos = v_pos; non_zero = far }

        around : (n : ℕ) → ((s : Segment) → s ∈ H → (q : HPoint) → Pos q.W → spans.Inside (spans.narrow t n) q → Away s q) × ((e : Point) → e ∈ E → (q : HPoint) → Pos q.W → spans.Inside (spans.narrow t n) q → Off (grid e) q)
            → (q : HPoint) → Pos q.W → spans.Inside (spans.narrow t n) q → Around q
        around n clear q q-pos h =
            record {
              away = λ s m. clear.0 s m q q-pos h;
              off = λ e m. off_make e q (clear.1 e m q q-pos h);
              parities = λ l even sub. sym (path p q p_pos q-pos l even (λ s m. width (o s (sub s m))) (λ s m. free s (sub s m)));
            }
          where
            free : (s : Segment) → s ∈ H → Clear p q s
            free s m = ⊎_elim (λ c. c) (λ w. on_away s w.z (o s m) w.on_segment (clear.0 s m w.z w.z_pos (between_compose (spans.first_end p (spans.narrow t n).v) h w.on_path))) (clear_or_meets p q p_pos q-pos s)

-- of fewer segments and points
pub around_fewer : {H I : List Segment} {E D : List Point} {p q : HPoint} → ((t : Segment) → t ∈ I → t ∈ H) → ((e : Point) → e ∈ D → e ∈ E) → Around H E p q → Around I D p q
around_fewer f g r = record { away = λ t m. r.away t (f t m); off = λ e m. r.off e (g e m); parities = λ l even sub. r.parities l even (λ t m. f t (sub t m)) }
