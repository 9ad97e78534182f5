-- The four values exclude each other; a cell whose points stand at grid points is finite; and one whose points lie on segments has no triangle.
use native.Mathlib.Omega.{arith}
use mathlib.Core.Path.{◌≡◌, refl, sym, ap, ◌∙◌, subst}
use mathlib.Core.Logic.{◌↔◌}
use mathlib.Core.List.{List, [], ◌∷◌, map}
use lib.Dec.{T}
use lib.IntN.{ℤ, pos, ◌+ℤ◌, ◌-ℤ◌, ◌*ℤ◌}
use Rattle.whole.specs.Count.{◌∈◌, some}
use Rattle.whole.proofs.Logic.{some_find, in_map}
use Rattle.whole.proofs.Solver.{var, con, ◌:+◌, ◌:*◌, solve}
use Rattle.whole.proofs.Sign.{Pos, cancel_zero, sub_zero_eq}
use Rattle.plane.specs.declared.Point.{Point}
use Rattle.plane.specs.declared.Segment.{Segment}
use Rattle.plane.specs.Plane.{FractionPoint, fractions, HPoint, on, is_on_some, is_at}
use Rattle.plane.proofs.Homogeneous.{◌⋆◌, triple_eq, triple, detᵉ}
use Rattle.plane.proofs.OnSegment.{Ordered, on_along, on_away}
use Rattle.plane.proofs.Means.{at_read}
use Rattle.plane.proofs.Scale.{fractions_pos, on_some_scale}
use Rattle.plane_dimensions.specs.declared.Dimension.{Dimension}
use Rattle.plane_dimensions.specs.declared.Dimension.TheVariants.{Empty, Points, Length, Area}
use Rattle.plane_dimensions.specs.Dimensions.{Same, area, OfSegment, OfTriangle, Stretch, Patch, Finite, Value, OneValue, not_empty}
use Rattle.plane_dimensions.proofs.Triangles as triangles
use Rattle.plane_dimensions.proofs.Triangles.{corners, firstᵉ, secondᵉ, thirdᵉ}
use Rattle.plane_dimensions.proofs.Spans as spans
use Rattle.plane_dimensions.proofs.Spans.{first_end, same_at, same_swap}
use Rattle.plane_dimensions.proofs.Border.{of_segment_lem, patch_triangle, patch_at, stretch_span, stretch_at}

-- ---- triangles

-- with two equal corners there is no area
same_flat : (a b c : HPoint) → Pos b.W → Same a b → area a b c ≡ pos 0
unfolding area
same_flat a b c b_pos e = cancel_zero b_pos (out ∙ ap (λ q. area q b c) moved ∙ flat)
  where
    out : b.W *ℤ area a b c ≡ area (b.W ⋆ a) b c
    out =
        solve (corners a b c) (var 5 :* detᵉ firstᵉ secondᵉ thirdᵉ)
        (detᵉ (triple (var 5 :* var 0) (var 5 :* var 1) (var 5 :* var 2)) secondᵉ thirdᵉ)
        tt

    turn : (x y : ℤ) → x *ℤ y ≡ y *ℤ x
    turn x y = solve (x ∷ y ∷ []) (var 0 :* var 1) (var 1 :* var 0) tt

    moved : b.W ⋆ a ≡ a.W ⋆ b
    moved = triple_eq (turn b.W a.X ∙ e.same_x ∙ turn b.X a.W) (turn b.W a.Y ∙ e.same_y ∙ turn b.Y a.W) (turn b.W a.W)

    flat : area (a.W ⋆ b) b c ≡ pos 0
    flat = solve (corners a b c) (detᵉ (triple (var 2 :* var 3) (var 2 :* var 4) (var 2 :* var 5)) secondᵉ thirdᵉ) (con (pos 0)) tt

side_inside : {a b p : HPoint} (c : HPoint) → OfSegment a b p → OfTriangle a b c p
side_inside {a} {b} {p} c h =
    record {
      k = h.k;
      l = h.l;
      m = h.m;
      n = 0;
      above_zero = h.above_zero;
      mean_x = h.mean_x ∙ is a.X b.X c.X;
      mean_y = h.mean_y ∙ is a.Y b.Y c.Y;
      mean_w = h.mean_w ∙ is a.W b.W c.W;
    }
  where
    is : (x y z : ℤ) → pos h.l *ℤ x +ℤ pos h.m *ℤ y ≡ pos h.l *ℤ x +ℤ pos h.m *ℤ y +ℤ pos 0 *ℤ z
    is x y z = solve (pos h.l ∷ pos h.m ∷ x ∷ y ∷ z ∷ []) (var 0 :* var 2 :+ var 1 :* var 3) (var 0 :* var 2 :+ var 1 :* var 3 :+ con (pos 0) :* var 4) tt

-- the fraction point at a grid point
whole_point : Point → FractionPoint
whole_point e = record { at_x = record { over = e.x; under = 1; above_zero = omega arith }; at_y = record { over = e.y; under = 1; above_zero = omega arith } }

module _ {A : FractionPoint → Type 0} where
  -- ---- no triangle lies on segments

  pub no_patch : (l : List Segment) → ((s : Segment) → s ∈ l → Ordered s) → ((p : FractionPoint) → A p → T (is_on_some l (fractions p))) → Patch A → ⊥
  unfolding is_on_some
  no_patch l o f h =
      let w = triangles.clear_all l o (patch_triangle h) in
      let z = w.small.a in
      let p = patch_at h z w.small.a_pos (w.inner z (triangles.corner w.small)) in
      let t : T (is_on_some l z) = subst T (ap (is_on_some l) p.1 ∙ on_some_scale l z.W w.small.a_pos z) (f p.0 p.2) in
      let s = some_find (λ s. on s z) l t in
      on_away s.0 z (o s.0 s.1) (on_along s.0 z (o s.0 s.1) s.2) (w.all z w.small.a_pos (triangles.corner w.small) s.0 s.1)

  -- ---- a segment's points are not finite in number

  pub not_finite : Stretch A → Finite A → ⊥
  not_finite h f =
      let w = spans.clear_all fractions fractions_pos f.list (stretch_span h) in
      let z = w.small.u in
      let first = first_end w.small.u w.small.v in
      let p = stretch_at h z w.small.u_pos (w.inner z first) in
      let e = f.each p.0 p.2 in
      w.all z w.small.u_pos first e.0 e.1 (same_at (fractions p.0) (fractions_pos p.0) (here_too z p.0 p.1) (same_swap e.2))
    where
      -- a multiple is the same point
      here_too : (z : HPoint) (p : FractionPoint) → fractions p ≡ z.W ⋆ z → Same z (fractions p)
      here_too z p e = subst (Same z) (sym e) (record { same_x = is z.X; same_y = is z.Y })
        where
          is : (x : ℤ) → x *ℤ (z.W *ℤ z.W) ≡ z.W *ℤ x *ℤ z.W
          is x = solve (x ∷ z.W ∷ []) (var 0 :* (var 1 :* var 1)) (var 1 :* var 0 :* var 1) tt

  -- ---- a triangle with area has a side of non-zero length

  pub patch_stretch : Patch A → Stretch A
  patch_stretch h =
      record {
        a = h.a;
        b = h.b;
        non_zero = λ e. h.non_zero (same_flat (fractions h.a) (fractions h.b) (fractions h.c) (fractions_pos h.b) e);
        all = λ p k. h.all p (side_inside (fractions h.c) k);
      }

  pub stretch_point : Stretch A → (p : FractionPoint) × A p
  stretch_point h = (h.a, h.all h.a (of_segment_lem (first_end (fractions h.a) (fractions h.b))))

  -- ---- points that stand at grid points are finite in number

  pub at_points : (l : List Point) → ((p : FractionPoint) → A p → T (some (λ e. is_at e (fractions p)) l)) → Finite A
  unfolding whole_point
  at_points l f =
      record {
        list = map whole_point l;
        each = λ p a. let w = some_find (λ e. is_at e (fractions p)) l (f p a) in (whole_point w.0, in_map whole_point w.1, same w.0 p w.2);
      }
    where
      same : (e : Point) (p : FractionPoint) → T (is_at e (fractions p)) → Same (fractions p) (fractions (whole_point e))
      same e p t =
          let h = at_read e (fractions p) t in
          record { same_x = is (fractions p).X e.x h.at_x; same_y = is (fractions p).Y e.y h.at_y }
        where
          is : (x c : ℤ) → x -ℤ c *ℤ (fractions p).W ≡ pos 0 → x *ℤ pos 1 ≡ c *ℤ pos 1 *ℤ (fractions p).W
          is x c e =
              solve (x ∷ []) (var 0 :* con (pos 1)) (var 0) tt ∙ sym (sub_zero_eq (c *ℤ (fractions p).W) x e)
              ∙ solve (c ∷ (fractions p).W ∷ []) (var 0 :* var 1) (var 0 :* con (pos 1) :* var 1) tt

-- ---- a set that is not empty has a point

pub some_point : (A : FractionPoint → Type 0) (d : Dimension) → Value d A → T (not_empty d) ↔ ((p : FractionPoint) × A p)
some_point A Empty x = (λ t. absurd t, λ w. x w.0 w.1)
some_point A Points x = (λ t. (x.0, x.1), λ w. tt)
some_point A Length x = (λ t. stretch_point x.0, λ w. tt)
some_point A Area x = (λ t. stretch_point (patch_stretch x), λ w. tt)

-- ---- at most one value

pub only_one : OneValue
only_one A Empty Empty x y = refl
only_one A Empty Points x y = absurd (x y.0 y.1)
only_one A Empty Length x y = let w = stretch_point y.0 in absurd (x w.0 w.1)
only_one A Empty Area x y = let w = stretch_point (patch_stretch y) in absurd (x w.0 w.1)
only_one A Points Empty x y = absurd (y x.0 x.1)
only_one A Points Points x y = refl
only_one A Points Length x y = absurd (not_finite y.0 x.2)
only_one A Points Area x y = absurd (not_finite (patch_stretch y) x.2)
only_one A Length Empty x y = let w = stretch_point x.0 in absurd (y w.0 w.1)
only_one A Length Points x y = absurd (not_finite x.0 y.2)
only_one A Length Length x y = refl
only_one A Length Area x y = absurd (x.1 y)
only_one A Area Empty x y = let w = stretch_point (patch_stretch x) in absurd (y w.0 w.1)
only_one A Area Points x y = absurd (not_finite (patch_stretch x) y.2)
only_one A Area Length x y = absurd (y.1 x)
only_one A Area Area x y = refl
