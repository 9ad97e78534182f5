-- A line against a region.
use mathlib.Core.Path.{◌≡◌, sym, subst}
use mathlib.Core.Logic.{◌⊎◌, inl, inr, ⊎_elim}
use mathlib.Core.Bool.{true, not, ◌&&◌, ◌||◌}
use mathlib.Core.List.{List, []}
use lib.Dec.{T, T_not, not_T}
use Rattle.whole.specs.Count.{◌∈◌}
use Rattle.whole.proofs.Sign.{Pos, one_pos}
use Rattle.whole.proofs.Logic.{and_left, and_right, and_make, or_cases, or_left, or_right, some_find, some_make, decide, is_false}
use Rattle.plane.specs.declared.Point.{Point}
use Rattle.plane.specs.declared.Segment.{Segment}
use Rattle.plane.specs.Plane.{HPoint, grid, midpoint, is_at, is_end, is_same_segment, is_on_some, inside, is_boundary, ends_at, Object, in_interior, in_boundary, in_exterior}
use Rattle.plane.proofs.OnSegment.{Ordered, Along}
use Rattle.plane.proofs.Equal.{same_segment_read, same_segment_refl}
use Rattle.plane.proofs.Scale.{is_end_scale, in_interior_scale, in_exterior_scale}
use Rattle.plane.proofs.Means.{at_read, EndOf, left_end, right_end, middle, end_read, end_make}
use Rattle.plane.proofs.AlongSegment.{Apart}
use Rattle.plane.proofs.Accepted.{Split, Regular, Across}
use Rattle.flags.specs.Flags.{has_segment, on_object, is_bound, joins, seg_inside, seg_shared, seg_outside, seg_unshared, poi_joins, bound_joins, bound_inside_test, bound_outside_test}
use Rattle.cells_matrix.proofs.Common.{Cell, across_swap, bound_scale, carry, carry_not, on_find, on_make, end_along, bound_at, bound_cell, end_find, end_give, end_place_lem, line_outside, outside_line, outside_both, along_clear, line_inner, away_none, filled, first_of, inside_filled, inside_off, is_in, middle_off, middle_in, line_on, moving, another_end}
use Rattle.cells_matrix.proofs.Beside.{region_inner}

module _ (F G : List Segment) (f : Split F) (g : Regular G) (across : Across F G) where
  ord : (t : Segment) → t ∈ G → Ordered t
  ord = g.split.ordered

  -- a point of F off G lies on a segment that is none of G's, and is inside or not as its midpoint is
  off_own : (p : HPoint) → Pos p.W → T (not (is_on_some G p)) → (s : Segment) → s ∈ F → Along s p → T (not (has_segment G s)) × (inside G p ≡ inside G (midpoint s))
  off_own p h off s m a = (none, moving G g s (f.ordered s m) (λ t k. across s t m k) none p h a off)
    where
      none : T (not (has_segment G s))
      none = not_T (has_segment G s) (λ u. T_not (is_on_some G p) off (on_make G ord p s (is_in G s u) a))

  pub ii : Cell (seg_inside F G) (in_interior (Object.line F)) (in_interior (Object.region G))
  unfolding in_interior
  ii =
      record {
        found = λ t. let w = some_find (λ r. not (has_segment G r) && inside G (midpoint r)) F t in (midpoint w.0, one_pos 1, middle_in F f w.0 w.1, and_right (not (has_segment G w.0)) (inside G (midpoint w.0)) w.2);
        told = λ p h s t. let w = line_on F f.ordered p s in let k = off_own p h (inside_off G p t) w.0 w.1 w.2 in some_make (λ r. not (has_segment G r) && inside G (midpoint r)) w.1 (and_make (not (has_segment G w.0)) (inside G (midpoint w.0)) k.0 (subst T k.1 t));
      }

  pub ie : Cell (seg_outside F G) (in_interior (Object.line F)) (in_exterior (Object.region G))
  unfolding in_exterior in_interior in_boundary
  ie =
      record {
        found = λ t. let w = some_find (λ r. not (has_segment G r) && not (inside G (midpoint r))) F t in (midpoint w.0, one_pos 1, middle_in F f w.0 w.1, and_make (not (inside G (midpoint w.0))) (not (is_on_some G (midpoint w.0))) (and_right (not (has_segment G w.0)) (not (inside G (midpoint w.0))) w.2) (middle_off G ord w.0 (f.ordered w.0 w.1) (λ r k. across w.0 r w.1 k) (and_left (not (has_segment G w.0)) (not (inside G (midpoint w.0))) w.2)));
        told = λ p h s t. let w = line_on F f.ordered p s in let k = off_own p h (and_right (not (inside G p)) (not (is_on_some G p)) t) w.0 w.1 w.2 in some_make (λ r. not (has_segment G r) && not (inside G (midpoint r))) w.1 (and_make (not (has_segment G w.0)) (not (inside G (midpoint w.0))) k.0 (subst (λ b. T (not b)) k.1 (and_left (not (inside G p)) (not (is_on_some G p)) t)));
      }

  -- a common end of unequal segments, as a point of both
  joined : (s : Segment) (v : Point) → T (joins G s v) → T (is_on_some G (grid v))
  joined s v t =
      let w = some_find (λ r. not (is_same_segment s r) && is_end r (grid v)) G t in
      on_make G ord (grid v) w.0 w.1 (end_along w.0 (grid v) (one_pos 0) (end_read w.0 (grid v) (and_right (not (is_same_segment s w.0)) (is_end w.0 (grid v)) w.2)))

  -- and back: p on s and on an unequal segment of G stands at a common end
  join : (p : HPoint) → Pos p.W → (s t : Segment) → t ∈ G → T (not (is_same_segment s t)) → EndOf t p → (v : Point) → T (is_at v p) → T (joins G s v)
  join p h s t m u e v i =
      some_make (λ r. not (is_same_segment s r) && is_end r (grid v)) m (and_make (not (is_same_segment s t)) (is_end t (grid v)) u (carry v p h i (is_end t) (is_end_scale t) (end_make t p e)))

  pub ib : Cell (seg_shared F G || poi_joins F G) (in_interior (Object.line F)) (in_boundary (Object.region G))
  unfolding in_interior in_boundary
  ib = record { found = λ t. ⊎_elim by_segment by_end (or_cases (seg_shared F G) (poi_joins F G) t); told = told }
    where
      by_segment : T (seg_shared F G) → (p : HPoint) × Pos p.W × T (in_interior (Object.line F) p) × T (is_on_some G p)
      by_segment t =
          let w = some_find (has_segment G) F t in
          let q = along_clear w.0 (f.ordered w.0 w.1) [] F [] in
          (q.0, q.1, line_inner F f.ordered w.0 w.1 q.0 q.2 q.4, on_make G ord q.0 w.0 (is_in G w.0 w.2) q.2)

      by_end : T (poi_joins F G) → (p : HPoint) × Pos p.W × T (in_interior (Object.line F) p) × T (is_on_some G p)
      by_end t =
          let w = end_find (λ s v. joins G s v && not (is_bound F v)) F t in
          let v = w.2.0 in (
            grid v,
            one_pos 0,
            and_make (is_on_some F (grid v)) (not (is_bound F v)) (on_make F f.ordered (grid v) w.0 w.1 (end_along w.0 (grid v) (one_pos 0) (end_read w.0 (grid v) w.2.1))) (and_right (joins G w.0 v) (not (is_bound F v)) w.2.2),
            joined w.0 v (and_left (joins G w.0 v) (not (is_bound F v)) w.2.2),
          )

      told : (p : HPoint) → Pos p.W → T (in_interior (Object.line F) p) → T (is_on_some G p) → T (seg_shared F G || poi_joins F G)
      told p h s t =
          let a = line_on F f.ordered p s in
          let b = on_find G ord p t in
          ⊎_elim (λ e. or_left (seg_shared F G) (poi_joins F G) (some_make (has_segment G) a.1 (some_make (is_same_segment a.0) b.1 e)))
          (λ u. or_right (seg_shared F G) (poi_joins F G) (at_end_lem a b u (across a.0 b.0 a.1 b.1)))
          (decide (is_same_segment a.0 b.0))
        where
          at_end_lem : (a : (r : Segment) × (r ∈ F) × Along r p) (b : (r : Segment) × (r ∈ G) × Along r p) → T (not (is_same_segment a.0 b.0)) → (a.0 ≡ b.0) ⊎ Apart a.0 b.0 → T (poi_joins F G)
          at_end_lem a b u (inl e) = absurd (T_not (is_same_segment a.0 b.0) u (subst (λ r. T (is_same_segment a.0 r)) e (same_segment_refl a.0)))
          at_end_lem a b u (inr k) =
              let e = k p h a.2 b.2 in
              let (v, i, side) = end_place_lem a.0 p e.0 in
              end_give (λ s v. joins G s v && not (is_bound F v)) F a.0 a.1 v side
              (and_make (joins G a.0 v) (not (is_bound F v)) (join p h a.0 b.0 b.1 u e.1 v i) (carry_not v p h i (λ q. is_boundary (ends_at F q)) (bound_scale F) (and_right (is_on_some F p) (not (is_boundary (ends_at F p))) s)))

  pub bi : Cell (bound_inside_test F G) (in_boundary (Object.line F)) (in_interior (Object.region G))
  unfolding in_interior
  bi =
      bound_cell F (in_interior (Object.region G)) (in_interior_scale (Object.region G)) (λ v. inside G (grid v) && is_bound F v)
      (λ v t. (and_right (inside G (grid v)) (is_bound F v) t, and_left (inside G (grid v)) (is_bound F v) t)) (λ v s t. and_make (inside G (grid v)) (is_bound F v) t s)

  pub be : Cell (bound_outside_test F G) (in_boundary (Object.line F)) (in_exterior (Object.region G))
  unfolding in_exterior in_interior in_boundary
  be =
      bound_cell F (in_exterior (Object.region G)) (in_exterior_scale (Object.region G)) (λ v. not (inside G (grid v)) && is_bound F v && not (on_object G v))
      (λ v t. let k = and_left (not (inside G (grid v)) && is_bound F v) (not (on_object G v)) t in (and_right (not (inside G (grid v))) (is_bound F v) k, and_make (not (inside G (grid v))) (not (on_object G v)) (and_left (not (inside G (grid v))) (is_bound F v) k) (and_right (not (inside G (grid v)) && is_bound F v) (not (on_object G v)) t)))
      (λ v s t. and_make (not (inside G (grid v)) && is_bound F v) (not (on_object G v)) (and_make (not (inside G (grid v))) (is_bound F v) (and_left (not (inside G (grid v))) (not (on_object G v)) t) s) (and_right (not (inside G (grid v))) (not (on_object G v)) t))

  pub bb : Cell (bound_joins F G) (in_boundary (Object.line F)) (in_boundary (Object.region G))
  unfolding in_boundary
  bb = record { found = found; told = told }
    where
      found : T (bound_joins F G) → (p : HPoint) × Pos p.W × T (is_boundary (ends_at F p)) × T (is_on_some G p)
      found t =
          let w = end_find (λ s v. joins G s v && is_bound F v) F t in
          let v = w.2.0 in
          (grid v, one_pos 0, and_right (joins G w.0 v) (is_bound F v) w.2.2, joined w.0 v (and_left (joins G w.0 v) (is_bound F v) w.2.2))

      told : (p : HPoint) → Pos p.W → T (is_boundary (ends_at F p)) → T (is_on_some G p) → T (bound_joins F G)
      told p h s t =
          let a = bound_at F p s in
          let v = a.2.0 in
          let b = on_find G ord p t in
          end_give (λ s v. joins G s v && is_bound F v) F a.0 a.1 v a.2.2
          (and_make (joins G a.0 v) (is_bound F v) (meet a.0 a.1 v a.2.1 a.2.2 b (decide (is_same_segment a.0 b.0))) (carry v p h a.2.1 (λ q. is_boundary (ends_at F q)) (bound_scale F) s))
        where
          own_end : (s : Segment) (v : Point) → T (is_at v p) → (v ≡ s.left) ⊎ (v ≡ s.right) → EndOf s p
          own_end s v i (inl e) = left_end (at_read s.left p (subst (λ u. T (is_at u p)) e i))
          own_end s v i (inr e) = right_end (at_read s.right p (subst (λ u. T (is_at u p)) e i))

          meet : (s : Segment) → s ∈ F → (v : Point) → T (is_at v p) → (v ≡ s.left) ⊎ (v ≡ s.right) → (b : (r : Segment) × (r ∈ G) × Along r p) → T (is_same_segment s b.0) ⊎ T (not (is_same_segment s b.0)) → T (joins G s v)
          meet s m v i side b (inl u) =
              another_end G g s (subst (λ r. r ∈ G) (sym (same_segment_read s b.0 u)) b.1) v (carry v p h i (is_end s) (is_end_scale s) (end_make s p (own_end s v i side)))
          meet s m v i side b (inr u) = go (across s b.0 m b.1)
            where
              go : (s ≡ b.0) ⊎ Apart s b.0 → T (joins G s v)
              go (inl e) = absurd (T_not (is_same_segment s b.0) u (subst (λ r. T (is_same_segment s r)) e (same_segment_refl s)))
              go (inr k) = join p h s b.0 b.1 u (k p h (end_along s p h (own_end s v i side)) b.2).1 v i

  pub ei : Cell (filled G) (in_exterior (Object.line F)) (in_interior (Object.region G))
  unfolding in_interior
  ei =
      record {
        found = λ t. let s = first_of G t in let w = region_inner [] F G g (across_swap across) f.ordered s.0 s.1 in (w.at, w.at_pos, outside_line F f.ordered w.at w.at_pos (is_false (is_on_some F w.at) (away_none F f.ordered w.at w.away)), w.within);
        told = λ p h s t. inside_filled G p t;
      }

  pub eb : Cell (seg_unshared G F) (in_exterior (Object.line F)) (in_boundary (Object.region G))
  unfolding in_boundary
  eb =
      record {
        found = λ t. let w = some_find (λ r. not (has_segment F r)) G t in (midpoint w.0, one_pos 1, outside_line F f.ordered (midpoint w.0) (one_pos 1) (middle_off F f.ordered w.0 (ord w.0 w.1) (λ r k. across_swap across w.0 r w.1 k) w.2), on_make G ord (midpoint w.0) w.0 w.1 (middle w.0));
        told = λ p h s t. let w = on_find G ord p t in some_make (λ r. not (has_segment F r)) w.1 (not_T (has_segment F w.0) (λ u. T_not (is_on_some F p) (line_outside F f.ordered p h s) (on_make F f.ordered p w.0 (is_in F w.0 u) w.2)));
      }

  pub ee : Cell true (in_exterior (Object.line F)) (in_exterior (Object.region G))
  ee = outside_both (Object.line F) (Object.region G) f.ordered ord
