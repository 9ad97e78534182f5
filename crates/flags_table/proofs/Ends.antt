-- An object beside another that its segments share only common ends with: what is asked of an end of one of its segments, by the degrees of the point
-- in both objects; and "some end of some segment" as "some element, by its point".
use Prim.Native.Nat.{ℕ, ◌<◌}
use mathlib.Core.Path.{◌≡◌, sym, ap, subst, ◌∙◌}
use mathlib.Core.Logic.{◌⊎◌, inl, inr, ⊎_elim}
use mathlib.Core.Bool.{Bool, true, false, not, ◌&&◌, ◌||◌}
use mathlib.Core.List.{List}
use lib.Dec.{T, ltb}
use Rattle.whole.specs.Count.{◌∈◌, some}
use Rattle.whole.proofs.Sign.{one_pos}
use Rattle.whole.proofs.Logic.{and_right, and_make, or_cases, or_left, or_right, true_is, same_test, decide, some_find, some_make}
use Rattle.plane.specs.declared.Point.{Point}
use Rattle.plane.specs.declared.Segment.{Segment}
use Rattle.plane.specs.declared.Halfsegment.{Halfsegment}
use Rattle.plane.specs.Plane.{grid, is_same_segment, dominating, is_at, is_end, is_boundary, ends_at}
use Rattle.plane.proofs.OnSegment.{Along, ordered_read}
use Rattle.plane.proofs.Equal.{same_segment_read}
use Rattle.plane.proofs.Means.{end_read, end_make}
use Rattle.plane.proofs.AlongSegment.{Apart}
use Rattle.plane.proofs.Order.{half_of}
use Rattle.plane.proofs.Accepted.{Across}
use Rattle.scene.specs.declared.Layout.{Layout}
use Rattle.scene.specs.Conditions.{elements, has_segments, is_region, half, segments}
use Rattle.scene_segments.proofs.Elements.{region_segments}
use Rattle.scene_segments.proofs.Indices.{element_in, in_element}
use Rattle.check_verdict.proofs.Laws.{SoundObject, segment_in, half_of_lem, all_ordered, regular}
use Rattle.flags.specs.Flags.{on_object, has_end, is_bound, joins, has_some_end}
use Rattle.flags.specs.Boundary.{EvenlyBounded}
use Rattle.flags.proofs.Boundary.{evenly_bounded}
use Rattle.cells_matrix.proofs.Common.{at_itself, on_find, on_make, end_along, another_end}
use Rattle.scene_keys.specs.Keyed.{element_point}
use Rattle.flags_meetings.specs.Met.{degree}
use Rattle.check_conditions.proofs.Counting.{some_count}
use Rattle.scene_keys.proofs.Elements.{point_of_half}
use Rattle.flags_table.proofs.Degrees.{degree_ends}

-- ---- one object

module _ {s : List ℕ} {l : Layout} (o : SoundObject s l) (has : has_segments l.shape ≡ true) where
  pub bound_degree : (v : Point) → is_bound (segments s l) v ≡ is_boundary (degree s l v)
  bound_degree v = ap is_boundary (sym (degree_ends o has v))

  -- a line that is taken has an even number of boundary points
  pub bound_evenly : EvenlyBounded (segments s l)
  bound_evenly = evenly_bounded (segments s l) (all_ordered o)

  pub end_degree : (v : Point) → has_end (segments s l) v ≡ ltb 0 (degree s l v)
  unfolding ends_at
  end_degree v = some_count (λ t. is_end t (grid v)) (segments s l) ∙ ap (ltb 0) (sym (degree_ends o has v))

  pub own_degree : (v : Point) (t : Segment) → t ∈ segments s l → T (is_end t (grid v)) → ltb 0 (degree s l v) ≡ true
  own_degree v t m h = sym (end_degree v) ∙ true_is (has_end (segments s l) v) (some_make (λ t. is_end t (grid v)) m h)

  -- an end lies on the object
  pub end_on : (v : Point) → T (has_end (segments s l) v) → T (on_object (segments s l) v)
  end_on v h =
      let w = some_find (λ u. is_end u (grid v)) (segments s l) h in
      on_make (segments s l) (λ u m. ordered_read u (all_ordered o u m)) (grid v) w.0 w.1 (end_along w.0 (grid v) (one_pos 0) (end_read w.0 (grid v) w.2))

  -- the point of an element is an end of its segment
  pub end_of_half : (i : ℕ) → T (is_end (half s l i).segment (grid (element_point s l i)))
  unfolding dominating is_end
  end_of_half i = subst (λ p. T (is_end (half s l i).segment (grid p))) (sym (point_of_half s l has i)) (go (half s l i).is_left (half s l i).segment)
    where
      go : (b : Bool) (t : Segment) → T (is_end t (grid (dominating (half_of b t))))
      go true t = or_left (is_at t.left (grid t.left)) (is_at t.right (grid t.left)) (at_itself t.left)
      go false t = or_right (is_at t.left (grid t.right)) (is_at t.right (grid t.right)) (at_itself t.right)

  -- some end passes a test where some element's point does
  pub end_elements : (c : Segment → Point → Bool) (d : ℕ → Bool)
      → ((i : ℕ) → i < l.count → (t : Segment) → t ∈ segments s l → T (is_end t (grid (element_point s l i))) → c t (element_point s l i) ≡ d i)
      → has_some_end c (segments s l) ≡ some d (elements l)
  unfolding dominating
  end_elements c d e = same_test (has_some_end c (segments s l)) (some d (elements l)) to from
    where
      point_is : (b : Bool) (t : Segment) (i : ℕ) → half s l i ≡ half_of b t → element_point s l i ≡ dominating (half_of b t)
      point_is b t i q = point_of_half s l has i ∙ ap dominating q

      found : (b : Bool) (t : Segment) → t ∈ segments s l → T (c t (dominating (half_of b t))) → T (some d (elements l))
      found b t m h =
          let w = half_of_lem o b m in
          some_make d (element_in l w.0 w.1)
          (subst T (e w.0 w.1 t m (subst (λ (k : Halfsegment). T (is_end k.segment (grid (element_point s l w.0)))) w.2 (end_of_half w.0))) (subst (λ p. T (c t p)) (sym (point_is b t w.0 w.2)) h))

      to : T (has_some_end c (segments s l)) → T (some d (elements l))
      to h =
          let w = some_find (λ t. c t t.left || c t t.right) (segments s l) h in
          ⊎_elim (found true w.0 w.1) (found false w.0 w.1) (or_cases (c w.0 w.0.left) (c w.0 w.0.right) w.2)

      from : T (some d (elements l)) → T (has_some_end c (segments s l))
      from h =
          let w = some_find d (elements l) h in
          let i = in_element l w.0 w.1 in
          some_make (λ t. c t t.left || c t t.right) (segment_in o has w.0 i)
          (one (half s l w.0).is_left (half s l w.0).segment (subst (λ p. T (c (half s l w.0).segment p)) (point_of_half s l has w.0) (subst T (sym (e w.0 i (half s l w.0).segment (segment_in o has w.0 i) (end_of_half w.0))) w.2)))
        where
          one : (b : Bool) (t : Segment) → T (c t (dominating (half_of b t))) → T (c t t.left || c t t.right)
          one true t h = or_left (c t t.left) (c t t.right) h
          one false t h = or_right (c t t.left) (c t t.right) h

-- ---- beside another

module _ {s : List ℕ} {own other : Layout} (is : SoundObject s own) (are : SoundObject s other) (has : has_segments other.shape ≡ true) (across : Across (segments s own) (segments s other)) (v : Point) (t : Segment) where
  -- an end on the other object is an end of it, too
  pub on_degree : t ∈ segments s own → T (is_end t (grid v)) → on_object (segments s other) v ≡ ltb 0 (degree s other v)
  on_degree m h = same_test (on_object (segments s other) v) (has_end (segments s other) v) to (end_on are has v) ∙ end_degree are has v
    where
      to : T (on_object (segments s other) v) → T (has_end (segments s other) v)
      to k = let w = on_find (segments s other) (λ u n. ordered_read u (all_ordered are u n)) (grid v) k in some_make (λ u. is_end u (grid v)) w.1 (ends w.0 w.2 (across t w.0 m w.1))
        where
          ends : (u : Segment) → Along u (grid v) → (t ≡ u) ⊎ Apart t u → T (is_end u (grid v))
          ends u k (inl e) = subst (λ u. T (is_end u (grid v))) e h
          ends u k (inr a) = end_make u (grid v) (a (grid v) (one_pos 0) (end_along t (grid v) (one_pos 0) (end_read t (grid v) h)) k).1

-- where a region's segment ends, another one does: so any segment joins one there
pub joins_degree : {s : List ℕ} {l : Layout} (o : SoundObject s l) → is_region l.shape ≡ true → (v : Point) (t : Segment) → joins (segments s l) t v ≡ ltb 0 (degree s l v)
joins_degree {s} {l} o region v t = same_test (joins (segments s l) t v) (has_end (segments s l) v) to from ∙ end_degree o (region_segments l.shape region) v
  where
    to : T (joins (segments s l) t v) → T (has_end (segments s l) v)
    to h =
        let w = some_find (λ u. not (is_same_segment t u) && is_end u (grid v)) (segments s l) h in
        some_make (λ u. is_end u (grid v)) w.1 (and_right (not (is_same_segment t w.0)) (is_end w.0 (grid v)) w.2)

    from : T (has_end (segments s l) v) → T (joins (segments s l) t v)
    from h =
        let w = some_find (λ u. is_end u (grid v)) (segments s l) h in
        ⊎_elim (λ e. itself w.0 w.1 w.2 (same_segment_read t w.0 e)) (λ n. some_make (λ u. not (is_same_segment t u) && is_end u (grid v)) w.1 (and_make (not (is_same_segment t w.0)) (is_end w.0 (grid v)) n w.2)) (decide (is_same_segment t w.0))
      where
        itself : (u : Segment) → u ∈ segments s l → T (is_end u (grid v)) → t ≡ u → T (joins (segments s l) t v)
        itself u m k e = subst (λ r. T (joins (segments s l) r v)) (sym e) (another_end (segments s l) (regular o region) u m v k)
