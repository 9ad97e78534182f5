-- On which sides a region's interior adjoins a segment: by ia where the segment is one of the region's, by its midpoint where it is not.
use mathlib.Core.Path.{◌≡◌, refl, sym, ap, subst, ◌∙◌}
use mathlib.Core.Bool.{Bool, true, false, or-false, true≢false}
use mathlib.Core.List.{List}
use lib.Dec.{T}
use Rattle.whole.specs.Count.{◌∈◌}
use Rattle.whole.proofs.Logic.{refute, true_is, and_left, and_right, and_make, same_test, some_find, some_make, in_map, map_in}
use Rattle.plane.specs.declared.Segment.{Segment}
use Rattle.plane.specs.Plane.{midpoint, is_same_segment, inside}
use Rattle.plane.proofs.Equal.{same_segment_read, same_segment_refl}
use Rattle.flags.specs.Flags.{Edge, outline, has_segment}
use Rattle.flags.specs.Elements.{same_ia, same_edge, has_edge}
use Rattle.flags_classes.proofs.Behind.{edge_segment}
use Rattle.overlap.specs.Bytes.{adjoins}

module _ (R : List Edge) (t : Segment) (above : Bool) {l : List Segment} (e : outline R ≡ l) where
  pub adjoins_own : has_segment l t ≡ true → has_edge R t above ≡ adjoins above R t
  unfolding adjoins
  adjoins_own h = sym (rw (e, h) (or-false (has_edge R t above)))

  pub adjoins_other : has_segment l t ≡ false → inside l (midpoint t) ≡ adjoins above R t
  unfolding adjoins
  adjoins_other h = sym (rw (none, e, h))
    where
      none : has_edge R t above ≡ false
      none = refute (has_edge R t above) (λ q. true≢false (sym (true_is (has_segment (outline R) t) (edge_segment R t above q)) ∙ ap (λ (m : List Segment). has_segment m t) e ∙ h))

-- ---- the edges of a region whose ia the segment decides

module _ (R : List Edge) where
  pub edge_there : {e : Edge} → e ∈ R → has_segment (outline R) e.segment ≡ true
  edge_there {e} m = true_is (has_segment (outline R) e.segment) (some_make (is_same_segment e.segment) (in_map (λ (e : Edge). e.segment) m) (same_segment_refl e.segment))

  pub edge_find : (t : Segment) → T (has_segment (outline R) t) → (e : Edge) × (e ∈ R) × (t ≡ e.segment)
  edge_find t h =
      let w = some_find (is_same_segment t) (outline R) h in
      let v = map_in (λ (e : Edge). e.segment) R w.1 in
      (v.0, v.1, same_segment_read t w.0 w.2 ∙ sym v.2)

  abbrev pub Marked : (Segment → Bool) → Type 0
  Marked a = (e : Edge) → e ∈ R → e.ia ≡ a e.segment

  module _ (a : Segment → Bool) (mark : Marked a) {e : Edge} (m : e ∈ R) (above : Bool) where
    own_edge : has_edge R e.segment above ≡ same_ia above e.ia
    own_edge = same_test (has_edge R e.segment above) (same_ia above e.ia) to from
      where
        to : T (has_edge R e.segment above) → T (same_ia above e.ia)
        to h =
            let w = some_find (same_edge e.segment above) R h in
            let d = w.0 in
            let q = same_segment_read e.segment d.segment (and_left (is_same_segment e.segment d.segment) (same_ia above d.ia) w.2) in
            subst (λ b. T (same_ia above b)) (mark d w.1 ∙ ap a (sym q) ∙ sym (mark e m)) (and_right (is_same_segment e.segment d.segment) (same_ia above d.ia) w.2)

        from : T (same_ia above e.ia) → T (has_edge R e.segment above)
        from h = some_make (same_edge e.segment above) m (and_make (is_same_segment e.segment e.segment) (same_ia above e.ia) (same_segment_refl e.segment) h)

    pub adjoins_edge : adjoins above R e.segment ≡ same_ia above e.ia
    adjoins_edge = sym (adjoins_own R e.segment above refl (edge_there m)) ∙ own_edge
