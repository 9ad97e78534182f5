-- The merged list has the segments of either list, and no others.
use mathlib.Core.Path.{◌≡◌, refl, sym, subst}
use mathlib.Core.Logic.{◌⊎◌, inl, inr, ⊎_elim}
use mathlib.Core.Bool.{Bool, true, false, cond}
use mathlib.Core.List.{List, [], ◌∷◌}
use Rattle.whole.specs.Count.{◌∈◌, here, there}
use Rattle.whole.proofs.Logic.{in_nil, in_cons, is_true}
use Rattle.plane.specs.declared.Segment.{Segment}
use Rattle.plane.specs.Plane.{is_same_segment}
use Rattle.plane.proofs.Equal.{same_segment_read}
use Rattle.flags_classes.specs.Walked.{left_before}
use Rattle.overlap.specs.Bytes.{merge_from, merge}

at_head : {t f : Segment} (l : List Segment) → t ≡ f → t ∈ (f ∷ l)
at_head {t} l e = subst (λ (f : Segment). t ∈ (f ∷ l)) e here

module _ {t : Segment} where
  -- f ∷ F with what rest gives
  module _ (f : Segment) (F : List Segment) (rest : List Segment → List Segment) where
    from_in : ((G : List Segment) → t ∈ rest G → (t ∈ F) ⊎ (t ∈ G)) → (G : List Segment) → t ∈ merge_from f F rest G → (t ∈ (f ∷ F)) ⊎ (t ∈ G)
    from_in h [] m = inl m
    from_in h (g ∷ G) m = go (is_same_segment f g) (left_before f g) m (λ k. from_in h G k)
      where
        go : (x y : Bool) → t ∈ cond x (f ∷ rest G) (cond y (f ∷ rest (g ∷ G)) (g ∷ merge_from f F rest G))
            → (t ∈ merge_from f F rest G → (t ∈ (f ∷ F)) ⊎ (t ∈ G)) → (t ∈ (f ∷ F)) ⊎ (t ∈ (g ∷ G))
        go true y m later = ⊎_elim (λ e. inl (at_head F e)) (λ k. ⊎_elim (λ i. inl (there i)) (λ i. inr (there i)) (h G k)) (in_cons m)
        go false true m later = ⊎_elim (λ e. inl (at_head F e)) (λ k. ⊎_elim (λ i. inl (there i)) inr (h (g ∷ G) k)) (in_cons m)
        go false false m later = ⊎_elim (λ e. inr (at_head G e)) (λ k. ⊎_elim inl (λ i. inr (there i)) (later k)) (in_cons m)

    in_from_f : ((G : List Segment) → t ∈ F → t ∈ rest G) → (G : List Segment) → t ∈ (f ∷ F) → t ∈ merge_from f F rest G
    in_from_f h [] m = m
    in_from_f h (g ∷ G) m = go (is_same_segment f g) (left_before f g) (in_from_f h G m)
      where
        go : (x y : Bool) → t ∈ merge_from f F rest G → t ∈ cond x (f ∷ rest G) (cond y (f ∷ rest (g ∷ G)) (g ∷ merge_from f F rest G))
        go true y later = ⊎_elim (λ e. at_head (rest G) e) (λ k. there (h G k)) (in_cons m)
        go false true later = ⊎_elim (λ e. at_head (rest (g ∷ G)) e) (λ k. there (h (g ∷ G) k)) (in_cons m)
        go false false later = there later

    in_from_g : ((G : List Segment) → t ∈ G → t ∈ rest G) → (G : List Segment) → t ∈ G → t ∈ merge_from f F rest G
    in_from_g h [] m = absurd (in_nil m)
    in_from_g h (g ∷ G) m = go (is_same_segment f g) (left_before f g) refl (λ k. in_from_g h G k)
      where
        go : (x y : Bool) → is_same_segment f g ≡ x → (t ∈ G → t ∈ merge_from f F rest G) → t ∈ cond x (f ∷ rest G) (cond y (f ∷ rest (g ∷ G)) (g ∷ merge_from f F rest G))
        go true y e later = ⊎_elim (λ q. at_head (rest G) (subst (λ (u : Segment). t ≡ u) (sym (same_segment_read f g (is_true (is_same_segment f g) e))) q)) (λ k. there (h G k)) (in_cons m)
        go false true e later = there (h (g ∷ G) m)
        go false false e later = ⊎_elim (λ q. at_head (merge_from f F rest G) q) (λ k. there (later k)) (in_cons m)

  pub merge_in : (F G : List Segment) → t ∈ merge F G → (t ∈ F) ⊎ (t ∈ G)
  merge_in [] G m = inr m
  merge_in (f ∷ F) G m = from_in f F (merge F) (λ G m. merge_in F G m) G m

  pub in_merge_f : (F G : List Segment) → t ∈ F → t ∈ merge F G
  in_merge_f [] G m = absurd (in_nil m)
  in_merge_f (f ∷ F) G m = in_from_f f F (merge F) (λ G m. in_merge_f F G m) G m

  pub in_merge_g : (F G : List Segment) → t ∈ G → t ∈ merge F G
  in_merge_g [] G m = m
  in_merge_g (f ∷ F) G m = in_from_g f F (merge F) (λ G m. in_merge_g F G m) G m
