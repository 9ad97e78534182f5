-- Two lists in the order of left halfsegments, merged, are in that order, where any two unequal segments of the two compare. So are the different
-- segments of a scene that is taken.
use Prim.Native.Nat.{ℕ}
use mathlib.Core.Path.{◌≡◌, refl, sym, subst}
use mathlib.Core.Logic.{⊎_elim}
use mathlib.Core.Bool.{Bool, true, false, cond}
use mathlib.Core.List.{List, [], ◌∷◌}
use lib.Dec.{T}
use Rattle.whole.specs.Count.{◌∈◌, here, there}
use Rattle.whole.proofs.Logic.{is_true, in_cons, Sorted, sorted_cons}
use Rattle.plane.specs.declared.Segment.{Segment}
use Rattle.plane.specs.Plane.{is_same_segment, ordered}
use Rattle.plane.proofs.Equal.{same_segment_read}
use Rattle.plane.proofs.Accepted.{AllOrdered}
use Rattle.plane.proofs.Order.{LeftBefore, comes_trans, half_of}
use Rattle.scene.specs.declared.Scene.{Scene}
use Rattle.scene.specs.Conditions.{segments}
use Rattle.check_verdict.proofs.Laws.{SoundScene, all_ordered, segments_sorted, across}
use Rattle.cells_matrix.proofs.Common.{across_swap}
use Rattle.flags_classes.specs.Walked.{left_before}
use Rattle.flags_classes.proofs.Comparable.{Compare, compare_across}
use Rattle.overlap.specs.Bytes.{merge_from, merge}
use Rattle.overlap.proofs.Members.{merge_in}

head_first : {f : Segment} {F : List Segment} → Sorted LeftBefore (f ∷ F) → (t : Segment) → t ∈ F → LeftBefore f t
head_first (sorted_cons h r) = h

tail_sorted : {f : Segment} {F : List Segment} → Sorted LeftBefore (f ∷ F) → Sorted LeftBefore F
tail_sorted (sorted_cons h r) = r

before_all : (f : Segment) {g : Segment} {G : List Segment} → T (ordered f) → AllOrdered (g ∷ G) → Sorted LeftBefore (g ∷ G) → LeftBefore f g → (t : Segment) → t ∈ (g ∷ G) → LeftBefore f t
before_all f {g} o p r h t m =
    ⊎_elim (λ e. subst (LeftBefore f) (sym e) h)
    (λ k. comes_trans (half_of true f) (half_of true g) (half_of true t) o (p g here) (p t (there k)) h (head_first r t k)) (in_cons m)

module _ (f : Segment) (F : List Segment) (o : AllOrdered (f ∷ F)) (r : Sorted LeftBefore (f ∷ F))
    (rest : (G : List Segment) → AllOrdered G → Sorted LeftBefore G → Compare F G → Sorted LeftBefore (merge F G)) where
  from_sorted : (G : List Segment) → AllOrdered G → Sorted LeftBefore G → Compare (f ∷ F) G → Sorted LeftBefore (merge_from f F (merge F) G)
  from_sorted [] p q c = r
  from_sorted (g ∷ G) p q c =
      go (is_same_segment f g) (left_before f g) refl refl (from_sorted G (λ t m. p t (there m)) (tail_sorted q) (λ t u m k. c t u m (there k)))
    where
      above_f : LeftBefore f g → (t : Segment) → t ∈ merge F (g ∷ G) → LeftBefore f t
      above_f h t m = ⊎_elim (head_first r t) (before_all f (o f here) p q h t) (merge_in F (g ∷ G) m)

      go : (x y : Bool) → is_same_segment f g ≡ x → left_before f g ≡ y → Sorted LeftBefore (merge_from f F (merge F) G)
          → Sorted LeftBefore (cond x (f ∷ merge F G) (cond y (f ∷ merge F (g ∷ G)) (g ∷ merge_from f F (merge F) G)))
      go true y e w later =
          sorted_cons (λ t m. ⊎_elim (head_first r t) (λ k. subst (λ (a : Segment). LeftBefore a t) (sym (same_segment_read f g (is_true (is_same_segment f g) e))) (head_first q t k)) (merge_in F G m))
          (rest G (λ t m. p t (there m)) (tail_sorted q) (λ t u m k. c t u (there m) (there k)))
      go false true e w later = sorted_cons (above_f (is_true (left_before f g) w)) (rest (g ∷ G) p q (λ t u m k. c t u (there m) k))
      go false false e w later =
          sorted_cons (λ t m. ⊎_elim (before_all g (p g here) o r (c f g here here e w) t) (head_first q t) (merge_in (f ∷ F) G m)) later

pub merge_sorted : (F G : List Segment) → AllOrdered F → AllOrdered G → Sorted LeftBefore F → Sorted LeftBefore G → Compare F G → Sorted LeftBefore (merge F G)
merge_sorted [] G o p r q c = q
merge_sorted (f ∷ F) G o p r q c =
    from_sorted f F o r (λ G p q c. merge_sorted F G (λ t m. o t (there m)) p (tail_sorted r) q c) G p q c

-- The different segments of a scene that is taken, in the order of left halfsegments
pub segments_merged_sorted : {s : List ℕ} {sc : Scene} → SoundScene s sc → Sorted LeftBefore (merge (segments s sc.f) (segments s sc.g))
segments_merged_sorted {s} {sc} o =
    merge_sorted (segments s sc.f) (segments s sc.g) (all_ordered o.f_sound) (all_ordered o.g_sound) (segments_sorted o.f_sound) (segments_sorted o.g_sound)
    (compare_across (all_ordered o.f_sound) (all_ordered o.g_sound) (across o))

-- and with the two objects the other way round
pub segments_turned_sorted : {s : List ℕ} {sc : Scene} → SoundScene s sc → Sorted LeftBefore (merge (segments s sc.g) (segments s sc.f))
segments_turned_sorted {s} {sc} o =
    merge_sorted (segments s sc.g) (segments s sc.f) (all_ordered o.g_sound) (all_ordered o.f_sound) (segments_sorted o.g_sound) (segments_sorted o.f_sound)
    (compare_across (all_ordered o.g_sound) (all_ordered o.f_sound) (across_swap (across o)))
