-- Paper 2's claims over the elements of two objects: what two summaries tell is the full answer.
use mathlib.Core.Path.{◌≡◌, refl, sym, ap, ap₂, ◌∙◌, subst}
use mathlib.Core.Logic.{⊎_elim}
use mathlib.Core.Bool.{Bool, true, false, ◌||◌, cond, or_comm}
use mathlib.Core.List.{List, [], ◌∷◌}
use lib.Dec.{T}
use Rattle.whole.proofs.Sign.{Pos}
use Rattle.plane.specs.Plane.{HPoint}
use Rattle.plane.proofs.OnSegment.{Along}
use lib.Signed.{lt_z}
use Rattle.scene.specs.Read.{descends}
use Rattle.whole.specs.Count.{◌∈◌}
use Rattle.whole.proofs.Logic.{in_nil, or_cases}
use Rattle.plane.specs.declared.Point.{Point}
use Rattle.plane.specs.declared.Segment.{Segment}
use Rattle.flags.specs.Flags.{Elements, segments_of, flags_of_f, flags_of_g, pack}
use Rattle.cells_matrix.proofs.Theorem as M
use Rattle.cells_matrix.proofs.Theorem.{Good}
use Rattle.cells.proofs.AskedTwice.{flags_in_order, given_flags}
use Rattle.summary.specs.declared.Summary.{Summary}
use Rattle.summary.specs.Summary.{corners, shape_of, is_empty, summary_of, are_far, beside, box_of, ascending_vectors, swapped, far_vectors}
use Rattle.summary.proofs.Clear.{Clear, clear_swap, clear_none, left_in, right_in, share_nothing}
use Rattle.summary.proofs.Boxes.{clear_boxes}
use Rattle.summary.proofs.Far.{flags_F, flags_G}

-- an empty object has no corner
empty_corners : (F : Elements) → T (is_empty F) → corners F ≡ []
empty_corners (Elements.points []) t = refl
empty_corners (Elements.points (v ∷ l)) t = absurd t
empty_corners (Elements.line []) t = refl
empty_corners (Elements.line (s ∷ l)) t = absurd t
empty_corners (Elements.region []) t = refl
empty_corners (Elements.region (e ∷ l)) t = absurd t

pub far_clear : (F G : Elements) → T (are_far (summary_of F) (summary_of G)) → Clear (corners F) (corners G)
far_clear F G t =
    ⊎_elim
    (λ h. ⊎_elim (λ k. subst (λ (C : List Point). Clear C (corners G)) (sym (empty_corners F k)) (clear_none (corners G))) (λ k. subst (λ (D : List Point). Clear (corners F) D) (sym (empty_corners G k)) (clear_swap (clear_none (corners F)))) (or_cases (is_empty F) (is_empty G) h))
    (clear_boxes (corners F) (corners G))
    (or_cases (is_empty F || is_empty G) (beside (box_of (corners F)) (box_of (corners G))) t)

-- the flags of far objects are the table's, F's type not above G's
pub full_flags : (F G : Elements) → Good F → Good G → T (are_far (summary_of F) (summary_of G))
    → ascending_vectors (summary_of F) (summary_of G) ≡ record { f = pack (flags_of_f F G); g = pack (flags_of_g F G) }
full_flags F G f g t =
    sym (ap₂ (λ l m. record { f = pack l; g = pack m }) (flags_F F G f g (far_clear F G t)) (flags_G F G f g (clear_swap (far_clear F G t))))

-- being far goes both ways
pub far_swap : (s t : Summary) → are_far s t ≡ are_far t s
unfolding beside
far_swap s t =
    go s.empty t.empty (lt_z s.bounds.greatest.x t.bounds.least.x) (lt_z t.bounds.greatest.x s.bounds.least.x)
    (lt_z s.bounds.greatest.y t.bounds.least.y) (lt_z t.bounds.greatest.y s.bounds.least.y)
  where
    go : (a b c d e f : Bool) → (a || b || (c || d || (e || f))) ≡ (b || a || (d || c || (f || e)))
    go a b c d e f = ap₂ ◌||◌ (or_comm a b) (ap₂ ◌||◌ (or_comm c d) (or_comm e f))

same_shape : (F : Elements) → shape_of F ≡ M.shape_of F
same_shape (Elements.points l) = refl
same_shape (Elements.line l) = refl
same_shape (Elements.region l) = refl

-- "For summaries made from two objects that form an accepted scene, those vectors are the full answer": all flags, in the caller's order
pub full_answer : (A B : Elements) → Good A → Good B → T (are_far (summary_of A) (summary_of B)) → far_vectors (summary_of A) (summary_of B) ≡ given_flags A B
full_answer A B a b t = go (descends (shape_of A) (shape_of B)) ∙ ap₂ (λ x y. flags_in_order A B (descends x y)) (same_shape A) (same_shape B)
  where
    go : (d : Bool) → cond d (swapped (ascending_vectors (summary_of B) (summary_of A))) (ascending_vectors (summary_of A) (summary_of B)) ≡ flags_in_order A B d
    go true = ap swapped (full_flags B A b a (subst T (far_swap (summary_of A) (summary_of B)) t))
    go false = full_flags A B a b t

-- ---- two accepted objects that are far form an accepted scene

ends_of : (F : Elements) (s : Segment) → s ∈ segments_of F → (s.left ∈ corners F) × (s.right ∈ corners F)
ends_of (Elements.points l) s m = absurd (in_nil m)
ends_of (Elements.line l) s m = (left_in m, right_in m)
ends_of (Elements.region l) s m = (left_in m, right_in m)

-- no segment of the one shares a point with a segment of the other
pub far_apart : (F G : Elements) → T (are_far (summary_of F) (summary_of G)) → (s t : Segment) → s ∈ segments_of F → t ∈ segments_of G
    → (p : HPoint) → Pos p.W → Along s p → Along t p → ⊥
far_apart F G f s t m k = share_nothing (far_clear F G f) s t (ends_of F s m).0 (ends_of F s m).1 (ends_of G t k).0 (ends_of G t k).1
