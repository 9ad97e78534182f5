-- An accepted object, by its bytes alone: its elements are good, in order and in range, and so its summary is good.
use Rattle.std.specs.Prelude.{Ok}
use Prim.Native.Nat.{ℕ}
use mathlib.Core.Path.{◌≡◌, refl, sym, ap, subst}
use mathlib.Core.Logic.{⊎_elim}
use mathlib.Core.List.{List, [], ◌∷◌}
use lib.Dec.{T}
use Rattle.whole.specs.Count.{◌∈◌, here, there}
use Rattle.whole.proofs.Logic.{in_nil, in_cons, map_in, and_left, and_right, Sorted}
use Rattle.plane.specs.declared.Point.{Point}
use Rattle.plane.specs.declared.Segment.{Segment}
use Rattle.plane.specs.Plane.{in_range, segment_in_range}
use Rattle.plane.proofs.Order.{LeftBefore}
use Rattle.scene.specs.declared.Shape.{Shape}
use Rattle.scene.specs.declared.Shape.TheVariants.{Points, Line, Region}
use Rattle.scene.specs.declared.Layout.{Layout}
use Rattle.scene.specs.Conditions.{has_segments, elements, segments, check_object}
use Rattle.scene.proofs.Indices.{in_element}
use Rattle.check_verdict.proofs.Laws.{SoundObject, sound_object, segments_in_range, segments_sorted, point_in_range, points_sorted}
use Rattle.flags.specs.Elements.{point_of, points_of, elements_as, elements_of}
use Rattle.flags.proofs.Elements.{outline_edges}
use Rattle.cells_matrix.proofs.Theorem.{Good}
use Rattle.cells.proofs.Taken.{good}
use Rattle.summary.specs.Summary.{ends, corners, is_good}
use Rattle.summary.proofs.Made.{AllInRange, Listed, made_good}
use Rattle.summary_objects.specs.Objects.{summary_in}

-- both ends of segments in range
ends_in_range : (l : List Segment) → ((t : Segment) → t ∈ l → T (segment_in_range t)) → AllInRange (ends l)
ends_in_range [] h v m = absurd (in_nil m)
ends_in_range (s ∷ l) h v m =
    ⊎_elim (λ e. subst (λ (p : Point). T (in_range p)) (sym e) (and_left (in_range s.left) (in_range s.right) (h s here)))
    (λ k. ⊎_elim (λ e. subst (λ (p : Point). T (in_range p)) (sym e) (and_right (in_range s.left) (in_range s.right) (h s here)))
    (λ n. ends_in_range l (λ t i. h t (there i)) v n) (in_cons k)) (in_cons m)

module _ (s : List ℕ) (l : Layout) (o : SoundObject s l) where
  pub elements_good : Good (elements_of s l)
  elements_good = good s l o l.shape refl

  pub elements_listed : Listed (elements_of s l)
  unfolding points_of
  elements_listed = go l.shape refl
    where
      go : (k : Shape) → l.shape ≡ k → Listed (elements_as s l k)
      go Points e = points_sorted o (ap has_segments e)
      go Line e = segments_sorted o
      go Region e = subst (λ (r : List Segment). Sorted LeftBefore r) (sym (outline_edges s l)) (segments_sorted o)

  pub elements_in_range : AllInRange (corners (elements_of s l))
  unfolding points_of
  elements_in_range = go l.shape refl
    where
      go : (k : Shape) → l.shape ≡ k → AllInRange (corners (elements_as s l k))
      go Points e = λ v m.
          let w = map_in (point_of s l) (elements l) m in
          subst (λ (p : Point). T (in_range p)) w.2 (point_in_range o (ap has_segments e) w.0 (in_element l w.0 w.1))
      go Line e = ends_in_range (segments s l) (λ t i. segments_in_range o i)
      go Region e = subst (λ (r : List Segment). AllInRange (ends r)) (sym (outline_edges s l)) (ends_in_range (segments s l) (λ t i. segments_in_range o i))

-- nothing made is refused
pub summary_good : (s : List ℕ) (l : Layout) → check_object s ≡ Ok l → T (is_good (summary_in s l))
summary_good s l e =
    let o = sound_object s l e in
    made_good (elements_of s l) (elements_good s l o) (elements_listed s l o) (elements_in_range s l o)
