-- What the sweep starts from: in a scene that has been read and whose elements are in order, no dominating point comes before an earlier one.
use Rattle.std.specs.Prelude.{None}
use Prim.Native.Nat.{ℕ, ◌<◌}
use mathlib.Core.Path.{◌≡◌, sym, subst, ◌∙◌}
use mathlib.Core.Logic.{◌⊎◌, inl, inr, ⊎_elim}
use mathlib.Core.Bool.{Bool}
use mathlib.Core.List.{List}
use lib.Dec.{T, not_T}
use Rattle.whole.proofs.Logic.{or_cases, or_left, and_left}
use Rattle.plane.specs.declared.Halfsegment.{Halfsegment}
use Rattle.plane.specs.Plane.{before, is_same_point, dominating, comes_before}
use Rattle.plane.proofs.Order.{before_irreflexive, before_trans, comes_irreflexive}
use Rattle.plane.proofs.Equal.{same_point_read}
use Rattle.scene.specs.declared.Scene.{Scene}
use Rattle.scene.specs.Read.{IsScene}
use Rattle.scene.specs.Conditions.{half, out_of_order}
use Rattle.scene_segments.proofs.Indices.{halves_rise}
use Rattle.sweep_laws.specs.Swept.{object_of, total}
use Rattle.sweep_laws.proofs.Objects.{has, read, good, owned, few_events}
use Rattle.sweep_laws.proofs.Under.{NotBefore}
use Rattle.sweep_laws.proofs.Run.{Orderly}

-- an element that comes before another has the earlier dominating point, or the same
pub comes_point : (h k : Halfsegment) → T (comes_before h k) → T (before (dominating h) (dominating k)) ⊎ (dominating h ≡ dominating k)
unfolding comes_before
comes_point h k t = ⊎_elim inl (λ u. inr (same_point_read (dominating h) (dominating k) (and_left (is_same_point (dominating h) (dominating k)) _ u))) (or_cases (before (dominating h) (dominating k)) _ t)

pub comes_by_point : (h k : Halfsegment) → T (before (dominating h) (dominating k)) → T (comes_before h k)
unfolding comes_before
comes_by_point h k t = or_left (before (dominating h) (dominating k)) _ t

pub not_after : (h k : Halfsegment) → T (comes_before h k) → NotBefore (dominating k) (dominating h)
not_after h k t = not_T (before (dominating k) (dominating h)) clash
  where
    clash : T (before (dominating k) (dominating h)) → ⊥
    clash b =
        ⊎_elim (λ c. before_irreflexive (dominating h) (before_trans (dominating h) (dominating k) (dominating h) c b))
        (λ e. before_irreflexive (dominating h) (subst (λ p. T (before p (dominating h))) (sym e) b)) (comes_point h k t)

module _ (s : List ℕ) (sc : Scene) (is : IsScene s sc) (order : (first : Bool) → out_of_order s (object_of s sc first) ≡ None) where
  pub orderly : Orderly s sc
  orderly =
      record {
        sound = λ first k h. (good s sc is first k h).in_order;
        owned = owned s sc is;
        few = few_events s sc is;
        rises = λ first k m h l. not_after (half s (object_of s sc first) k) (half s (object_of s sc first) m) (rise first k m h l);
        differ = λ first k m h l p q e. comes_irreflexive (half s (object_of s sc first) m) (subst (λ (h : Halfsegment). T (comes_before h (half s (object_of s sc first) m))) (λ i. record { segment = e i; is_left = (p ∙ sym q) i }) (rise first k m h l));
      }
    where
      rise : (first : Bool) (k m : ℕ) → k < m → m < total s sc first → T (comes_before (half s (object_of s sc first) k) (half s (object_of s sc first) m))
      rise first k m h l = halves_rise s (object_of s sc first) (read s sc is first) (order first) (has s sc first m l).0 k m h (has s sc first m l).1
