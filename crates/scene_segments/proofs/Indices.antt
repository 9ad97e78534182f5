-- The elements of an object by their indices, of proofs/Indices.antt of scene; and elements in order, each of which comes before every later one.
use Rattle.std.specs.Prelude.{None}
use Prim.Native.Nat.{ℕ, suc, ◌-◌, ◌<◌}
use native.Mathlib.Omega.{arith}
use mathlib.Core.Path.{◌≡◌, subst}
use mathlib.Core.Bool.{true, false, not, ◌&&◌}
use mathlib.Core.List.{List}
use lib.Dec.{T, ltb}
use borrow.Author.Tests.{lt-ltb, not-false}
use Rattle.whole.proofs.Logic.{is_true, rising}
use Rattle.plane.specs.declared.Point.{Point}
use Rattle.plane.specs.declared.Halfsegment.{Halfsegment}
use Rattle.plane.specs.Plane.{before, ordered, comes_before}
use Rattle.plane.proofs.Order.{before_trans, comes_trans}
use Rattle.scene.specs.declared.Layout.{Layout}
use Rattle.scene.specs.Read.{point_at, place, IsObject}
use Rattle.scene.specs.Conditions.{has_segments, half, is_in_order, is_misplaced, out_of_order}
pub use Rattle.scene.proofs.Indices.{in_indices, indices_in, element_in, in_element, keep_in, in_keep, kept_rise, not_nothing, none_wrong, no_fault}
use Rattle.scene_segments.proofs.Elements.{half_good, order_of_points, order_of_halves}

module _ (s : List ℕ) (l : Layout) (read : IsObject s l) (order : out_of_order s l ≡ None) where
  -- 10: each element comes before every later one
  neighbours : (i : ℕ) → suc i < l.count → T (is_in_order s l i (suc i))
  unfolding out_of_order
  neighbours i h = is_true (is_in_order s l i (suc i)) (not-false (is_in_order s l i (suc i)) (go (none_wrong l (is_misplaced s l) order (suc i) h)))
    where
      back : suc i - 1 ≡ i
      back = omega arith

      go : ltb 0 (suc i) && not (is_in_order s l (suc i - 1) (suc i)) ≡ false → not (is_in_order s l i (suc i)) ≡ false
      go e = rw (lt-ltb 0 (suc i) (omega arith), back) at e

  pub halves_rise : has_segments l.shape ≡ true → (i j : ℕ) → i < j → j < l.count → T (comes_before (half s l i) (half s l j))
  halves_rise e =
      rising (λ (h : Halfsegment). T (ordered h.segment)) (λ h k. T (comes_before h k)) comes_trans (half s l) l.count
      (λ i h. (half_good s l read i h e).in_order) (λ i h. subst T (order_of_halves s l i (suc i) e) (neighbours i h))

  pub points_rise : has_segments l.shape ≡ false → (i j : ℕ) → i < j → j < l.count → T (before (point_at s (place l i)) (point_at s (place l j)))
  points_rise e =
      rising (λ (p : Point). Unit {0}) (λ p q. T (before p q)) (λ p q r _ _ _. before_trans p q r) (λ i. point_at s (place l i)) l.count (λ i h. tt)
      (λ i h. subst T (order_of_points s l i (suc i) e) (neighbours i h))
