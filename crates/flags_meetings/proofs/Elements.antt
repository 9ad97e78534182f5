-- The elements of an object that has been read and is in order: their keys rise.
use Rattle.std.specs.Prelude.{None}
use Prim.Native.Nat.{ℕ, ◌<◌, ◌≤◌}
use native.Mathlib.Nat.{le_of_eq, eq-or-lt_of_le}
use native.Mathlib.Omega.{arith}
use mathlib.Core.Path.{◌≡◌, refl, ap}
use mathlib.Core.Logic.{⊎_elim}
use mathlib.Core.Bool.{Bool, true, false}
use mathlib.Core.List.{List}
use lib.Dec.{T, T_not, ltb}
use borrow.Author.Tests.{ltb-true, ltb-false}
use Rattle.plane.specs.Plane.{before, dominating}
use Rattle.plane.proofs.Order.{before_irreflexive, before_trans}
use Rattle.scene.specs.declared.Shape.{Shape}
use Rattle.scene.specs.declared.Shape.TheVariants.{Points, Line, Region}
use Rattle.scene.specs.declared.Layout.{Layout}
use Rattle.scene.specs.Read.{point_at, place, IsObject}
use Rattle.scene.specs.Conditions.{has_segments, half, out_of_order}
use Rattle.scene_segments.proofs.Indices.{halves_rise, points_rise}
use Rattle.sweep_laws.proofs.Ordered.{not_after}
use Rattle.scene_keys.specs.Keyed.{point_as, element_point, keys}
use Rattle.scene_keys.proofs.Keys.{key_below, key_less}
use Rattle.scene_keys.proofs.Elements.{point_in_range}
use Rattle.flags_meetings.proofs.Runs.{InOrder}

module _ (s : List ℕ) (l : Layout) (is : IsObject s l) (order : out_of_order s l ≡ None) where
  -- 10: no point comes before that of an earlier element
  no_fall : (i j : ℕ) → i < j → j < l.count → T (before (element_point s l j) (element_point s l i)) → ⊥
  no_fall i j h k = go l.shape refl
    where
      go : (k : Shape) → l.shape ≡ k → T (before (point_as s l k j) (point_as s l k i)) → ⊥
      go Points e b =
          before_irreflexive (point_at s (place l i))
          (before_trans (point_at s (place l i)) (point_at s (place l j)) (point_at s (place l i)) (points_rise s l is order (ap has_segments e) i j h k) b)
      go Line e b = T_not (before (dominating (half s l j)) (dominating (half s l i))) (not_after (half s l i) (half s l j) (halves_rise s l is order (ap has_segments e) i j h k)) b
      go Region e b = T_not (before (dominating (half s l j)) (dominating (half s l i))) (not_after (half s l i) (half s l j) (halves_rise s l is order (ap has_segments e) i j h k)) b

  pub in_order : InOrder l.count (keys s l)
  in_order = record { rises = rises; below = λ i h. key_below (element_point s l i) (point_in_range s l is i h) }
    where
      later : (i j : ℕ) → i < j → j < l.count → keys s l i ≤ keys s l j
      later i j h k = go (ltb (keys s l j) (keys s l i)) refl
        where
          go : (b : Bool) → ltb (keys s l j) (keys s l i) ≡ b → keys s l i ≤ keys s l j
          go true e =
              absurd (no_fall i j h k (key_less (element_point s l j) (element_point s l i) (point_in_range s l is j k) (point_in_range s l is i (omega arith)) (ltb-true (keys s l j) (keys s l i) e)))
          go false e = ltb-false (keys s l j) (keys s l i) e

      rises : (i j : ℕ) → i ≤ j → j < l.count → keys s l i ≤ keys s l j
      rises i j h k = ⊎_elim (λ e. le_of_eq (ap (keys s l) e)) (λ g. later i j g k) (eq-or-lt_of_le h)
