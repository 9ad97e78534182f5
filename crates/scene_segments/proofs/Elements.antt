-- The element i of an object: what its record gives the functions that read it, and the tests on it by the object's type.
use Prim.Native.Nat.{ℕ, ◌+◌, ◌<◌, ◌≤◌}
use native.Mathlib.Omega.{arith}
use mathlib.Core.Path.{◌≡◌, refl, ap, ◌∙◌}
use mathlib.Core.Bool.{Bool, true, false, ◌&&◌, true≢false, false≢true}
use mathlib.Core.List.{List}
use lib.ListN.{length}
use Rattle.whole.proofs.Logic.{is_true}
use Rattle.plane.specs.declared.Halfsegment.{Halfsegment}
use Rattle.plane.specs.Plane.{before, comes_before}
use Rattle.scene.specs.declared.Shape.{Shape}
use Rattle.scene.specs.declared.Shape.TheVariants.{Points, Line, Region}
use Rattle.scene.specs.declared.Layout.{Layout}
use Rattle.scene.specs.Read.{point_at, halfsegment_at, ia_at, size, place, IsObject}
use Rattle.scene.specs.Conditions.{has_segments, is_region, half, ia, is_in_order, partner}
use Rattle.scene.proofs.Taken.{TakenObject, taken_object}
pub use Rattle.scene.proofs.Given.{region_segments}
use Rattle.scene.proofs.Given.{GoodPoint, good_point, GoodHalfsegment, good_halfsegment, ia_there}
use Rattle.scene_segments.specs.Walked.{partners}

pub no_segments_points : (k : Shape) → has_segments k ≡ false → k ≡ Points
no_segments_points Points e = refl
no_segments_points Line e = absurd (true≢false e)
no_segments_points Region e = absurd (true≢false e)

module _ (s : List ℕ) (l : Layout) (is : IsObject s l) (i : ℕ) (h : i < l.count) where
  taken : TakenObject s l.start l
  taken = taken_object s l.start l is

  pub fits : place l i + size l.shape ≤ length s
  fits = omega (arith, (taken.elements i h).whole)

  pub point_good : has_segments l.shape ≡ false → GoodPoint s (place l i)
  point_good e = good_point taken i h (no_segments_points l.shape e)

  pub half_good : has_segments l.shape ≡ true → GoodHalfsegment s (place l i)
  half_good e = good_halfsegment taken i h (is_true (has_segments l.shape) e)

  pub ia_good : is_region l.shape ≡ true → place l i + 19 ≤ length s
  ia_good e = ia_there taken i h (is_true (is_region l.shape) e)

-- 10, by the object's type
module _ (s : List ℕ) (l : Layout) (i j : ℕ) where
  pub order_of_points : has_segments l.shape ≡ false → is_in_order s l i j ≡ before (point_at s (place l i)) (point_at s (place l j))
  unfolding is_in_order
  order_of_points e = rw (no_segments_points l.shape e)

  pub order_of_halves : has_segments l.shape ≡ true → is_in_order s l i j ≡ comes_before (half s l i) (half s l j)
  unfolding is_in_order
  order_of_halves e = go l.shape refl e
    where
      go : (k : Shape) → l.shape ≡ k → has_segments k ≡ true → is_in_order s l i j ≡ comes_before (half s l i) (half s l j)
      go Points q e = absurd (false≢true e)
      go Line q e = rw q
      go Region q e = rw q

-- 11: the test for a partner, as the code makes it
module _ (s : List ℕ) (l : Layout) (i j : ℕ) where
  pub partner_is : {h : Halfsegment} {a : Bool} {at : ℕ} → h ≡ half s l i → a ≡ ia s l i → at ≡ place l j
      → partners h a (halfsegment_at s at) (is_region l.shape && ia_at s at) ≡ partner s l i j
  unfolding partner
  partner_is {h} {a} {at} e f p =
      ap (λ (h : Halfsegment). partners h a (halfsegment_at s at) (is_region l.shape && ia_at s at)) e
      ∙ ap (λ (a : Bool). partners (half s l i) a (halfsegment_at s at) (is_region l.shape && ia_at s at)) f
      ∙ ap (λ (at : ℕ). partners (half s l i) (ia s l i) (halfsegment_at s at) (is_region l.shape && ia_at s at)) p
