-- The points of the elements of an object that has been read: where they stand, and that they are in range.
use Prim.Native.Nat.{ℕ, ◌<◌}
use mathlib.Core.Path.{◌≡◌, refl, ap, ◌∙◌}
use mathlib.Core.Bool.{Bool, true, false, false≢true}
use mathlib.Core.List.{List}
use lib.Dec.{T}
use Rattle.plane.specs.declared.Halfsegment.{Halfsegment}
use Rattle.plane.specs.Plane.{in_range, segment_in_range, choose, dominating}
use Rattle.plane.proofs.Machine.{left_in_range, right_in_range}
use Rattle.scene.specs.declared.Shape.{Shape}
use Rattle.scene.specs.declared.Shape.TheVariants.{Points, Line, Region}
use Rattle.scene.specs.declared.Layout.{Layout}
use Rattle.scene.specs.Read.{place, IsObject}
use Rattle.scene.specs.Conditions.{has_segments, half}
use Rattle.scene_segments.proofs.Elements.{point_good, half_good}
use Rattle.scene_keys.specs.Keyed.{point_in, point_as, element_point}

-- the point of an element is that of its record
pub point_is : (s : List ℕ) (l : Layout) (i : ℕ) {at : ℕ} → at ≡ place l i → point_in s l.shape at ≡ element_point s l i
point_is s l i e = ap (point_in s l.shape) e ∙ go l.shape
  where
    go : (k : Shape) → point_in s k (place l i) ≡ point_as s l k i
    go Points = refl
    go Line = refl
    go Region = refl

-- that of a halfsegment is its dominating point
pub point_of_half : (s : List ℕ) (l : Layout) → has_segments l.shape ≡ true → (i : ℕ) → element_point s l i ≡ dominating (half s l i)
point_of_half s l has i = go l.shape has
  where
    go : (k : Shape) → has_segments k ≡ true → point_as s l k i ≡ dominating (half s l i)
    go Points e = absurd (false≢true e)
    go Line e = refl
    go Region e = refl

pub dominating_in_range : (h : Halfsegment) → T (segment_in_range h.segment) → T (in_range (dominating h))
unfolding dominating
dominating_in_range h t = go h.is_left
  where
    go : (b : Bool) → T (in_range (choose b h.segment.left h.segment.right))
    go true = left_in_range h.segment t
    go false = right_in_range h.segment t

module _ (s : List ℕ) (l : Layout) (is : IsObject s l) where
  pub point_in_range : (i : ℕ) → i < l.count → T (in_range (element_point s l i))
  point_in_range i h = go l.shape refl
    where
      go : (k : Shape) → l.shape ≡ k → T (in_range (point_as s l k i))
      go Points e = (point_good s l is i h (ap has_segments e)).in_range_lem
      go Line e = dominating_in_range (half s l i) (half_good s l is i h (ap has_segments e)).in_range_lem
      go Region e = dominating_in_range (half s l i) (half_good s l is i h (ap has_segments e)).in_range_lem
