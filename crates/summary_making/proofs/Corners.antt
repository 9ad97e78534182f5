-- The box of an object by its elements one after the other, in the bytes.
use Prim.Native.Nat.{ℕ, zero, suc, ◌+◌, ◌-◌, ◌<◌}
use native.Mathlib.Omega.{arith}
use native.Mathlib.Numerals.{add-one}
use mathlib.Core.Path.{◌≡◌, refl, sym, ap, ap₂, ◌∙◌}
use mathlib.Core.Bool.{Bool, true, false, ◌&&◌, cond, true≢false, false≢true}
use mathlib.Core.List.{List, [], ◌∷◌, ◌++◌, map}
use lib.Dec.{T, leb, leb→le}
use lib.IntN.{ℤ, pos, negsuc, neg_ℤ, nat_abs}
use Rattle.whole.specs.Count.{here}
use borrow.Author.Tests.{leb-true, le-leb}
use Rattle.whole.proofs.Logic.{and_left, and_right}
use Rattle.plane.specs.declared.Point.{Point}
use Rattle.plane.specs.Plane.{limit, within, in_range}
use Rattle.scene.specs.declared.Shape.{Shape}
use Rattle.scene.specs.declared.Shape.TheVariants.{Points, Line, Region}
use Rattle.scene.specs.declared.Layout.{Layout}
use Rattle.scene.specs.Read.{place, halfsegment_at}
use Rattle.scene.specs.Conditions.{has_segments, indices, keep, half, left_test, segments}
use Rattle.scene.proofs.Taken.{layout}
use Rattle.flags.specs.Elements.{point_of, points_of, elements_as, elements_of}
use Rattle.flags.proofs.Elements.{outline_edges}
use Rattle.summary.specs.declared.Bounds.{Bounds}
use Rattle.summary.specs.Summary.{lesser, greater, widen, grow, box_of, ends, corners}
use Rattle.summary.proofs.Made.{AllInRange}
use Rattle.summary_making.specs.Making.{corners_of, corners_at, corners_from, widest}

-- ---- one element after another

grow_append : (b : Bounds) (l m : List Point) → grow b (l ++ m) ≡ grow (grow b l) m
grow_append b [] m = refl
grow_append b (p ∷ l) m = grow_append (widen b p) l m

module _ (s : List ℕ) (l : Layout) where
  pub grow_next : (b : Bounds) (i : ℕ) → i < l.count
      → grow b (corners_from s l (l.count - i) i) ≡ grow (grow b (corners_at s l.shape (place l i))) (corners_from s l (l.count - (i + 1)) (i + 1))
  grow_next b i h =
      ap (λ (n : ℕ). grow b (corners_from s l n i)) left
      ∙ grow_append b (corners_at s l.shape (place l i)) (corners_from s l (l.count - (i + 1)) (suc i))
      ∙ ap (λ (j : ℕ). grow (grow b (corners_at s l.shape (place l i))) (corners_from s l (l.count - (i + 1)) j)) (sym (add-one i))
    where
      left : l.count - i ≡ suc (l.count - (i + 1))
      left = omega arith

-- ---- they are the corners of the elements

module _ (s : List ℕ) (start count : ℕ) where
  points_from : (n i : ℕ) → corners_from s (layout Points start count) n i ≡ map (point_of s (layout Points start count)) (indices n i)
  points_from zero i = refl
  points_from (suc n) i = ap (λ (r : List Point). point_of s (layout Points start count) i ∷ r) (points_from n (suc i))

  -- of a line and of a region: both ends of each left halfsegment's segment
  module _ (k : Shape) (has : has_segments k ≡ true) (same : (at : ℕ) → corners_at s k at ≡ corners_of (halfsegment_at s at)) where
    abbrev l : Layout
    l = layout k start count

    abbrev of : List ℕ → List Point
    of is = ends (map (λ j. (half s l j).segment) is)

    segments_from_lem : (n i : ℕ) → corners_from s l n i ≡ of (keep (left_test s l) (indices n i))
    segments_from_lem zero i = refl
    segments_from_lem (suc n) i =
        ap₂ ◌++◌ (same (place l i)) (segments_from_lem n (suc i))
        ∙ go (half s l i).is_left (left_test s l i) (ap (λ (b : Bool). b && (half s l i).is_left) has) (keep (left_test s l) (indices n (suc i)))
      where
        go : (b c : Bool) → c ≡ b → (is : List ℕ) → cond b ((half s l i).segment.left ∷ (half s l i).segment.right ∷ []) [] ++ of is ≡ of (cond c (i ∷ is) is)
        go true true e is = refl
        go true false e is = absurd (false≢true e)
        go false true e is = absurd (true≢false e)
        go false false e is = refl

  corners_as : (k : Shape) → corners_from s (layout k start count) count 0 ≡ corners (elements_as s (layout k start count) k)
  unfolding points_of segments
  corners_as Points = points_from count 0
  corners_as Line = segments_from_lem Line refl (λ at. refl) count 0
  corners_as Region = segments_from_lem Region refl (λ at. refl) count 0 ∙ ap ends (sym (outline_edges s (layout Region start count)))

pub corners_are : (s : List ℕ) (l : Layout) → corners_from s l l.count 0 ≡ corners (elements_of s l)
corners_are s l = corners_as s l.start l.count l.shape

-- ---- a box that any point in range makes its own

lesser_low : (z : ℤ) → T (leb (nat_abs z) limit) → lesser (pos limit) z ≡ z
unfolding lesser
lesser_low (pos n) t = go (leb limit n) refl
  where
    go : (b : Bool) → leb limit n ≡ b → cond b (pos limit) (pos n) ≡ pos n
    go true e = ap pos (omega (arith, leb-true limit n e, leb→le n limit t))
    go false e = refl
lesser_low (negsuc n) t = refl

greater_high : (z : ℤ) → T (leb (nat_abs z) limit) → greater (neg_ℤ (pos limit)) z ≡ z
unfolding greater
greater_high (pos n) t = refl
greater_high (negsuc n) t = ap (λ (b : Bool). cond b (negsuc n) (neg_ℤ (pos limit))) (le-leb n (limit - 1) (omega (arith, leb→le (suc n) limit t)))

widest_point : (p : Point) → T (in_range p) → widen widest p ≡ record { least = p; greatest = p }
unfolding within
widest_point p t =
    let x = and_left (leb (nat_abs p.x) limit) (leb (nat_abs p.y) limit) t in
    let y = and_right (leb (nat_abs p.x) limit) (leb (nat_abs p.y) limit) t in
    λ i. record {
      least = record { x = lesser_low p.x x i; y = lesser_low p.y y i };
      greatest = record { x = greater_high p.x x i; y = greater_high p.y y i };
    }

-- so that it becomes the box of points in range, of which there are some
pub grow_widest : (l : List Point) → AllInRange l → (l ≡ [] → ⊥) → grow widest l ≡ box_of l
grow_widest [] r some = absurd (some refl)
grow_widest (p ∷ l) r some = ap (λ (b : Bounds). grow b l) (widest_point p (r p here))
