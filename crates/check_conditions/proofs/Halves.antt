-- As many segments end at a point as halfsegments have it for their dominating point, where 10 and 11 find no fault: each segment has its two of them, once.
use Rattle.std.specs.Prelude.{None}
use Prim.Native.Nat.{ℕ, zero, suc, ◌+◌, ◌<◌}
use native.Mathlib.Omega.{arith}
use mathlib.Core.Path.{◌≡◌, sym, ap, ap₂, subst, ◌∙◌}
use mathlib.Core.Bool.{Bool, true, false, not, ◌&&◌, ◌||◌, not-not, true≢false}
use mathlib.Core.List.{List}
use lib.Dec.{T}
use Rattle.whole.specs.Count.{◌∈◌, bit, count}
use Rattle.whole.proofs.Logic.{and_never, map_in, sorted_nil, sorted_cons}
use Rattle.whole.proofs.Counted.{count_same}
use Rattle.plane.specs.declared.Point.{Point}
use Rattle.plane.specs.declared.Segment.{Segment}
use Rattle.plane.specs.declared.Halfsegment.{Halfsegment}
use Rattle.plane.specs.Plane.{grid, is_same_point, ordered, dominating, comes_before, is_end, ends_at}
use Rattle.plane.proofs.Equal.{same_point_read}
use Rattle.plane.proofs.OnSegment.{ordered_read}
use Rattle.plane.proofs.Order.{ends_differ, comes_irreflexive}
use Rattle.plane.proofs.Accepted.{is_at_grid}
use Rattle.scene.specs.declared.Layout.{Layout}
use Rattle.scene.specs.Read.{IsObject}
use Rattle.scene.specs.Conditions.{indices, elements, keep, has_segments, half, left_test, segments, out_of_order, unpaired}
use Rattle.scene.proofs.Indices.{keep_in}
use Rattle.scene_segments.proofs.Elements.{half_good}
use Rattle.scene_segments.proofs.Indices.{indices_in, element_in, in_element, halves_rise}
use Rattle.scene_segments.proofs.Partners.{partner_there}
use Rattle.scene_segments.proofs.Walk.{all_between, left_passes, count_segments}
use Rattle.check_conditions.proofs.Counting.{count_sum, Distinct, count_matched}

pub distinct_indices : (n j : ℕ) → Distinct (indices n j)
distinct_indices zero j = sorted_nil
distinct_indices (suc n) j = sorted_cons later (distinct_indices n (suc j))
  where
    later : (i : ℕ) → i ∈ indices n (suc j) → j ≡ i → ⊥
    later i m e = omega (arith, (indices_in n (suc j) i m).0)

pub one_index : (i j : ℕ) → (i < j → ⊥) → (j < i → ⊥) → i ≡ j
one_index i j h k = omega arith

module _ (s : List ℕ) (l : Layout) (is : IsObject s l) (order : out_of_order s l ≡ None) (paired : unpaired s l ≡ None) (has : has_segments l.shape ≡ true) where
  Partners : ℕ → ℕ → Type 0
  Partners i j = ((half s l j).is_left ≡ not (half s l i).is_left) × ((half s l j).segment ≡ (half s l i).segment)

  no_half_twice : (i j : ℕ) → i < j → j < l.count → half s l i ≡ half s l j → ⊥
  no_half_twice i j h k q = comes_irreflexive (half s l j) (subst (λ (x : Halfsegment). T (comes_before x (half s l j))) q (halves_rise s l is order has i j h k))

  same_half : (i j : ℕ) → i ∈ elements l → j ∈ elements l → half s l i ≡ half s l j → i ≡ j
  same_half i j m k e = one_index i j (λ h. no_half_twice i j h (in_element l j k) e) (λ h. no_half_twice j i h (in_element l i m) (sym e))

  one_partner : (i j k : ℕ) → i ∈ elements l → j ∈ elements l → Partners i k → Partners j k → i ≡ j
  unfolding Partners
  one_partner i j k m n p q =
      same_half i j m n (ap₂ (λ t (b : Bool). record { segment = t; is_left = b }) (sym p.1 ∙ q.1) (sym (not-not _) ∙ ap not (sym p.0 ∙ q.0) ∙ not-not _))

  partner : (i : ℕ) → i ∈ elements l → (j : ℕ) × (j ∈ elements l) × Partners i j
  unfolding Partners
  partner i m = let p = partner_there s l paired has i (in_element l i m) in (p.index, element_in l p.index p.there, (p.other_side, p.same_segment))

  -- each test holds of as many segments of right halfsegments as of left ones
  sides_match : (f : Segment → Bool)
      → count (λ i. (half s l i).is_left && f (half s l i).segment) (elements l) ≡ count (λ i. not (half s l i).is_left && f (half s l i).segment) (elements l)
  unfolding Partners
  sides_match f =
      omega (
        arith,
        count_matched Partners left right (λ i j p. ap₂ ◌&&◌ (sym (not-not (half s l i).is_left) ∙ ap not (sym p.0)) (ap f (sym p.1))) (distinct_indices l.count 0) (elements l) partner one_partner,
        count_matched Partners right left (λ i j p. ap₂ ◌&&◌ (sym p.0) (ap f (sym p.1))) (distinct_indices l.count 0) (elements l) partner one_partner,
      )
    where
      left : ℕ → Bool
      left i = (half s l i).is_left && f (half s l i).segment

      right : ℕ → Bool
      right i = not (half s l i).is_left && f (half s l i).segment

  count_lefts : (f : Segment → Bool) → count f (segments s l) ≡ count (λ i. (half s l i).is_left && f (half s l i).segment) (elements l)
  count_lefts f =
      count_segments s l f ∙ ap (count (left_passes s l f)) (sym (all_between l.count))
      ∙ count_same (left_passes s l f) (λ i. (half s l i).is_left && f (half s l i).segment) (elements l) (λ i m. ap (λ b. b && (half s l i).is_left && f (half s l i).segment) has)

  all_ordered : (t : Segment) → t ∈ segments s l → T (ordered t)
  unfolding segments
  all_ordered t m = go (map_in (λ i. (half s l i).segment) (keep (left_test s l) (elements l)) m)
    where
      go : (i : ℕ) × (i ∈ keep (left_test s l) (elements l)) × ((half s l i).segment ≡ t) → T (ordered t)
      go w = subst (λ u. T (ordered u)) w.2 (half_good s l is w.0 (in_element l w.0 (keep_in (left_test s l) (elements l) w.1).0) has).in_order

  -- an end is the left or the right one
  end_bits : (v : Point) (t : Segment) → t ∈ segments s l → bit (is_end t (grid v)) ≡ bit (is_same_point t.left v) + bit (is_same_point t.right v)
  unfolding is_end
  end_bits v t m =
      ap₂ (λ a b. bit (a || b)) (is_at_grid t.left v) (is_at_grid t.right v)
      ∙ go (is_same_point t.left v) (is_same_point t.right v) (and_never (is_same_point t.left v) (is_same_point t.right v) (λ h k. ends_differ (ordered_read t (all_ordered t m)) (same_point_read t.left v h ∙ sym (same_point_read t.right v k))))
    where
      go : (a b : Bool) → a && b ≡ false → bit (a || b) ≡ bit a + bit b
      go true true e = absurd (true≢false e)
      go true false e = omega arith
      go false b e = omega arith

  half_bits : (v : Point) (i : ℕ)
      → bit (is_same_point (dominating (half s l i)) v) ≡ bit ((half s l i).is_left && is_same_point (half s l i).segment.left v) + bit (not (half s l i).is_left && is_same_point (half s l i).segment.right v)
  unfolding dominating
  half_bits v i = go (half s l i).is_left (half s l i).segment
    where
      go : (b : Bool) (t : Segment) → bit (is_same_point (dominating (record { segment = t; is_left = b })) v) ≡ bit (b && is_same_point t.left v) + bit (not b && is_same_point t.right v)
      go true t = omega arith
      go false t = omega arith

  pub halves_end : (v : Point) → count (λ i. is_same_point (dominating (half s l i)) v) (elements l) ≡ ends_at (segments s l) (grid v)
  unfolding ends_at
  halves_end v =
      count_sum (λ i. is_same_point (dominating (half s l i)) v) (λ i. (half s l i).is_left && is_same_point (half s l i).segment.left v) (λ i. not (half s l i).is_left && is_same_point (half s l i).segment.right v) (elements l) (λ i m. half_bits v i)
      ∙ ap₂ ◌+◌ (sym (count_lefts (λ t. is_same_point t.left v))) (sym (sides_match (λ t. is_same_point t.right v)) ∙ sym (count_lefts (λ t. is_same_point t.right v)))
      ∙ sym (count_sum (λ t. is_end t (grid v)) (λ t. is_same_point t.left v) (λ t. is_same_point t.right v) (segments s l) (end_bits v))
