-- What an object gives that 10 to 14 do not refuse, in the form that the plane's lemmas take.
use Rattle.std.specs.Prelude.{None}
use Prim.Native.Nat.{ℕ, zero, suc, ◌<◌}
use mathlib.Core.Path.{◌≡◌, refl, sym, ap, subst, subst₂, ◌∙◌}
use mathlib.Core.Bool.{Bool, true, false, not, cond, beq}
use mathlib.Core.List.{List, map}
use lib.Dec.{T}
use borrow.Author.Tests.{not-false}
use Rattle.whole.specs.Count.{odd, ◌∈◌}
use Rattle.whole.proofs.Logic.{beq_same, and_left, and_right, is_true, true_is, refute, none_of, in_map, map_in, Sorted, sorted_nil, sorted_cons, sorted_map}
use Rattle.plane.specs.declared.Point.{Point}
use Rattle.plane.specs.declared.Segment.{Segment}
use Rattle.plane.specs.declared.Halfsegment.{Halfsegment}
use Rattle.plane.specs.Plane.{in_range, segment_in_range, before, ordered, dominating, comes_before, grid, ends_at, interior_above, touch}
use Rattle.plane.proofs.Order.{before_irreflexive, comes_irreflexive, LeftBefore, half_of}
use Rattle.plane.proofs.Accepted.{Split, Regular, AllOrdered, split_from_order, even_from_ends}
use Rattle.scene.specs.declared.Layout.{Layout}
use Rattle.scene.specs.declared.Scene.{Scene}
use Rattle.scene.specs.Read.{point_at, place, turned, IsObject}
use Rattle.scene.specs.Conditions.{indices, elements, keep, has_segments, is_region, half, ia, left_test, segments, is_in_order, out_of_order, unpaired, is_touching, touching, touching_itself, ends_oddly, odd_end, has_wrong_ia, wrong_ia, touching_across}
use Rattle.scene_segments.proofs.Elements.{point_good, half_good, order_of_points, order_of_halves}
use Rattle.scene_segments.proofs.Partners.{Partner, partner_there}
use Rattle.scene_segments.proofs.Parted.{touch_swap}
use Rattle.scene_segments.proofs.Indices.{indices_in, element_in, in_element, keep_in, in_keep, kept_rise, none_wrong, halves_rise, points_rise}

-- ---- an object that 10 to 14 do not refuse

pub record SoundObject (s : List ℕ) (l : Layout) : Type 0 where
  pub read : IsObject s l
  pub order : out_of_order s l ≡ None
  pub paired : unpaired s l ≡ None
  pub apart : touching_itself s l ≡ None
  pub even : odd_end s l ≡ None
  pub right_ia : wrong_ia s l ≡ None

-- the halfsegment i, with one segment, on one side
module _ (s : List ℕ) (l : Layout) (i : ℕ) where
  as_half : (b : Bool) → (half s l i).is_left ≡ b → half s l i ≡ half_of b (half s l i).segment
  as_half b e = ap (λ (b : Bool). half_of b (half s l i).segment) e

  left_segments : left_test s l i ≡ true → (has_segments l.shape ≡ true) × ((half s l i).is_left ≡ true)
  left_segments e =
      (true_is _ (and_left (has_segments l.shape) (half s l i).is_left (is_true (left_test s l i) e)), true_is _ (and_right (has_segments l.shape) (half s l i).is_left (is_true (left_test s l i) e)))

module _ {s : List ℕ} {l : Layout} (o : SoundObject s l) where
  -- 10: each element comes before every later one
  pub in_strict_order : (i j : ℕ) → i < j → j < l.count → T (is_in_order s l i j)
  in_strict_order i j h k = go (has_segments l.shape) refl
    where
      go : (b : Bool) → has_segments l.shape ≡ b → T (is_in_order s l i j)
      go true e = subst T (sym (order_of_halves s l i j e)) (halves_rise s l o.read o.order e i j h k)
      go false e = subst T (sym (order_of_points s l i j e)) (points_rise s l o.read o.order e i j h k)

  -- hence no element twice
  pub no_half_twice : has_segments l.shape ≡ true → (i j : ℕ) → i < j → j < l.count → half s l i ≡ half s l j → ⊥
  no_half_twice e i j h k q = comes_irreflexive (half s l j) (subst (λ (x : Halfsegment). T (comes_before x (half s l j))) q (halves_rise s l o.read o.order e i j h k))

  pub no_point_twice : has_segments l.shape ≡ false → (i j : ℕ) → i < j → j < l.count → point_at s (place l i) ≡ point_at s (place l j) → ⊥
  no_point_twice e i j h k q =
      before_irreflexive (point_at s (place l j)) (subst (λ (x : Point). T (before x (point_at s (place l j)))) q (points_rise s l o.read o.order e i j h k))

  -- the segments are those of the left halfsegments
  pub left_in : (i : ℕ) → i < l.count → left_test s l i ≡ true → (half s l i).segment ∈ segments s l
  unfolding segments
  left_in i h e = in_map (λ i. (half s l i).segment) (in_keep (left_test s l) (element_in l i h) e)

  pub in_left : {t : Segment} → t ∈ segments s l → (i : ℕ) × (i < l.count) × (left_test s l i ≡ true) × ((half s l i).segment ≡ t)
  unfolding segments
  in_left m =
      let w = map_in (λ i. (half s l i).segment) (keep (left_test s l) (elements l)) m in
      let k = keep_in (left_test s l) (elements l) w.1 in
      (w.0, in_element l w.0 k.0, k.1, w.2)

  good_segment : {t : Segment} → t ∈ segments s l → T (segment_in_range t) × T (ordered t)
  good_segment {t} m =
      let w = in_left m in
      let g = half_good s l o.read w.0 w.1 (left_segments s l w.0 w.2).0 in
      subst (λ (t : Segment). T (segment_in_range t) × T (ordered t)) w.3 (g.in_range_lem, g.in_order)

  pub segments_in_range : {t : Segment} → t ∈ segments s l → T (segment_in_range t)
  segments_in_range m = (good_segment m).0

  pub all_ordered : AllOrdered (segments s l)
  all_ordered t m = (good_segment m).1

  -- 10: they come in the order of their left halfsegments
  pub segments_sorted : Sorted LeftBefore (segments s l)
  unfolding segments
  segments_sorted = sorted_map (λ i. (half s l i).segment) (kept_rise (left_test s l) l.count 0) rise
    where
      rise : (i j : ℕ) → i ∈ keep (left_test s l) (elements l) → j ∈ keep (left_test s l) (elements l) → i < j → LeftBefore (half s l i).segment (half s l j).segment
      rise i j m k h =
          let a = keep_in (left_test s l) (elements l) m in
          let b = keep_in (left_test s l) (elements l) k in
          subst₂ (λ (h k : Halfsegment). T (comes_before h k)) (as_half s l i true (left_segments s l i a.1).1) (as_half s l j true (left_segments s l j b.1).1)
          (halves_rise s l o.read o.order (left_segments s l i a.1).0 i j h (in_element l j b.0))

  -- 12 and 15: none of them touches one of the others
  none_touched : {others : List Segment} → touching s l others ≡ None → (t u : Segment) → t ∈ segments s l → u ∈ others → touch t u ≡ false
  unfolding touching
  none_touched {others} e t u m k =
      let w = in_left m in
      subst (λ (t : Segment). touch t u ≡ false) w.3
      (none_of (touch (half s l w.0).segment) (rw w.2 at (none_wrong l (is_touching s l others) e w.0 w.1)) k)

  pub no_touch : (t u : Segment) → t ∈ segments s l → u ∈ segments s l → touch t u ≡ false
  unfolding touching_itself
  no_touch = none_touched o.apart

  pub split : Split (segments s l)
  split = split_from_order (segments s l) all_ordered no_touch segments_sorted

  -- 11: every halfsegment has its partner
  pub partner_of : has_segments l.shape ≡ true → (i : ℕ) → i < l.count → Partner s l i
  partner_of = partner_there s l o.paired

  -- so the segment of a right halfsegment is one of the list too
  pub segment_in : has_segments l.shape ≡ true → (i : ℕ) → i < l.count → (half s l i).segment ∈ segments s l
  segment_in e i h = go (half s l i).is_left refl
    where
      left : (i : ℕ) → (half s l i).is_left ≡ true → left_test s l i ≡ true
      left i q = rw (e, q)

      go : (b : Bool) → (half s l i).is_left ≡ b → (half s l i).segment ∈ segments s l
      go true q = left_in i h (left i q)
      go false q =
          let p = partner_of e i h in
          subst (λ (t : Segment). t ∈ segments s l) p.same_segment (left_in p.index p.there (left p.index (p.other_side ∙ ap not q)))

  -- and each segment of the list is that of a left and of a right halfsegment
  pub half_of_lem : (b : Bool) {t : Segment} → t ∈ segments s l → (i : ℕ) × (i < l.count) × (half s l i ≡ half_of b t)
  half_of_lem b {t} m = go b
    where
      w : (i : ℕ) × (i < l.count) × (left_test s l i ≡ true) × ((half s l i).segment ≡ t)
      w = in_left m

      is_left_lem : (half s l w.0).is_left ≡ true
      is_left_lem = (left_segments s l w.0 w.2).1

      go : (b : Bool) → (i : ℕ) × (i < l.count) × (half s l i ≡ half_of b t)
      go true = (w.0, w.1, as_half s l w.0 true is_left_lem ∙ ap (half_of true) w.3)
      go false =
          let p = partner_of (left_segments s l w.0 w.2).0 w.0 w.1 in
          (p.index, p.there, as_half s l p.index false (p.other_side ∙ ap not is_left_lem) ∙ ap (half_of false) (p.same_segment ∙ w.3))

  -- 13: an even number of segments ends at each end
  module _ (region : is_region l.shape ≡ true) where
    even_at : (i : ℕ) → i < l.count → odd (ends_at (segments s l) (grid (dominating (half s l i)))) ≡ false
    unfolding odd_end
    even_at i h = rw region at (none_wrong l (ends_oddly s l) o.even i h)

    pub regular : Regular (segments s l)
    unfolding dominating
    regular = record {
      split = split;
      even = even_from_ends (segments s l) all_ordered (λ t m. (at true m, at false m));
    }
      where
        at : (b : Bool) {t : Segment} → t ∈ segments s l → odd (ends_at (segments s l) (grid (dominating (half_of b t)))) ≡ false
        at b m = let w = half_of_lem b m in subst (λ (h : Halfsegment). odd (ends_at (segments s l) (grid (dominating h))) ≡ false) w.2 (even_at w.0 w.1)

    -- 14: ia is as the rule has it
    pub ia_is : (i : ℕ) → i < l.count → ia s l i ≡ interior_above (segments s l) (half s l i).segment
    unfolding wrong_ia
    ia_is i h =
        beq_same (ia s l i) (interior_above (segments s l) (half s l i).segment)
        (not-false (beq (ia s l i) (interior_above (segments s l) (half s l i).segment)) right)
      where
        right : not (beq (ia s l i) (interior_above (segments s l) (half s l i).segment)) ≡ false
        right = rw region (rw region at (none_wrong l (has_wrong_ia s l) o.right_ia i h))

  -- points: in range, and in strict order
  module _ (points : has_segments l.shape ≡ false) where
    pub point_in_range : (i : ℕ) → i < l.count → T (in_range (point_at s (place l i)))
    point_in_range i h = (point_good s l o.read i h points).in_range_lem

    pub points_sorted : Sorted (λ p q. T (before p q)) (map (λ i. point_at s (place l i)) (elements l))
    points_sorted =
        sorted_map (λ i. point_at s (place l i)) (rise l.count 0) (λ i j m k h. points_rise s l o.read o.order points i j h (in_element l j k))
      where
        rise : (n j : ℕ) → Sorted ◌<◌ (indices n j)
        rise zero j = sorted_nil
        rise (suc n) j = sorted_cons (λ i m. (indices_in n (suc j) i m).0) (rise n (suc j))

-- ---- two such objects of a scene

-- 15, whichever of them is given first, since touching goes both ways
module _ {s : List ℕ} {a b : Layout} (o : SoundObject s a) (q : SoundObject s b) (none : touching s a (segments s b) ≡ None) where
  pub untouched : (t u : Segment) → t ∈ segments s a → u ∈ segments s b → (touch t u ≡ false) × (touch u t ≡ false)
  untouched t u m k =
      let e = none_touched o none t u m k in
      (e, refute (touch u t) (λ h. subst T e (touch_swap u t (all_ordered q u k) (all_ordered o t m) h)))

pub no_touch_across : {s : List ℕ} {sc : Scene} → SoundObject s sc.f → SoundObject s sc.g → touching_across s sc ≡ None
    → (t u : Segment) → t ∈ segments s sc.f → u ∈ segments s sc.g → (touch t u ≡ false) × (touch u t ≡ false)
no_touch_across {s} {sc} o q none t u m k = go (turned sc) none
  where
    go : (b : Bool) → touching s (cond b sc.g sc.f) (segments s (cond b sc.f sc.g)) ≡ None → (touch t u ≡ false) × (touch u t ≡ false)
    go true e = let w = untouched q o e u t k m in (w.1, w.0)
    go false e = untouched o q e t u m k
