-- 12 and 15 in points of the plane: the earliest record at fault by the test on whole numbers is the earliest whose segment shares with an unequal one
-- a point that is not an end of both, and where the test finds none, no two unequal segments do.
use Rattle.std.specs.Prelude.{None, Some}
use Rattle.scene.specs.Read.{Fault}
use Prim.Native.Nat.{ℕ, zero, suc, ◌+◌, ◌<◌, ◌≤◌}
use native.Mathlib.Nat.{eq-or-lt_of_le}
use native.Mathlib.Omega.{arith}
use mathlib.Core.Path.{◌≡◌, refl, sym, ap, subst, ◌∙◌}
use mathlib.Core.Logic.{◌↔◌, ⊎_elim}
use mathlib.Core.Bool.{Bool, true, false, not, cond}
use mathlib.Core.List.{List}
use lib.Dec.{T, T_not}
use borrow.Author.Tests.{not-false}
use Rattle.whole.specs.Count.{some}
use Rattle.whole.proofs.Logic.{and_left, and_right, and_make, is_true, true_is, refute, some_find, some_make, none_of}
use Rattle.plane.specs.declared.Segment.{Segment}
use Rattle.plane.specs.Plane.{ordered, touch}
use Rattle.plane.proofs.OnSegment.{ordered_read}
use Rattle.plane.proofs.Touch.{touch_sound, touch_complete}
use Rattle.plane.proofs.Accepted.{AllOrdered}
use Rattle.scene.specs.declared.Layout.{Layout}
use Rattle.scene.specs.Read.{place, IsObject}
use Rattle.scene.specs.Conditions.{indices, elements, has_segments, half, left_test, segments, earliest, out_of_order, unpaired, is_touching, touching}
use Rattle.scene_segments.proofs.Elements.{half_good}
use Rattle.scene_segments.proofs.Indices.{element_in, in_element, not_nothing, none_wrong, no_fault}
use Rattle.scene_segments.proofs.Parted.{touch_itself}
use Rattle.scene_segments.proofs.Partners.{partner_there}
use Rattle.scene_segments.proofs.Walk.{all_between, left_passes, some_segments}
use Rattle.check_conditions.proofs.Earliest.{left_first}
use Rattle.check_verdict.specs.SharedPoints.{OnlyEndsShared, SharesWith, AtFault, EarliestAtFault, FaultMeans}

-- ---- the earliest record at fault, where there is one

record First (l : Layout) (wrong : ℕ → Bool) (from to p : ℕ) : Type 0 where
  index : ℕ
  within : index < to
  at_fault : T (wrong index)
  none_earlier : (j : ℕ) → from ≤ j → j < index → wrong j ≡ false
  its_place : place l index ≡ p

first : (l : Layout) (wrong : ℕ → Bool) (p m i : ℕ) → earliest l wrong (indices m i) ≡ Some p → First l wrong i (i + m) p
first l wrong p zero i e = absurd (not_nothing (sym e))
first l wrong p (suc m) i e = go (wrong i) refl e (first l wrong p m (suc i))
  where
    go : (b : Bool) → wrong i ≡ b → cond b (Some (place l i)) (earliest l wrong (indices m (suc i))) ≡ Some p
        → (earliest l wrong (indices m (suc i)) ≡ Some p → First l wrong (suc i) (suc i + m) p) → First l wrong i (i + suc m) p
    go true q x later = record { index = i; within = omega arith; at_fault = is_true (wrong i) q; none_earlier = λ j h k. absurd (omega arith); its_place = cc }
    go false q x later =
        let w = later x in
        record {
          index = w.index;
          within = omega (arith, w.within);
          at_fault = w.at_fault;
          none_earlier = λ j h k. ⊎_elim (λ y. ap wrong (sym y) ∙ q) (λ g. w.none_earlier j g k) (eq-or-lt_of_le h);
          its_place = w.its_place;
        }

-- ---- an object that was read

module _ (s : List ℕ) (l : Layout) (is : IsObject s l) where
  left_ordered : (i : ℕ) → i < l.count → T (left_test s l i) → T (ordered (half s l i).segment)
  left_ordered i h t = (half_good s l is i h (true_is _ (and_left (has_segments l.shape) (half s l i).is_left t))).in_order

  some_left : (f : Segment → Bool) → some f (segments s l) ≡ some (left_passes s l f) (elements l)
  some_left f = some_segments s l f ∙ ap (some (left_passes s l f)) (sym (all_between l.count))

  pub segments_ordered : AllOrdered (segments s l)
  segments_ordered t m = is_true (ordered t) (not-false (ordered t) (none_of reversed (some_left reversed ∙ refute _ none) m))
    where
      reversed : Segment → Bool
      reversed t = not (ordered t)

      none : T (some (left_passes s l reversed) (elements l)) → ⊥
      none t =
          let w = some_find (left_passes s l reversed) (elements l) t in
          let i = w.0 in
          T_not (ordered (half s l i).segment) (and_right (left_test s l i) (reversed (half s l i).segment) w.2)
          (left_ordered i (in_element l i w.1) (and_left (left_test s l i) (reversed (half s l i).segment) w.2))

  -- against a list of segments
  module _ (others : List Segment) (in_order : AllOrdered others) where
    abbrev touches : Segment → Bool
    touches t = some (touch t) others

    module _ (t : Segment) (o : T (ordered t)) where
      shares : T (touches t) → SharesWith others t
      shares h =
          let w = some_find (touch t) others h in
          record {
            other = w.0;
            among = w.1;
            unequal = λ e. subst T (ap (touch t) (sym e) ∙ touch_itself t) w.2;
            point = touch_sound t w.0 (ordered_read t o) (ordered_read w.0 (in_order w.0 w.1)) w.2;
          }

      shares_touches : SharesWith others t → T (touches t)
      shares_touches w =
          some_make (touch t) w.among (touch_complete t w.other (ordered_read t o) (ordered_read w.other (in_order w.other w.among)) w.unequal w.point)

    -- no fault
    only_ends : touching s l others ≡ None → OnlyEndsShared (segments s l) others
    unfolding touching
    only_ends e t u m k n w =
        subst T (none_of touches (some_left touches ∙ refute _ none) m)
        (shares_touches t (segments_ordered t m) (record { other = u; among = k; unequal = n; point = w }))
      where
        none : T (some (is_touching s l others) (elements l)) → ⊥
        none t =
            let w = some_find (is_touching s l others) (elements l) t in
            subst T (none_wrong l (is_touching s l others) e w.0 (in_element l w.0 w.1)) w.2

    no_touch : OnlyEndsShared (segments s l) others → touching s l others ≡ None
    unfolding touching
    no_touch apart = no_fault l (is_touching s l others) (λ i h. refute _ (λ t. none i h t))
      where
        none : (i : ℕ) → i < l.count → T (is_touching s l others i) → ⊥
        none i h t =
            let w = some_find touches (segments s l) (subst T (sym (some_left touches)) (some_make (is_touching s l others) (element_in l i h) t)) in
            let u = shares w.0 (segments_ordered w.0 w.1) w.2 in
            apart w.0 u.other w.1 u.among u.unequal u.point

    -- `touching` finds no fault exactly if the segments and the others share only common ends
    pub no_fault_exactly : (touching s l others ≡ None) ↔ OnlyEndsShared (segments s l) others
    no_fault_exactly = (only_ends, no_touch)

    -- where 10 and 11 find no fault, the left halfsegment of a record at fault is one, and comes no later
    module _ (order : out_of_order s l ≡ None) (paired : unpaired s l ≡ None) where
      record LeftFault (i : ℕ) : Type 0 where
        index : ℕ
        no_later : index ≤ i
        within : index < l.count
        touching_one : T (is_touching s l others index)

      left_fault : (i : ℕ) → AtFault s l others i → LeftFault i
      left_fault i w = go (half s l i).is_left refl
        where
          has : has_segments l.shape ≡ true
          has = true_is _ w.has_segment_lem

          touching_by : (j : ℕ) → j < l.count → (half s l j).is_left ≡ true → (half s l j).segment ≡ (half s l i).segment → T (is_touching s l others j)
          touching_by j h left e =
              and_make (left_test s l j) (touches (half s l j).segment) (and_make (has_segments l.shape) (half s l j).is_left w.has_segment_lem (is_true _ left))
              (subst (λ (t : Segment). T (touches t)) (sym e)
              (shares_touches (half s l i).segment (half_good s l is i w.within has).in_order w.shares))

          go : (b : Bool) → (half s l i).is_left ≡ b → LeftFault i
          go true e = record { index = i; no_later = omega arith; within = w.within; touching_one = touching_by i w.within e refl }
          go false e =
              let p = partner_there s l paired has i w.within in
              record {
                index = p.index;
                no_later = left_first s l is order paired has i w.within e p;
                within = p.there;
                touching_one = touching_by p.index p.there (p.other_side ∙ ap not e) p.same_segment;
              }

      earliest_at : (p : ℕ) → touching s l others ≡ Some p → EarliestAtFault s l others p
      unfolding touching
      earliest_at p e = record { index = i; at_fault = fault; none_earlier = none; its_place = w.its_place }
        where
          w : First l (is_touching s l others) 0 (0 + l.count) p
          w = first l (is_touching s l others) p l.count 0 e

          i : ℕ
          i = w.index

          within : i < l.count
          within = omega (arith, w.within)

          is_left_lem : T (left_test s l i)
          is_left_lem = and_left (left_test s l i) (touches (half s l i).segment) w.at_fault

          fault : AtFault s l others i
          fault = record {
            within = within;
            has_segment_lem = and_left (has_segments l.shape) (half s l i).is_left is_left_lem;
            shares = shares (half s l i).segment (left_ordered i within is_left_lem) (and_right (left_test s l i) (touches (half s l i).segment) w.at_fault);
          }

          none : (j : ℕ) → j < i → ¬ AtFault s l others j
          none j h f =
              let k = left_fault j f in
              subst T (w.none_earlier k.index (omega arith) (omega (arith, k.no_later))) k.touching_one

      fault_means : (f : Fault) → touching s l others ≡ f → FaultMeans s l others f
      fault_means None e = only_ends e
      fault_means (Some p) e = earliest_at p e

      not_nothing_at : (i : ℕ) → AtFault s l others i → touching s l others ≡ None → ⊥
      unfolding touching
      not_nothing_at i f e =
          let k = left_fault i f in
          subst T (none_wrong l (is_touching s l others) e k.index k.within) k.touching_one

      fault_is : (f : Fault) → FaultMeans s l others f → touching s l others ≡ f
      fault_is None m = no_touch m
      fault_is (Some p) m = go (touching s l others) refl
        where
          go : (f : Fault) → touching s l others ≡ f → touching s l others ≡ Some p
          go None e = absurd (not_nothing_at m.index m.at_fault e)
          go (Some q) e =
              let w = earliest_at q e in
              e ∙ ap Some (sym w.its_place ∙ ap (place l) (same w) ∙ m.its_place)
            where
              same : (w : EarliestAtFault s l others q) → w.index ≡ m.index
              same w =
                  let earlier : (w.index < m.index → ⊥) = (λ h. m.none_earlier w.index h w.at_fault) in
                  let later : (m.index < w.index → ⊥) = (λ h. w.none_earlier m.index h m.at_fault) in
                  omega (arith, earlier, later)

      -- what `touching` finds is f exactly if f is the earliest record at fault, or none where the segments share only common ends
      pub fault_exactly : (f : Fault) → (touching s l others ≡ f) ↔ FaultMeans s l others f
      fault_exactly f = (fault_means f, fault_is f)
