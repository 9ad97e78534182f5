-- 19 in points: the earliest record by the test on whole numbers is the earliest whose segment crosses at a point off the grid.
use Rattle.std.specs.Prelude.{None, Some}
use Prim.Native.Nat.{ℕ, zero, suc, ◌+◌, ◌<◌, ◌≤◌}
use native.Mathlib.Nat.{eq-or-lt_of_le}
use native.Mathlib.Omega.{arith}
use mathlib.Core.Path.{◌≡◌, refl, sym, ap, subst, ◌∙◌}
use mathlib.Core.Logic.{⊎_elim}
use mathlib.Core.Bool.{Bool, true, false, not, cond, true≢false}
use mathlib.Core.List.{List}
use lib.Dec.{T, T_not, not_T}
use Rattle.whole.specs.Count.{◌∈◌, some}
use Rattle.whole.proofs.Logic.{and_left, and_right, and_make, is_true, true_is, some_find, some_make}
use Rattle.plane.specs.declared.Segment.{Segment}
use Rattle.plane.specs.Plane.{HPoint, SharePoint, fractions, on, is_end, cross, ordered}
use Rattle.plane.proofs.OnSegment.{ordered_read, on_along, on_line}
use Rattle.plane.proofs.Means.{end_read}
use Rattle.plane.proofs.Scale.{on_scale, fractions_pos}
use Rattle.plane.proofs.Touch.{at_grid, cross_read, cross_shares}
use Rattle.split_pieces.proofs.Pair.{off_ends}
use Rattle.scene.specs.declared.Layout.{Layout}
use Rattle.scene.specs.Read.{place}
use Rattle.scene.specs.Conditions.{indices, has_segments, half, left_test, earliest}
use Rattle.scene.proofs.Indices.{not_nothing, none_wrong}
use Rattle.scene_segments.proofs.Elements.{half_good}
use Rattle.scene_segments.proofs.Partners.{partner_there}
use Rattle.check_conditions.proofs.Earliest.{left_first}
use Rattle.sweep_laws.proofs.SoundObject.{SoundObject}
use Rattle.split_crossing.specs.declared.Crossing.{Crossing}
use Rattle.split_crossing.specs.declared.Crossing.TheVariants.{Apart, OffGrid, At}
use Rattle.split_crossing.specs.Crossing.{crossing_of, is_off, crosses_off, CrossOffGrid, CrossingMeans}
use Rattle.split_crossing.proofs.Crossings.{crossing_means}
use Rattle.split_cuts.specs.Split.{is_off_grid, off_grid}
use Rattle.split.specs.OffGrid.{CrossAtFraction, CrossedRecord, EarliestCrossed, NoneCrossed}

-- ---- two segments

module _ (s t : Segment) (o : T (ordered s)) (u : T (ordered t)) where
  means : CrossingMeans s t (crossing_of s t)
  means = crossing_means s t (ordered_read s o) (ordered_read t u)

  off_is : (r : Crossing) → crossing_of s t ≡ r → T (is_off r) → crossing_of s t ≡ OffGrid
  off_is Apart e h = absurd h
  off_is OffGrid e h = e
  off_is (At c) e h = absurd h

  module _ (w : CrossOffGrid s t) (m : SharePoint s t) where
    abbrev z : HPoint
    z = fractions m.shared

    at_fraction : CrossAtFraction s t
    at_fraction =
        record {
          crossed = w.crossed;
          point = m.shared;
          on_one = m.on_one;
          on_other = m.on_other;
          inside_one = not_T (is_end s z) (λ e. off_ends s t (cross_read s t w.crossed).1 z (fractions_pos m.shared) (on_line t z (on_along t z (ordered_read t u) m.on_other)) (end_read s z e));
          inside_other = not_T (is_end t z) (λ e. off_ends t s (cross_read s t w.crossed).0 z (fractions_pos m.shared) (on_line s z (on_along s z (ordered_read s o) m.on_one)) (end_read t z e));
          off = λ c a. w.off c (subst T (at_grid (on s) (on_scale s) c z (fractions_pos m.shared) a) m.on_one) (subst T (at_grid (on t) (on_scale t) c z (fractions_pos m.shared) a) m.on_other);
        }

  crosses_at : T (crosses_off s t) → CrossAtFraction s t
  crosses_at h =
      let w = means.off (off_is (crossing_of s t) refl h) in
      at_fraction w (cross_shares s t (ordered_read s o) (ordered_read t u) w.crossed)

  crosses_make : CrossAtFraction s t → T (crosses_off s t)
  crosses_make w = go (crossing_of s t) refl
    where
      go : (r : Crossing) → crossing_of s t ≡ r → T (crosses_off s t)
      go Apart e = absurd (T_not (cross s t) (means.apart e) w.crossed)
      go OffGrid e = is_true (crosses_off s t) (ap is_off e)
      go (At c) e = absurd (w.off c ((means.at c e).3 w.point w.on_one w.on_other))

-- ---- the records of a sound object

-- the earliest index of those from i on
record Earliest (l : Layout) (wrong : ℕ → Bool) (from to p : ℕ) : Type 0 where
  index : ℕ
  within : index < to
  at_fault : T (wrong index)
  none_earlier : (j : ℕ) → from ≤ j → j < index → wrong j ≡ false
  its_place : place l index ≡ p

found : (l : Layout) (wrong : ℕ → Bool) (p m i : ℕ) → earliest l wrong (indices m i) ≡ Some p → Earliest l wrong i (i + m) p
found l wrong p zero i e = absurd (not_nothing (sym e))
found l wrong p (suc m) i e = go (wrong i) refl e (found l wrong p m (suc i))
  where
    go : (b : Bool) → wrong i ≡ b → cond b (Some (place l i)) (earliest l wrong (indices m (suc i))) ≡ Some p
        → (earliest l wrong (indices m (suc i)) ≡ Some p → Earliest l wrong (suc i) (suc i + m) p) → Earliest l wrong i (i + suc m) p
    go true q x later = record { index = i; within = omega arith; at_fault = is_true (wrong i) q; none_earlier = λ j h k. absurd (omega arith); its_place = cc }
    go false q x later =
        let w = later x in
        record {
          index = w.index;
          within = omega (arith, w.within);
          at_fault = w.at_fault;
          none_earlier = λ j h k. ⊎_elim (λ y. ap wrong (sym y) ∙ q) (λ g. w.none_earlier j g k) (eq-or-lt_of_le h);
          its_place = w.its_place;
        }

module _ (s : List ℕ) (l : Layout) (o : SoundObject s l) (others : List Segment) (in_order : (u : Segment) → u ∈ others → T (ordered u)) where
  abbrev wrong : ℕ → Bool
  wrong = is_off_grid s l others

  abbrev crossed : Segment → Bool
  crossed t = some (crosses_off t) others

  of_record : (i : ℕ) → i < l.count → T (wrong i) → CrossedRecord s l others i
  of_record i h t =
      let left = and_left (left_test s l i) (crossed (half s l i).segment) t in
      let has = and_left (has_segments l.shape) (half s l i).is_left left in
      let w = some_find (crosses_off (half s l i).segment) others (and_right (left_test s l i) (crossed (half s l i).segment) t) in
      record {
        within = h;
        has_segment_lem = has;
        crossed = record { other = w.0; among = w.1; crosses = crosses_at (half s l i).segment w.0 (half_good s l o.read i h (true_is _ has)).in_order (in_order w.0 w.1) w.2 };
      }

  -- a left one of the same segment
  record LeftRecord (i : ℕ) : Type 0 where
    index : ℕ
    no_later : index ≤ i
    within : index < l.count
    at_fault : T (wrong index)

  left_record : (i : ℕ) → CrossedRecord s l others i → LeftRecord i
  left_record i w = go (half s l i).is_left refl
    where
      has : has_segments l.shape ≡ true
      has = true_is _ w.has_segment_lem

      by : (j : ℕ) → (half s l j).is_left ≡ true → (half s l j).segment ≡ (half s l i).segment → T (wrong j)
      by j left e =
          and_make (left_test s l j) (crossed (half s l j).segment) (and_make (has_segments l.shape) (half s l j).is_left w.has_segment_lem (is_true _ left))
          (subst (λ (t : Segment). T (crossed t)) (sym e)
          (some_make (crosses_off (half s l i).segment) w.crossed.among
          (crosses_make (half s l i).segment w.crossed.other (half_good s l o.read i w.within has).in_order (in_order w.crossed.other w.crossed.among) w.crossed.crosses)))

      go : (b : Bool) → (half s l i).is_left ≡ b → LeftRecord i
      go true e = record { index = i; no_later = omega arith; within = w.within; at_fault = by i e refl }
      go false e =
          let p = partner_there s l o.paired has i w.within in
          record {
            index = p.index;
            no_later = left_first s l o.read o.order o.paired has i w.within e p;
            within = p.there;
            at_fault = by p.index (p.other_side ∙ ap not e) p.same_segment;
          }

  pub none_crossed : off_grid s l others ≡ None → NoneCrossed s l others
  unfolding off_grid
  none_crossed e i w =
      let k = left_record i w in
      true≢false (sym (true_is (wrong k.index) k.at_fault) ∙ none_wrong l wrong e k.index k.within)

  pub earliest_crossed : (p : ℕ) → off_grid s l others ≡ Some p → EarliestCrossed s l others p
  unfolding off_grid
  earliest_crossed p e =
      let w = found l wrong p l.count 0 e in
      record {
        index = w.index;
        at_fault = of_record w.index (omega (arith, w.within)) w.at_fault;
        none_earlier = λ j h c.
            let k = left_record j c in
            true≢false (sym (true_is (wrong k.index) k.at_fault) ∙ w.none_earlier k.index (omega arith) (omega (arith, h, k.no_later)));
        its_place = w.its_place;
      }
