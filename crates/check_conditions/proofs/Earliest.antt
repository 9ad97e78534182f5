-- The earliest record at fault by the tests of Faults.antt is that of the definitions, where the conditions that the tests rest on find no fault: 10 of the
-- elements searched, and for 13 and 14 also 11.
use Rattle.std.specs.Prelude.{None, Some}
use Prim.Native.Nat.{ℕ, zero, suc, ◌+◌, ◌-◌, ◌<◌, ◌≤◌}
use native.Mathlib.Nat.{eq-or-lt_of_le}
use native.Mathlib.Decide.{dec_lt}
use native.Mathlib.Omega.{arith}
use mathlib.Core.Path.{◌≡◌, refl, sym, ap, ap₂, subst, subst₂, ◌∙◌}
use mathlib.Core.Logic.{⊎_elim}
use mathlib.Core.Bool.{Bool, true, false, not, ◌&&◌, ◌||◌, cond, beq}
use mathlib.Core.List.{List}
use lib.Dec.{T, T_not, ltb}
use borrow.Author.Tests.{lt-ltb, ltb-true}
use Rattle.whole.specs.Count.{◌∈◌, odd, some, count}
use Rattle.whole.proofs.Logic.{and_left, and_right, and_make, or_left, is_true, is_false, true_is, same_test, some_find, some_make}
use Rattle.plane.specs.declared.Point.{Point}
use Rattle.plane.specs.declared.Segment.{Segment}
use Rattle.plane.specs.declared.Halfsegment.{Halfsegment}
use Rattle.plane.specs.Plane.{before, is_same_point, ordered, dominating, comes_before, grid, midpoint, ends_at, counts_below, counts_below_left, interior_above, touch}
use Rattle.plane.proofs.Equal.{same_point_read}
use Rattle.plane.proofs.Order.{comes_irreflexive, comes_trans}
use Rattle.scene.specs.declared.Layout.{Layout}
use Rattle.scene.specs.Read.{place, IsObject}
use Rattle.scene.specs.Conditions.{indices, elements, has_segments, is_region, half, ia, left_test, segments, earliest, out_of_order, partner, is_unpaired, unpaired, is_touching, touching, touching_itself, ends_oddly, odd_end, has_wrong_ia, wrong_ia}
use Rattle.scene_segments.specs.Walked.{vertical, touches_from, count_below}
use Rattle.scene_segments.proofs.Elements.{half_good, region_segments}
use Rattle.scene_segments.proofs.Indices.{element_in, in_element, indices_in, in_indices, halves_rise}
use Rattle.scene_segments.proofs.Parted.{touch_itself, touch_swap}
use Rattle.scene_segments.proofs.Partners.{Partner, as_paired, partner_there}
use Rattle.scene_segments.proofs.Walk.{between, left_passes, some_segments}
use Rattle.scene_segments.proofs.Beyond.{touches_some, counts_below_lem}
use Rattle.check_conditions.specs.Partners.{place_for, turned, has_partner}
use Rattle.check_conditions.proofs.Halving.{Parts, parted}
use Rattle.check_conditions.proofs.Together.{together_all}
use Rattle.check_conditions.specs.Odd.{is_first_at, together, begins_oddly, interior_by, is_mismarked}
use Rattle.check_conditions.specs.Faults.{touches_any}

-- ---- two tests with one earliest record: what is tested is wrong, and at or before what is wrong something is tested

module _ (l : Layout) (wrong tested : ℕ → Bool) where
  record Same : Type 0 where
    sound : (i : ℕ) → i < l.count → T (tested i) → T (wrong i)
    complete : (i : ℕ) → i < l.count → T (wrong i) → (j : ℕ) × (j ≤ i) × T (tested j)

  same_from : Same → (m i : ℕ) → i + m ≡ l.count → ((j : ℕ) → j < i → tested j ≡ false) → earliest l tested (indices m i) ≡ earliest l wrong (indices m i)
  same_from same zero i e none = refl
  same_from same (suc m) i e none = go (tested i) (wrong i) refl refl (λ q. same_from same m (suc i) (omega arith) (before q))
    where
      before : tested i ≡ false → (j : ℕ) → j < suc i → tested j ≡ false
      before q j h = ⊎_elim (λ x. ap tested x ∙ q) (none j) (eq-or-lt_of_le (omega arith))

      no_earlier : tested i ≡ false → T (wrong i) → ⊥
      no_earlier q w = let k = same.complete i (omega arith) w in T_not (tested k.0) (is_false (tested k.0) (before q k.0 (omega arith))) k.2

      go : (a b : Bool) → tested i ≡ a → wrong i ≡ b → (tested i ≡ false → earliest l tested (indices m (suc i)) ≡ earliest l wrong (indices m (suc i)))
          → cond a (Some (place l i)) (earliest l tested (indices m (suc i))) ≡ cond b (Some (place l i)) (earliest l wrong (indices m (suc i)))
      go true true p q later = refl
      go true false p q later = absurd (T_not (wrong i) (is_false (wrong i) q) (same.sound i (omega arith) (is_true (tested i) p)))
      go false true p q later = absurd (no_earlier p (is_true (wrong i) q))
      go false false p q later = later p

  same_earliest : Same → earliest l tested (elements l) ≡ earliest l wrong (elements l)
  same_earliest same = same_from same l.count 0 (omega arith) (λ j h. absurd (omega arith))

  -- tests that agree
  agree : ((i : ℕ) → i < l.count → tested i ≡ wrong i) → earliest l tested (elements l) ≡ earliest l wrong (elements l)
  agree e = same_earliest (record { sound = λ i h. subst T (e i h); complete = λ i h t. (i, omega arith, subst T (sym (e i h)) t) })

-- ---- 13: elements that stand together at one dominating point are at fault together

module _ (s : List ℕ) (l : Layout) where
  abbrev odd_at : ℕ → Bool
  odd_at i = odd (ends_at (segments s l) (grid (dominating (half s l i))))

  -- by the number of segments, of the first of them
  abbrev first_odd : ℕ → Bool
  first_odd i = is_region l.shape && (is_first_at s l i && odd_at i)

  -- the first of them
  first_of : (i : ℕ) → T (ends_oddly s l i) → (j : ℕ) × (j ≤ i) × T (first_odd j)
  first_of zero t = (0, omega arith, and_make (is_region l.shape) (is_first_at s l 0 && odd_at 0) (and_left (is_region l.shape) (odd_at 0) t) (and_right (is_region l.shape) (odd_at 0) t))
  first_of (suc i) t = go (is_same_point (dominating (half s l i)) (dominating (half s l (suc i)))) refl (first_of i)
    where
      go : (b : Bool) → is_same_point (dominating (half s l i)) (dominating (half s l (suc i))) ≡ b
          → (T (ends_oddly s l i) → (j : ℕ) × (j ≤ i) × T (first_odd j)) → (j : ℕ) × (j ≤ suc i) × T (first_odd j)
      go true e earlier =
          let same = same_point_read (dominating (half s l i)) (dominating (half s l (suc i))) (is_true _ e) in
          let w = earlier (subst (λ (p : Point). T (is_region l.shape && odd (ends_at (segments s l) (grid p)))) (sym same) t) in
          (w.0, omega arith, w.2)
      go false e earlier =
          (suc i, omega arith, and_make (is_region l.shape) (is_first_at s l (suc i) && odd_at (suc i)) (and_left (is_region l.shape) (odd_at (suc i)) t) (and_make (is_first_at s l (suc i)) (odd_at (suc i)) (is_true _ first) (and_right (is_region l.shape) (odd_at (suc i)) t)))
        where
          back : suc i - 1 ≡ i
          back = omega arith

          first : is_first_at s l (suc i) ≡ true
          first = rw (lt-ltb 0 (suc i) (omega arith), back, e)

  by_first : earliest l first_odd (elements l) ≡ odd_end s l
  unfolding odd_end
  by_first = same_earliest l (ends_oddly s l) first_odd (record { sound = later; complete = λ i h. first_of i })
    where
      later : (i : ℕ) → i < l.count → T (first_odd i) → T (ends_oddly s l i)
      later i h t =
          and_make (is_region l.shape) (odd_at i) (and_left (is_region l.shape) (is_first_at s l i && odd_at i) t)
          (and_right (is_first_at s l i) (odd_at i) (and_right (is_region l.shape) (is_first_at s l i && odd_at i) t))

module _ (s : List ℕ) (l : Layout) (is : IsObject s l) (order : out_of_order s l ≡ None) where
  -- ---- 11

  module _ (has : has_segments l.shape ≡ true) (i : ℕ) (h : i < l.count) where
    in_order : (j : ℕ) → j < l.count → T (ordered (half s l j).segment)
    in_order j k = (half_good s l is j k has).in_order

    -- those that come before the partner's place come first
    place_parts : Parts (λ j. comes_before (half s l j) (turned s l i)) l.count (place_for s l (turned s l i))
    unfolding place_for
    place_parts =
        parted (λ j. comes_before (half s l j) (turned s l i)) l.count
        (λ j k g m e. true_is _ (comes_trans (half s l j) (half s l k) (turned s l i) (in_order j (omega arith)) (in_order k m) (in_order i h) (halves_rise s l is order has j k g m) (is_true _ e)))

    -- so the partner stands there
    module _ (j : ℕ) (k : j < l.count) (q : half s l j ≡ turned s l i) where
      not_after : place_for s l (turned s l i) < j → ⊥
      not_after g =
          T_not (comes_before (half s l (place_for s l (turned s l i))) (turned s l i))
          (is_false (comes_before (half s l (place_for s l (turned s l i))) (turned s l i)) (place_parts.at (omega arith)))
          (subst (λ (m : Halfsegment). T (comes_before (half s l (place_for s l (turned s l i))) m)) q (halves_rise s l is order has (place_for s l (turned s l i)) j g k))

      not_before : j < place_for s l (turned s l i) → ⊥
      not_before g =
          comes_irreflexive (turned s l i)
          (subst (λ (m : Halfsegment). T (comes_before m (turned s l i))) q (is_true (comes_before (half s l j) (turned s l i)) (place_parts.before j g)))

      stands : place_for s l (turned s l i) ≡ j
      stands = omega (arith, not_after, not_before)

    found : has_partner s l i ≡ some (partner s l i) (elements l)
    found = same_test (has_partner s l i) (some (partner s l i) (elements l)) there somewhere
      where
        there : T (has_partner s l i) → T (some (partner s l i) (elements l))
        there t =
            some_make (partner s l i) (element_in l (place_for s l (turned s l i)) (ltb-true _ _ (true_is _ (and_left (ltb (place_for s l (turned s l i)) l.count) _ t))))
            (and_right (ltb (place_for s l (turned s l i)) l.count) _ t)

        somewhere : T (some (partner s l i) (elements l)) → T (has_partner s l i)
        somewhere t =
            let w = some_find (partner s l i) (elements l) t in
            let k = in_element l w.0 w.1 in
            let p = as_paired s l i w.0 w.2 in
            let at = stands w.0 k (ap₂ (λ (t : Segment) (b : Bool). record { segment = t; is_left = b }) p.same_segment p.other_side) in
            subst (λ (j : ℕ). T (ltb j l.count && partner s l i j)) (sym at) (and_make (ltb w.0 l.count) (partner s l i w.0) (is_true _ (lt-ltb w.0 l.count k)) w.2)

  pub fault_11 : earliest l (λ i. has_segments l.shape && not (has_partner s l i)) (elements l) ≡ unpaired s l
  unfolding unpaired
  fault_11 = agree l (is_unpaired s l) (λ i. has_segments l.shape && not (has_partner s l i)) (λ i h. go i h (has_segments l.shape) refl)
    where
      go : (i : ℕ) → i < l.count → (b : Bool) → has_segments l.shape ≡ b → (b && not (has_partner s l i)) ≡ (b && not (some (partner s l i) (elements l)))
      go i h true e = ap not (found e i h)
      go i h false e = refl

  -- ---- 12: of two elements that touch, the earlier one touches a later one

  module _ (i : ℕ) (h : i < l.count) (t : T (left_test s l i)) where
    left_order : T (ordered (half s l i).segment)
    left_order = (half_good s l is i h (true_is _ (and_left (has_segments l.shape) (half s l i).is_left t))).in_order

    touches_later : touches_from s l (half s l i).segment (i + 1) ≡ some (left_passes s l (touch (half s l i).segment)) (between (i + 1) l.count)
    touches_later = touches_some s l is order (half s l i).segment left_order (i + 1) (omega arith)

    -- it touches the element j, which is later
    touches_it : (j : ℕ) → i < j → j < l.count → T (left_passes s l (touch (half s l i).segment) j) → T (touches_any s l l (i + 1) i)
    touches_it j g k p =
        and_make (left_test s l i) (touches_from s l (half s l i).segment (i + 1)) t
        (subst T (sym touches_later) (some_make (left_passes s l (touch (half s l i).segment)) (in_indices (l.count - (i + 1)) (i + 1) j (omega arith) (omega arith)) p))

  touches_earlier : Same l (is_touching s l (segments s l)) (λ i. touches_any s l l (i + 1) i)
  touches_earlier = record { sound = later; complete = earlier }
    where
      all : (t : Segment) → some (touch t) (segments s l) ≡ some (left_passes s l (touch t)) (between 0 l.count)
      all t = some_segments s l (touch t)

      later : (i : ℕ) → i < l.count → T (touches_any s l l (i + 1) i) → T (is_touching s l (segments s l) i)
      later i h t =
          let left = and_left (left_test s l i) (touches_from s l (half s l i).segment (i + 1)) t in
          let test = left_passes s l (touch (half s l i).segment) in
          let w = some_find test (between (i + 1) l.count) (subst T (touches_later i h left) (and_right (left_test s l i) (touches_from s l (half s l i).segment (i + 1)) t)) in
          let k = indices_in (l.count - (i + 1)) (i + 1) w.0 w.1 in
          and_make (left_test s l i) (some (touch (half s l i).segment) (segments s l)) left
          (subst T (sym (all (half s l i).segment)) (some_make test (in_indices (l.count - 0) 0 w.0 (omega arith) (omega arith)) w.2))

      earlier : (i : ℕ) → i < l.count → T (is_touching s l (segments s l) i) → (j : ℕ) × (j ≤ i) × T (touches_any s l l (j + 1) j)
      earlier i h t = go w.0 (omega (arith, (indices_in (l.count - 0) 0 w.0 w.1).1)) w.2 (dec_lt i w.0) (dec_lt w.0 i)
        where
          test : ℕ → Bool
          test = left_passes s l (touch (half s l i).segment)

          left : T (left_test s l i)
          left = and_left (left_test s l i) (some (touch (half s l i).segment) (segments s l)) t

          w : (j : ℕ) × (j ∈ between 0 l.count) × T (test j)
          w = some_find test (between 0 l.count) (subst T (all (half s l i).segment) (and_right (left_test s l i) (some (touch (half s l i).segment) (segments s l)) t))

          go : (j : ℕ) → j < l.count → T (test j) → Dec (i < j) → Dec (j < i) → (k : ℕ) × (k ≤ i) × T (touches_any s l l (k + 1) k)
          go j k p (yes g) d = (i, omega arith, touches_it i h left j g k p)
          go j k p (no g) (yes d) =
              let left_j = and_left (left_test s l j) (touch (half s l i).segment (half s l j).segment) p in
              let touched = and_right (left_test s l j) (touch (half s l i).segment (half s l j).segment) p in
              let back = touch_swap (half s l i).segment (half s l j).segment (left_order i h left) (left_order j k left_j) touched in
              (j, omega arith, touches_it j k left_j i d h (and_make (left_test s l i) (touch (half s l j).segment (half s l i).segment) left back))
          go j k p (no g) (no d) =
              absurd
              (T_not (touch (half s l i).segment (half s l i).segment) (is_false _ (touch_itself (half s l i).segment))
              (subst (λ (m : ℕ). T (touch (half s l i).segment (half s l m).segment)) (omega arith) (and_right (left_test s l j) (touch (half s l i).segment (half s l j).segment) p)))

  pub fault_12 : earliest l (λ i. touches_any s l l (i + 1) i) (elements l) ≡ touching_itself s l
  unfolding touching_itself touching
  fault_12 = same_earliest l (is_touching s l (segments s l)) (λ i. touches_any s l l (i + 1) i) touches_earlier

  -- ---- 13: as many segments end at a point as elements stand together there

  pub fault_13 : unpaired s l ≡ None → earliest l (begins_oddly s l) (elements l) ≡ odd_end s l
  fault_13 paired = agree l (first_odd s l) (begins_oddly s l) (λ i h. go i h (is_region l.shape) refl) ∙ by_first s l
    where
      at_first : (i : ℕ) → i < l.count → is_region l.shape ≡ true → (c : Bool) → is_first_at s l i ≡ c → (c && odd (together s l i)) ≡ (c && odd_at s l i)
      at_first i h r true f = ap odd (together_all s l is order (region_segments l.shape r) i h paired (is_true (is_first_at s l i) f))
      at_first i h r false f = refl

      go : (i : ℕ) → i < l.count → (b : Bool) → is_region l.shape ≡ b → (b && (is_first_at s l i && odd (together s l i))) ≡ (b && (is_first_at s l i && odd_at s l i))
      go i h true e = at_first i h e (is_first_at s l i) refl
      go i h false e = refl

  -- ---- 14: of a halfsegment and its partner, which have one ia, the left one is the earlier

  interior_same : (t : Segment) → T (ordered t) → interior_by s l t ≡ interior_above (segments s l) t
  unfolding interior_above
  interior_same t o = go (vertical t) refl
    where
      by : (b : Bool) → vertical t ≡ b → count_below s l t ≡ count (λ u. cond b (counts_below_left (midpoint t) u) (counts_below (midpoint t) u)) (segments s l)
      by b e = counts_below_lem s l is order t o ∙ ap (λ (v : Bool). count (λ u. cond v (counts_below_left (midpoint t) u) (counts_below (midpoint t) u)) (segments s l)) e

      go : (b : Bool) → vertical t ≡ b
          → (b && odd (count_below s l t)) || (not b && not (odd (count_below s l t)))
          ≡ (b && odd (count (counts_below_left (midpoint t)) (segments s l))) || (not b && not (odd (count (counts_below (midpoint t)) (segments s l))))
      go true e = rw (by true e)
      go false e = rw (by false e)

  module _ (paired : unpaired s l ≡ None) where
    -- 14 of the element, by the test and by the definition
    abbrev by_test : ℕ → Bool
    by_test i = not (beq (ia s l i) (interior_by s l (half s l i).segment))

    abbrev by_rule : ℕ → Bool
    by_rule i = not (beq (ia s l i) (interior_above (segments s l) (half s l i).segment))

    module _ (region : is_region l.shape ≡ true) (i : ℕ) (h : i < l.count) where
      has : has_segments l.shape ≡ true
      has = region_segments l.shape region

      one_rule : by_test i ≡ by_rule i
      one_rule = ap (λ (b : Bool). not (beq (ia s l i) b)) (interior_same (half s l i).segment (half_good s l is i h has).in_order)

      marked_by : (half s l i).is_left ≡ true → T (by_rule i) → T (is_mismarked s l i)
      marked_by left t =
          and_make (is_region l.shape) ((half s l i).is_left && by_test i) (is_true _ region)
          (and_make (half s l i).is_left (by_test i) (is_true _ left) (subst T (sym one_rule) t))

    -- the partner of a right halfsegment comes before it
    pub left_first : has_segments l.shape ≡ true → (i : ℕ) → i < l.count → (half s l i).is_left ≡ false → (p : Partner s l i) → p.index ≤ i
    unfolding dominating comes_before ordered
    left_first e i h right p = omega (arith, clash)
      where
        at_left : dominating (half s l p.index) ≡ (half s l i).segment.left
        at_left = rw (p.other_side ∙ ap not right) (ap (λ (t : Segment). t.left) p.same_segment)

        at_right : dominating (half s l i) ≡ (half s l i).segment.right
        at_right = rw right

        both : T (before (dominating (half s l p.index)) (dominating (half s l i)))
        both = subst₂ (λ a b. T (before a b)) (sym at_left) (sym at_right) (half_good s l is i h e).in_order

        clash : i < p.index → ⊥
        clash g =
            comes_irreflexive (half s l i)
            (comes_trans (half s l i) (half s l p.index) (half s l i) (half_good s l is i h e).in_order (half_good s l is p.index p.there e).in_order (half_good s l is i h e).in_order
            (halves_rise s l is order e i p.index g p.there) (or_left (before (dominating (half s l p.index)) (dominating (half s l i))) _ both))

    marked_earlier : Same l (has_wrong_ia s l) (is_mismarked s l)
    marked_earlier = record { sound = later; complete = earlier }
      where
        later : (i : ℕ) → i < l.count → T (is_mismarked s l i) → T (has_wrong_ia s l i)
        later i h t =
            let r = and_left (is_region l.shape) ((half s l i).is_left && by_test i) t in
            and_make (is_region l.shape) (by_rule i) r
            (subst T (one_rule (true_is _ r) i h) (and_right (half s l i).is_left (by_test i) (and_right (is_region l.shape) ((half s l i).is_left && by_test i) t)))

        earlier : (i : ℕ) → i < l.count → T (has_wrong_ia s l i) → (j : ℕ) × (j ≤ i) × T (is_mismarked s l j)
        earlier i h t = go (half s l i).is_left refl
          where
            region : is_region l.shape ≡ true
            region = true_is _ (and_left (is_region l.shape) (by_rule i) t)

            wrong : T (by_rule i)
            wrong = and_right (is_region l.shape) (by_rule i) t

            go : (b : Bool) → (half s l i).is_left ≡ b → (j : ℕ) × (j ≤ i) × T (is_mismarked s l j)
            go true e = (i, omega arith, marked_by region i h e wrong)
            go false e =
                let p = partner_there s l paired (has region i h) i h in
                (p.index, left_first (has region i h) i h e p, marked_by region p.index p.there (p.other_side ∙ ap not e) (subst₂ (λ (a : Bool) (t : Segment). T (not (beq a (interior_above (segments s l) t)))) (sym p.same_ia_lem) (sym p.same_segment) wrong))

    pub fault_14 : earliest l (is_mismarked s l) (elements l) ≡ wrong_ia s l
    unfolding wrong_ia
    fault_14 = same_earliest l (has_wrong_ia s l) (is_mismarked s l) marked_earlier

  -- ---- 15

  pub fault_15 : (own : Layout) → IsObject s own → earliest own (touches_any s own l 0) (elements own) ≡ touching s own (segments s l)
  unfolding touching
  fault_15 own read = agree own (is_touching s own (segments s l)) (touches_any s own l 0) (λ i h. go i h (left_test s own i) refl)
    where
      go : (i : ℕ) → i < own.count → (b : Bool) → left_test s own i ≡ b → (b && touches_from s l (half s own i).segment 0) ≡ (b && some (touch (half s own i).segment) (segments s l))
      go i h true e =
          touches_some s l is order (half s own i).segment (half_good s own read i h (true_is _ (and_left (has_segments own.shape) (half s own i).is_left (is_true _ e)))).in_order 0 (omega arith)
          ∙ sym (some_segments s l (touch (half s own i).segment))
      go i h false e = refl
