-- In a scene where the conditions 11 to 15 find no fault, the tests of each event hold: a segment that begins fits between its neighbours at the place
-- that is found for it, and a segment that ends is found there, and leaves neighbours in order.
use Prim.Native.Nat.{ℕ, zero, suc, ◌+◌, ◌-◌, ◌<◌, ◌≤◌}
use native.Mathlib.Nat.{le_refl}
use native.Mathlib.Omega.{arith}
use mathlib.Core.Path.{◌≡◌, refl, sym, ap, ◌∙◌, subst, subst₂}
use mathlib.Core.Logic.{◌⊎◌, inl, inr, ⊎_elim}
use mathlib.Core.Bool.{Bool, true, false, not, ◌||◌, beq}
use mathlib.Core.List.{List, ◌∷◌, ◌++◌, map}
use lib.Dec.{T, T_not}
use lib.ListN.{length, get_or, take, drop, take-append-drop, length-drop, length-take}
use lib.Seq.{split_at, get_or-drop, get_or-take}
use Rattle.whole.specs.Count.{◌∈◌, bit, odd, count}
use Rattle.whole.proofs.Sign.{Pos, NonNeg, Half, at_least_lem, under, half, pos_nonneg, neg_pos, zero_pos, zero_neg, lt_z0_pos, lt_z0_neg, neg_lt_z0}
use Rattle.whole.proofs.Logic.{less_or_not, Sorted, or_left, or_right, decide, refute, true_is, in_map, map_in, in_at, in_index}
use Rattle.plane.specs.declared.Segment.{Segment}
use Rattle.plane.specs.declared.Halfsegment.{Halfsegment}
use Rattle.plane.specs.Plane.{side, before, ordered, is_same_point, comes_before, touch}
use Rattle.plane.proofs.OnSegment.{Ordered, ordered_read}
use Rattle.plane.proofs.Equal.{same_point_read, same_point_refl}
use Rattle.plane.proofs.Order.{ends_differ, half_of, comes_irreflexive}
use Rattle.scene.specs.declared.Scene.{Scene}
use Rattle.scene.specs.Read.{segment_at, ia_at, place}
use Rattle.scene.specs.Conditions.{segments}
use Rattle.sweep_laws.specs.Lower.{passes_under, passes_over, lower_at_right}
use Rattle.sweep_laws.specs.Lower
use Rattle.sweep_laws.specs.Kept.{Strand, is_of, same_object, under_of, Lower, Kept}
use Rattle.sweep_laws.specs.Swept.{object_of, is_first, strand_at, is_beginning, strands_by, total}
use Rattle.sweep_laws.specs.Event.{Place, FitsAt, CanBegin, OwnAt, CanMeet, CanEnd}
use Rattle.sweep_laws.proofs.Under.{NotBefore, side_right, side_turned, under_itself, under_later}
use Rattle.sweep_laws.proofs.Between.{Spans, side_of, strictly_under}
use Rattle.sweep_laws.proofs.Events.{Reached, UnderBeginning, UnderEnd, passing_end, ending, OverEnd, passing_over, equal_over, Beginning, now_under, new_segment, no_and, sorted_after}
use Rattle.sweep_laws.proofs.Linked.{upwards}
use Rattle.sweep_laws.proofs.Neighbours.{Below, over_up, spans, linked, all_over, all_under_beginning, all_under_end, all_over_end}
use Rattle.sweep_laws.proofs.Begun.{strand_by, reached, strands, Of, find_of, make_of}
use Rattle.sweep_laws.proofs.Run.{point_of, Orderly, is_region_of, EndsLater, AllEndLater, Run, place_of, own_of, left_point, right_point, reaching, new_own, map-append, count_map}
use Rattle.sweep_laws.proofs.Counts.{count_own, count_first, count_segments}
use Rattle.sweep_laws.proofs.Objects.{has}
use Rattle.sweep_laws.proofs.Ordered.{comes_by_point}
use Rattle.sweep_laws.proofs.Crossing.{lower_at_right_lem}
use Rattle.sweep_laws.proofs.EventOrder.{half_by, as_half, Rises, After, Earliest, right_left, left_left, right_right}
use Rattle.sweep_laws.proofs.Fits.{under_beginning_make, under_it, under_right, over_right, higher_first}

-- ---- what the conditions give

module _ (s : List ℕ) (sc : Scene) where
  -- the halfsegment on the other side of the same strand
  pub record Other (first : Bool) (k : ℕ) : Type 0 where
    pub index : ℕ
    pub there : index < total s sc first
    pub other_side : is_beginning s sc first index ≡ not (is_beginning s sc first k)
    pub is : strand_by s sc first index ≡ strand_by s sc first k

  pub record Fair : Type 0 where
    pub other : (first : Bool) (k : ℕ) → k < total s sc first → Other first k
    pub clear : (first other : Bool) (k m : ℕ) → k < total s sc first → m < total s sc other → touch (strand_by s sc first k).segment (strand_by s sc other m).segment ≡ false
    pub interior : (first : Bool) (k : ℕ) → k < total s sc first → T (is_region_of s sc first)
        → odd (count (Lower.under (strand_by s sc first k).segment) (segments s (object_of s sc first))) ≡ not (ia_at s (place (object_of s sc first) k))

-- ---- at an event

module _ (s : List ℕ) (sc : Scene) (o : Orderly s sc) (fair : Fair s sc) {i j : ℕ} {entries : List ℕ} (run : Run s sc i j entries) (later : AllEndLater s sc i j entries)
    (after : After s sc i j) (within : (b : Bool) → reached s sc i j b ≤ total s sc b) (first : Bool) (more : reached s sc i j first < total s sc first)
    (least : (other : Bool) (m : ℕ) → reached s sc i j other ≤ m → m < total s sc other → NotBefore (point_of s sc other m) (point_of s sc first (reached s sc i j first)))
    (earliest : Earliest s sc i j first) where
  abbrev next : ℕ
  next = reached s sc i j first

  abbrev a : Strand
  a = own_of s sc i j first

  kept : Kept (is_region_of s sc) (strands s sc true i j) (strands s sc false i j) (map (strand_at s sc) entries)
  kept = run.kept later

  own_order : Ordered a.segment
  own_order = ordered_read a.segment (o.sound first next more)

  -- an entry began at an element that has been taken
  born : (e : ℕ) → e ∈ entries → Of s sc true i j (strand_at s sc e)
  born e m = find_of s sc true i j (strand_at s sc e) (kept.active_begun (strand_at s sc e) (in_map (strand_at s sc) m))

  module _ {e : ℕ} (m : e ∈ entries) where
    abbrev w : Of s sc true i j (strand_at s sc e)
    w = born e m

    born_before : w.by.index < total s sc w.first
    born_before = omega (arith, w.by.earlier, within w.first)

    clear_own : touch a.segment (segment_at s e) ≡ false
    clear_own = subst (λ (b : Strand). touch a.segment b.segment ≡ false) (sym w.by.is) (fair.clear first w.first next w.by.index more born_before)

    own_clear : touch (segment_at s e) a.segment ≡ false
    own_clear = subst (λ (b : Strand). touch b.segment a.segment ≡ false) (sym w.by.is) (fair.clear w.first first w.by.index next born_before more)

  clear_both : {e f : ℕ} → e ∈ entries → f ∈ entries → touch (segment_at s e) (segment_at s f) ≡ false
  clear_both {e} {f} m n =
      let v = born e m in
      let w = born f n in
      subst (λ (b : Strand). touch b.segment (segment_at s f) ≡ false) (sym v.by.is)
      (subst (λ (b : Strand). touch (strand_by s sc v.first v.by.index).segment b.segment ≡ false) (sym w.by.is) (fair.clear v.first w.first v.by.index w.by.index (born_before m) (born_before n)))

  -- ---- a segment begins

  module _ (begins : is_beginning s sc first next ≡ true) where
    at_left : Reached a.segment.left (strands s sc true i j) (strands s sc false i j) (map (strand_at s sc) entries)
    at_left = subst (λ p. Reached p (strands s sc true i j) (strands s sc false i j) (map (strand_at s sc) entries)) (left_point s sc first next begins) (reaching s sc o run first more least later)

    module _ {e : ℕ} (m : e ∈ entries) where
      spans_left : Spans a.segment.left (segment_at s e)
      spans_left = spans (is_region_of s sc) (strand_at s sc) 0 entries kept run.linked at_left e m

      -- what ends there has ended
      not_there : (segment_at s e).right ≡ a.segment.left → ⊥
      not_there q =
          let l = later e m in
          earliest (is_first s sc e) l.index l.to_come l.within
          (subst₂ (λ (h k : Halfsegment). T (comes_before h k)) (sym (as_half s sc (is_first s sc e) l.index false l.is_end_lem)) (sym (as_half s sc first next true begins))
          (right_left (strand_by s sc (is_first s sc e) l.index).segment a.segment (ap (λ (b : Strand). b.segment.right) l.is ∙ q)))

      -- and what begins there came before
      beside : (segment_at s e).left ≡ a.segment.left → NonNeg (side_of (segment_at s e) a.segment.right)
      beside q = go (half (side_of (segment_at s e) a.segment.right))
        where
          go : Half (side_of (segment_at s e) a.segment.right) → NonNeg (side_of (segment_at s e) a.segment.right)
          go (at_least_lem h) = h
          go (under h) =
              let w = born e m in
              absurd
              (after w.first first w.by.index next w.by.earlier (le_refl next) more
              (subst₂ (λ (h k : Halfsegment). T (comes_before h k)) (sym (as_half s sc first next true begins)) (sym (as_half s sc w.first w.by.index true w.by.is_such))
              (subst (λ (b : Strand). T (comes_before (half_of true a.segment) (half_of true b.segment))) w.by.is
              (left_left a.segment (segment_at s e) (sym q) (subst Pos (sym (side_turned (segment_at s e).left a.segment.right (segment_at s e).right) ∙ ap (λ p. side p a.segment.right (segment_at s e).right) q) (neg_pos h))))))

      under_at : passes_over (segment_at s e) a.segment.left ≡ false → UnderBeginning a (strand_at s sc e)
      under_at =
          under_it a (strand_at s sc e) own_order spans_left (clear_own m) (own_clear m) not_there beside
          (λ q. refute (same_object a (strand_at s sc e)) (λ t. new_own s sc o run first more least begins (strand_at s sc e) (kept.active_begun (strand_at s sc e) (in_map (strand_at s sc) m)) (true_is (same_object a (strand_at s sc e)) t) q))

    -- at a place that is found for it
    module _ (k : ℕ) (found : Place s entries a.segment.left k) where
      entry_below : (i : ℕ) → suc i ≡ k → get_or entries i 0 ∈ entries
      entry_below i q = in_at entries 0 i (omega (arith, found.within))

      neighbour : (i : ℕ) → suc i ≡ k → UnderBeginning a (strand_at s sc (get_or entries i 0))
      neighbour i q = under_at (entry_below i q) (found.not_below i q)

      abbrev low : List Strand
      low = map (strand_at s sc) (take k entries)

      abbrev high : List Strand
      high = map (strand_at s sc) (drop k entries)

      beginning : Beginning (is_region_of s sc) (strands s sc true i j) (strands s sc false i j) a low high
      beginning =
          record {
            in_order = o.sound first next more;
            kept = subst (Kept (is_region_of s sc) (strands s sc true i j) (strands s sc false i j)) parts kept;
            reached = subst (Reached a.segment.left (strands s sc true i j) (strands s sc false i j)) parts at_left;
            under_it = λ b m. let w = map_in (strand_at s sc) (take k entries) m in subst (UnderBeginning a) w.2 (all_under_beginning (is_region_of s sc) (strand_at s sc) 0 entries kept run.linked a own_order (new_own s sc o run first more least begins) at_left k found.within neighbour w.0 w.1);
            over_it = λ b m. let w = map_in (strand_at s sc) (drop k entries) m in subst (λ (c : Strand). T (passes_over c.segment a.segment.left)) w.2 (all_over (is_region_of s sc) (strand_at s sc) 0 entries kept run.linked at_left k found.over_it w.0 w.1);
          }
        where
          parts : map (strand_at s sc) entries ≡ low ++ high
          parts = ap (map (strand_at s sc)) (sym (take-append-drop k entries)) ∙ map-append (strand_at s sc) (take k entries) (drop k entries)

      -- of its own object, those to come are not under it
      later_not_under : (m : ℕ) → next ≤ m → m < total s sc first → is_beginning s sc first m ≡ true → Lower.under a.segment (strand_by s sc first m).segment ≡ false
      later_not_under m h l e =
          under_later a.segment (strand_by s sc first m).segment (ordered_read (strand_by s sc first m).segment (o.sound first m l))
          (subst₂ NotBefore (left_point s sc first m e) (left_point s sc first next begins) (least first m h l))
          (λ q u. earliest first m h l
          (subst₂ (λ (h k : Halfsegment). T (comes_before h k)) (sym (as_half s sc first m true e)) (sym (as_half s sc first next true begins))
          (left_left (strand_by s sc first m).segment a.segment q (lt_z0_pos (side_of (strand_by s sc first m).segment a.segment.right) u))))

      whole : total s sc first ≡ (object_of s sc first).count
      whole = rw (has s sc first next more).0

      count_under : count (Lower.under a.segment) (segments s (object_of s sc first)) ≡ count (λ e. beq first (is_first s sc e)) (take k entries)
      count_under =
          count_segments s sc (Lower.under a.segment) first (has s sc first next more).0
          ∙ ap (λ (n : ℕ). count test (strands_by s sc true first n)) (sym whole)
          ∙ count_first s sc test true first next (total s sc first) (omega (arith, more)) later_not_under
          ∙ sym (count_own s sc test true first i j)
          ∙ now
          ∙ count_map (strand_at s sc) (is_of first) (take k entries)
        where
          test : Strand → Bool
          test b = Lower.under a.segment b.segment

          now : count (under_of first a) (strands s sc true i j) ≡ count (is_of first) low
          now =
              omega (
                arith,
                now_under (is_region_of s sc) beginning first (new_segment (is_region_of s sc) beginning),
                ap bit (no_and (is_of first a) (Lower.under a.segment a.segment) (under_itself a.segment)),
              )

      fits : FitsAt s sc first (place_of s sc i j first) entries k
      fits =
          record {
            over = λ i q. (
              under_beginning_make a (strand_at s sc (get_or entries i 0)) (neighbour i q),
              under_right a (strand_at s sc (get_or entries i 0)) own_order (spans_left (entry_below i q)) (own_clear (entry_below i q)) (neighbour i q),
            );
            under = λ h. let m = in_at entries 0 k h in over_right a (strand_at s sc (get_or entries k 0)) own_order (spans_left m) (clear_own m) (found.over_it h);
            right_ia = λ r. ap odd (sym count_under) ∙ fair.interior first next more r;
          }

    pub can_begin : CanBegin s sc first (place_of s sc i j first) entries
    can_begin k found = fits k found

  -- ---- a segment ends

  module _ (rise : Rises s sc) (ends : is_beginning s sc first next ≡ false) where
    at_right : Reached a.segment.right (strands s sc true i j) (strands s sc false i j) (map (strand_at s sc) entries)
    at_right = subst (λ p. Reached p (strands s sc true i j) (strands s sc false i j) (map (strand_at s sc) entries)) (right_point s sc first next ends) (reaching s sc o run first more least later)

    before_own : T (before a.segment.left a.segment.right)
    unfolding ordered
    before_own = o.sound first next more

    -- it has begun, since its left halfsegment comes before it, and has not ended yet, since no halfsegment comes twice
    has_begun : a ∈ strands s sc true i j
    has_begun = subst (λ (b : Strand). b ∈ strands s sc true i j) w.is (make_of s sc true first i j w.index (earlier (less_or_not w.index next)) is_left_lem)
      where
        w : Other s sc first next
        w = fair.other first next more

        is_left_lem : is_beginning s sc first w.index ≡ true
        is_left_lem = w.other_side ∙ ap not ends

        comes : T (comes_before (half_by s sc first w.index) (half_by s sc first next))
        comes =
            comes_by_point (half_by s sc first w.index) (half_by s sc first next)
            (subst₂ (λ p q. T (before p q)) (ap (λ (b : Strand). b.segment.left) (sym w.is) ∙ sym (left_point s sc first w.index is_left_lem)) (sym (right_point s sc first next ends)) before_own)

        earlier : (w.index < next) ⊎ (next ≤ w.index) → w.index < next
        earlier (inl h) = h
        earlier (inr h) = absurd (earliest first w.index h w.there comes)

    not_ended : a ∈ strands s sc false i j → ⊥
    not_ended m =
        comes_irreflexive (half_by s sc first next)
        (subst (λ (h : Halfsegment). T (comes_before h (half_by s sc first next))) same (rise first w.by.index next earlier more))
      where
        w : Of s sc false i j a
        w = find_of s sc false i j a m

        own : w.first ≡ first
        own = sym (ap (λ (b : Strand). b.first) w.by.is)

        earlier : w.by.index < next
        earlier = subst (λ (b : Bool). w.by.index < reached s sc i j b) own w.by.earlier

        same : half_by s sc first w.by.index ≡ half_by s sc first next
        same =
            as_half s sc first w.by.index false (subst (λ (b : Bool). is_beginning s sc b w.by.index ≡ false) own w.by.is_such)
            ∙ ap (λ (b : Strand). half_of false b.segment) (ap (λ (b : Bool). strand_by s sc b w.by.index) (sym own) ∙ sym w.by.is)
            ∙ sym (as_half s sc first next false ends)

    active : (x : ℕ) × (x ∈ entries) × (strand_at s sc x ≡ a)
    active = ⊎_elim (map_in (strand_at s sc) entries) (λ m. absurd (not_ended m)) (kept.placed a has_begun)

    -- ---- those from its entry on end there, too, or pass over its end

    abbrev EndsOrOver : ℕ → Type 0
    EndsOrOver e = ((segment_at s e).right ≡ a.segment.right) ⊎ T (passes_over (segment_at s e) a.segment.right)

    goes_on : {c d : Strand} → Below a.segment.right c d → (c.segment.right ≡ a.segment.right) ⊎ T (passes_over c.segment a.segment.right)
        → (d.segment.right ≡ a.segment.right) ⊎ T (passes_over d.segment a.segment.right)
    goes_on n (inr h) = inr (over_up n h)
    goes_on {c} {d} n (inl q) = go n.at_left (half (side_of d.segment a.segment.right))
      where
        go : Lower c d → Half (side_of d.segment a.segment.right) → (d.segment.right ≡ a.segment.right) ⊎ T (passes_over d.segment a.segment.right)
        go (inl f) h = inl (ap (λ (r : Segment). r.right) (sym f) ∙ q)
        go (inr l) (under h) = inr (neg_lt_z0 (side_of d.segment a.segment.right) h)
        go (inr l) (at_least_lem h) =
            ⊎_elim (λ t. inl (sym (same_point_read c.segment.right d.segment.right t) ∙ q))
            (λ t. absurd (zero_pos (ap (side_of c.segment) (sym q) ∙ side_right c.segment) (lt_z0_pos (side_of c.segment a.segment.right) (strictly_under c.segment d.segment a.segment.right n.lower_spans n.upper_spans l n.at_right h (λ e f. ends_differ n.lower_spans.in_order (e ∙ sym f ∙ sym q)) (λ e f. T_not (is_same_point c.segment.right d.segment.right) t (subst (λ p. T (is_same_point c.segment.right p)) e (same_point_refl c.segment.right)))))))
            (decide (is_same_point c.segment.right d.segment.right))

    all_from : (k : ℕ) → strand_at s sc (get_or entries k 0) ≡ a → (e : ℕ) → e ∈ drop k entries → EndsOrOver e
    all_from k own =
        upwards EndsOrOver 0 entries (linked (is_region_of s sc) (strand_at s sc) 0 entries kept run.linked at_right (λ e f m h. goes_on)) k
        (λ h. inl (ap (λ (b : Strand). b.segment.right) own))

    -- one above it that ends there is its equal, since the higher of two comes first
    equal_above : (k : ℕ) → k < length entries → strand_at s sc (get_or entries k 0) ≡ a → (e : ℕ) → e ∈ entries → e ∈ drop (suc k) entries → (segment_at s e).right ≡ a.segment.right → segment_at s e ≡ a.segment
    equal_above k h own e m n q = go in_order
      where
        in_order : Lower a (strand_at s sc e)
        in_order =
            sorted_after (map (strand_at s sc) (take k entries)) a (map (strand_at s sc) (drop (suc k) entries)) (subst (Sorted Lower) parts kept.rising) (strand_at s sc e) (in_map (strand_at s sc) n)
          where
            parts : map (strand_at s sc) entries ≡ map (strand_at s sc) (take k entries) ++ (a ∷ map (strand_at s sc) (drop (suc k) entries))
            parts =
                ap (map (strand_at s sc)) (split_at entries k 0 h) ∙ map-append (strand_at s sc) (take k entries) (get_or entries k 0 ∷ drop (suc k) entries)
                ∙ ap (λ (c : Strand). map (strand_at s sc) (take k entries) ++ (c ∷ map (strand_at s sc) (drop (suc k) entries))) own

        l : EndsLater s sc i j e
        l = later e m

        first_out : Pos (side (segment_at s e).right (segment_at s e).left a.segment.left) → ⊥
        first_out w =
            earliest (is_first s sc e) l.index l.to_come l.within
            (subst₂ (λ (h k : Halfsegment). T (comes_before h k)) (sym (as_half s sc (is_first s sc e) l.index false l.is_end_lem)) (sym (as_half s sc first next false ends))
            (subst (λ (b : Strand). T (comes_before (half_of false b.segment) (half_of false a.segment))) (sym l.is) (right_right (segment_at s e) a.segment q w)))

        go : Lower a (strand_at s sc e) → segment_at s e ≡ a.segment
        go (inl f) = sym f
        go (inr t) = absurd (first_out (higher_first a.segment (segment_at s e) (sym q) t))

    -- ---- at a place that is found for its end

    module _ (top : ℕ) (found : Place s entries a.segment.right top) where
      from : (k i : ℕ) → k ≤ i → i < length entries → get_or entries i 0 ∈ drop k entries
      from k i h l =
          subst (λ (e : ℕ). e ∈ drop k entries) (get_or-drop k entries (i - k) 0 ∙ ap (λ (n : ℕ). get_or entries n 0) back) (in_at (drop k entries) 0 (i - k) (omega (arith, length-drop k entries)))
        where
          back : k + (i - k) ≡ i
          back = omega arith

      over_from : (k : ℕ) → (k < length entries → T (passes_over (segment_at s (get_or entries k 0)) a.segment.right)) → (i : ℕ) → k ≤ i → i < length entries → T (passes_over (segment_at s (get_or entries i 0)) a.segment.right)
      over_from k h i l m = all_over (is_region_of s sc) (strand_at s sc) 0 entries kept run.linked at_right k h (get_or entries i 0) (from k i l m)

      -- those below the place do not pass over it
      below_not_over : (i : ℕ) → i < top → T (passes_over (segment_at s (get_or entries i 0)) a.segment.right) → ⊥
      below_not_over i h t = go top refl
        where
          go : (n : ℕ) → n ≡ top → ⊥
          go zero e = absurd (no e h)
            where
              no : 0 ≡ top → i < top → ⊥
              no e h = omega arith
          go (suc n) e = subst T (found.not_below n e) (over_from i (λ x. t) n (omega arith) (omega (arith, found.within)))

      position : (k : ℕ) × (k < length entries) × (strand_at s sc (get_or entries k 0) ≡ a)
      position =
          let x = active in
          let k = in_index 0 x.1 in
          (k.0, k.1, ap (strand_at s sc) k.2 ∙ x.2)

      abbrev k₀ : ℕ
      k₀ = position.0

      own_below : k₀ < top
      own_below = ⊎_elim (λ h. h) (λ h. absurd (no h)) (less_or_not k₀ top)
        where
          no : top ≤ k₀ → ⊥
          no h =
              zero_neg (ap (λ (b : Strand). side_of b.segment a.segment.right) position.2 ∙ side_right a.segment)
              (lt_z0_neg (side_of (segment_at s (get_or entries k₀ 0)) a.segment.right) (over_from top found.over_it k₀ h position.1))

      found_own : OwnAt s sc first (place_of s sc i j first) entries top k₀
      found_own =
          record {
            below = own_below;
            own = position.2;
            equals = λ i h l. equal i h l (all_from k₀ position.2 (get_or entries i 0) (from k₀ i (omega arith) (omega (arith, found.within))));
          }
        where
          equal : (i : ℕ) → k₀ < i → i < top → EndsOrOver (get_or entries i 0) → segment_at s (get_or entries i 0) ≡ a.segment
          equal i h l (inl q) = equal_above k₀ position.1 position.2 (get_or entries i 0) (in_at entries 0 i (omega (arith, found.within))) (from (suc k₀) i h (omega (arith, found.within))) q
          equal i h l (inr t) = absurd (below_not_over i l t)

      -- where it goes, its neighbours are in order
      meeting : (k : ℕ) → OwnAt s sc first (place_of s sc i j first) entries top k → CanMeet s entries k
      meeting k at i q h = go under_it over_it
        where
          lower_in : get_or entries i 0 ∈ entries
          lower_in = in_at entries 0 i (omega arith)

          below_in : get_or entries i 0 ∈ take k entries
          below_in = subst (λ (e : ℕ). e ∈ take k entries) (get_or-take k entries i 0 (omega arith)) (in_at (take k entries) 0 i (simp length-take (omega arith)))

          upper_in : get_or entries (suc k) 0 ∈ entries
          upper_in = in_at entries 0 (suc k) h

          b : Segment
          b = segment_at s (get_or entries i 0)

          c : Segment
          c = segment_at s (get_or entries (suc k) 0)

          under_it : UnderEnd a (strand_at s sc (get_or entries i 0))
          under_it = all_under_end (is_region_of s sc) (strand_at s sc) 0 entries kept run.linked a at_right k (omega arith) at.own (get_or entries i 0) below_in

          over_it : OverEnd a (strand_at s sc (get_or entries (suc k) 0))
          over_it = all_over_end (is_region_of s sc) (strand_at s sc) 0 entries kept run.linked a at_right k top at.equals found.over_it (get_or entries (suc k) 0) (from (suc k) (suc k) (omega arith) h)

          at_point : {e : ℕ} → e ∈ entries → Spans a.segment.right (segment_at s e)
          at_point {e} m = spans (is_region_of s sc) (strand_at s sc) 0 entries kept run.linked at_right e m

          go : UnderEnd a (strand_at s sc (get_or entries i 0)) → OverEnd a (strand_at s sc (get_or entries (suc k) 0)) → T (lower_at_right b c)
          go (passing_end u) (equal_over e) = or_left (passes_under b c.right || passes_over c b.right) _ (or_left (passes_under b c.right) _ (subst (λ (r : Segment). T (passes_under b r.right)) (sym e) u))
          go (ending f) (equal_over e) =
              or_right (passes_under b c.right || passes_over c b.right) (is_same_point b.right c.right)
              (subst (λ p. T (is_same_point b.right p)) (f ∙ ap (λ (r : Segment). r.right) (sym e)) (same_point_refl b.right))
          go (ending f) (passing_over u) = or_left (passes_under b c.right || passes_over c b.right) _ (or_right (passes_under b c.right) (passes_over c b.right) (subst (λ p. T (passes_over c p)) (sym f) u))
          go (passing_end u) (passing_over v) =
              lower_at_right_lem b c a.segment.right (at_point lower_in) (at_point upper_in) (pos_nonneg (lt_z0_pos (side_of b a.segment.right) u)) (pos_nonneg (neg_pos (lt_z0_neg (side_of c a.segment.right) v)))
              (λ x y. zero_pos x (lt_z0_pos (side_of b a.segment.right) u)) (clear_both lower_in upper_in)

    pub can_end : CanEnd s sc first (place_of s sc i j first) entries
    can_end top found = record { position = k₀ top found; found = found_own top found; meeting = meeting top found }
