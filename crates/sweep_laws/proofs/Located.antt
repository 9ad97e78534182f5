-- A point that the sweep has reached and that is no end of G's segments: of these only the active ones can have the point on them or count below it,
-- and they do where the sweep's tests of their lines say so. So what the sweep notes is what is defined.
use Prim.Native.Nat.{ℕ, suc, ◌<◌, ◌≤◌}
use native.Mathlib.Nat.{not-suc-le-zero}
use native.Mathlib.Omega.{arith}
use mathlib.Core.Path.{◌≡◌, refl, sym, ap, ap₂, ◌∙◌, subst}
use mathlib.Core.Logic.{⊎_elim}
use mathlib.Core.Bool.{Bool, true, false, not, ◌&&◌, ◌||◌, cond, true≢false}
use mathlib.Core.List.{List, [], ◌∷◌, map}
use lib.Dec.{T, ltb}
use lib.IntN.{pos}
use lib.ListN.{length, get_or, take, drop, take-append-drop}
use lib.Seq.{length-take-le}
use Rattle.whole.specs.Count.{◌∈◌, here, there, bit, odd, some, count}
use Rattle.whole.proofs.Sign.{zero_pos, zero_neg, pos_clash, lt_z0_pos, pos_lt_z0, lt_z0_neg}
use Rattle.whole.proofs.Logic.{and_left, and_right, or_left, or_right, refute, same_test, and_follows, true_is, in_map, in_at, in_append, some_find, some_make, none_of}
use Rattle.whole.proofs.Counted.{count_append, count_none, count_same, some_count}
use Rattle.plane.specs.declared.Point.{Point}
use Rattle.plane.specs.declared.Segment.{Segment}
use Rattle.plane.specs.Plane.{side, turn, is_same_point, before, grid, on, is_end, ends_at, is_on_some, counts_below}
use Rattle.plane.proofs.OnSegment.{Ordered, ordered_read}
use Rattle.plane.proofs.Equal.{same_point_refl}
use Rattle.plane.proofs.Machine.{is_straight, straight_is, eq_z_no}
use Rattle.plane.proofs.Grid.{on_grid, end_grid}
use Rattle.scene.specs.declared.Scene.{Scene}
use Rattle.scene.specs.Read.{segment_at}
use Rattle.scene.specs.Conditions.{has_segments, is_region, segments}
use Rattle.sweep_laws.specs.Lower.{passes_under, passes_over}
use Rattle.sweep_laws.specs.Kept.{Strand, Kept}
use Rattle.sweep_laws.specs.Noted.{point_note}
use Rattle.sweep_laws.specs.Located.{on_line, NearNote, on_entry, between}
use Rattle.sweep_laws.specs.Swept.{object_of, strand_at, is_beginning, strands_by, total}
use Rattle.sweep_laws.proofs.Under.{NotBefore, not_before_both, counts_under, counts_make, counts_ended, counts_later}
use Rattle.sweep_laws.proofs.Between.{Spans, under_next}
use Rattle.sweep_laws.proofs.Linked.{Linked, linked_sorted, downwards}
use Rattle.sweep_laws.proofs.Neighbours.{all_over}
use Rattle.sweep_laws.proofs.Events.{Reached}
use Rattle.sweep_laws.proofs.Begun.{strand_by, reached, strands, find_by}
use Rattle.sweep_laws.proofs.Counts.{count_first, count_segments, in_segments}
use Rattle.sweep_laws.proofs.Run.{count_map, is_region_of, Orderly, Run, AllEndLater, point_of, left_point, reaches}

-- ---- the line of a segment passes under a point, over it or through it

module _ (t : Segment) (v : Point) where
  under_off : T (passes_under t v) → on_line t v ≡ false
  under_off u = eq_z_no (side t.left t.right v) (pos 0) (λ e. zero_pos e (lt_z0_pos (side t.left t.right v) u))

  over_off : T (passes_over t v) → on_line t v ≡ false
  over_off u = eq_z_no (side t.left t.right v) (pos 0) (λ e. zero_neg e (lt_z0_neg (side t.left t.right v) u))

  over_not_under : T (passes_over t v) → passes_under t v ≡ false
  over_not_under u = refute (passes_under t v) (λ w. pos_clash (lt_z0_pos (side t.left t.right v) w) (lt_z0_neg (side t.left t.right v) u))

count_all : {A : Type 0} (f : A → Bool) (l : List A) → ((a : A) → a ∈ l → T (f a)) → count f l ≡ length l
count_all f [] h = refl
count_all f (a ∷ l) h = omega (arith, ap bit (true_is (f a) (h a here)), count_all f l (λ b m. h b (there m)))

-- ---- one segment beside a point that is no end of it

module _ (t : Segment) (v : Point) where
  abbrev straight : Bool
  straight = is_straight (turn t.left t.right v)

  on_tests : T (on t (grid v)) → NotBefore v t.left × NotBefore t.right v
  on_tests h =
      let u = subst T (on_grid t v) h in (
        and_right straight (not (before v t.left)) (and_left (straight && not (before v t.left)) (not (before t.right v)) u),
        and_right (straight && not (before v t.left)) (not (before t.right v)) u,
      )

  -- v comes between its ends
  on_active : NotBefore v t.left → NotBefore t.right v → on t (grid v) ≡ on_line t v
  unfolding turn
  on_active l r =
      on_grid t v
      ∙ and_follows (straight && not (before v t.left)) (not (before t.right v)) (λ h. r)
      ∙ and_follows straight (not (before v t.left)) (λ h. l)
      ∙ straight_is (side t.left t.right v)

  counts_active : Ordered t → NotBefore v t.left → NotBefore t.right v → counts_below (grid v) t ≡ passes_under t v
  counts_active o l r =
      same_test (counts_below (grid v) t) (passes_under t v) (λ h. pos_lt_z0 (side t.left t.right v) (counts_under v t h)) (counts_make v t o l r)

  module _ (away : is_end t (grid v) ≡ false) where
    no_end : T (is_same_point t.left v || is_same_point t.right v) → ⊥
    no_end h = true≢false (sym (true_is _ (subst T (sym (end_grid t v)) h)) ∙ away)

    off_later : NotBefore t.left v → T (on t (grid v)) → ⊥
    off_later n h =
        no_end (or_left (is_same_point t.left v) (is_same_point t.right v) (subst (λ p. T (is_same_point t.left p)) (not_before_both t.left v n (on_tests h).0) (same_point_refl t.left)))

    off_ended : NotBefore v t.right → T (on t (grid v)) → ⊥
    off_ended n h =
        no_end (or_right (is_same_point t.left v) (is_same_point t.right v) (subst (λ p. T (is_same_point t.right p)) (not_before_both t.right v (on_tests h).1 n) (same_point_refl t.right)))

-- ---- all of G's

module _ (s : List ℕ) (sc : Scene) (o : Orderly s sc) (points : has_segments sc.f.shape ≡ false) (has : has_segments sc.g.shape ≡ true)
    {j : ℕ} {entries : List ℕ} (run : Run s sc 0 j entries) (within : j ≤ total s sc false) (later : AllEndLater s sc 0 j entries) (v : Point)
    (taken : (k : ℕ) → k < j → NotBefore v (point_of s sc false k)) (to_come : (m : ℕ) → j ≤ m → m < total s sc false → NotBefore (point_of s sc false m) v)
    (away : ends_at (segments s sc.g) (grid v) ≡ 0) where
  whole : total s sc false ≡ sc.g.count
  whole = ap (λ (b : Bool). cond b sc.g.count 0) has

  kept : Kept (λ first. is_region (object_of s sc first).shape) (strands s sc true 0 j) (strands s sc false 0 j) (map (strand_at s sc) entries)
  kept = run.kept later

  reach : Reached v (strands s sc true 0 j) (strands s sc false 0 j) (map (strand_at s sc) entries)
  reach = reaches s sc v of_taken of_rest later
    where
      of_taken : (first : Bool) (k : ℕ) → k < reached s sc 0 j first → NotBefore v (point_of s sc first k)
      of_taken true k h = absurd (not-suc-le-zero h)
      of_taken false k h = taken k h

      of_rest : (other : Bool) (m : ℕ) → reached s sc 0 j other ≤ m → m < total s sc other → NotBefore (point_of s sc other m) v
      of_rest true m h l = absurd (not-suc-le-zero (subst (λ (n : ℕ). m < n) (ap (λ (b : Bool). cond b sc.f.count 0) points) l))
      of_rest false m h l = to_come m h l

  -- v is no end of a segment that has begun or is to begin
  away_at : (k : ℕ) → k < total s sc false → is_beginning s sc false k ≡ true → is_end (strand_by s sc false k).segment (grid v) ≡ false
  unfolding ends_at
  away_at k h e = none_of (λ t. is_end t (grid v)) (some_count (λ t. is_end t (grid v)) (segments s sc.g) ∙ ap (ltb 0) away) (in_segments s sc false k h e)

  away_begun : (a : Strand) → a ∈ strands s sc true 0 j → is_end a.segment (grid v) ≡ false
  away_begun a m =
      let w = find_by s sc true false j a m in
      subst (λ (b : Strand). is_end b.segment (grid v) ≡ false) (sym w.is) (away_at w.index (omega (arith, w.earlier)) w.is_such)

  -- a test that only active segments pass
  counted : (f g : Segment → Bool) → ((t : Segment) → Ordered t → is_end t (grid v) ≡ false → NotBefore t.left v → T (f t) → ⊥)
      → ((t : Segment) → is_end t (grid v) ≡ false → NotBefore v t.right → T (f t) → ⊥)
      → ((t : Segment) → Ordered t → NotBefore v t.left → NotBefore t.right v → f t ≡ g t)
      → count f (segments s sc.g) ≡ count (λ e. g (segment_at s e)) entries
  counted f g not_begun ended active =
      count_segments s sc f false has
      ∙ ap (λ (n : ℕ). count F (strands_by s sc true false n)) (sym whole)
      ∙ count_first s sc F true false j (total s sc false) within (λ k l h e. refute (F (strand_by s sc false k)) (not_begun (strand_by s sc false k).segment (ordered_read (strand_by s sc false k).segment (o.sound false k h)) (away_at k h e) (subst (λ p. NotBefore p v) (left_point s sc false k e) (to_come k l h))))
      ∙ omega (
        arith,
        kept.counts F,
        count_none F (strands s sc false 0 j) (λ a m. refute (F a) (ended a.segment (away_begun a (kept.ended_begun a m)) (reach.ended_before a m))),
      )
      ∙ count_map (strand_at s sc) F entries
      ∙ count_same (λ e. f (segment_at s e)) (λ e. g (segment_at s e)) entries (λ e m. let a = strand_at s sc e in let i = in_map (strand_at s sc) m in let b = kept.active_begun a i in active (segment_at s e) (ordered_read (segment_at s e) (kept.sound a b)) (reach.begun_before a b) (reach.active_on a i))
    where
      F : Strand → Bool
      F a = f a.segment

  -- ---- from the neighbours to all

  abbrev located : ℕ
  located = cond (some (λ e. on_line (segment_at s e) v) entries) 2 (bit (odd (count (λ e. passes_under (segment_at s e) v) entries)))

  located_is : located ≡ point_note (segments s sc.g) v
  unfolding is_on_some
  located_is =
      sym (ap₂ (λ (b : Bool) (n : ℕ). cond b 2 (bit (odd n)))
      (some_count (λ t. on t (grid v)) (segments s sc.g)
      ∙ ap (ltb 0) (counted (λ t. on t (grid v)) (λ t. on_line t v) (λ t o a. off_later t v a) (λ t a. off_ended t v a) (λ t o. on_active t v))
      ∙ sym (some_count (λ e. on_line (segment_at s e) v) entries))
      (counted (counts_below (grid v)) (λ t. passes_under t v) (λ t o a. counts_later v t o) (λ t a. counts_ended v t) (λ t. counts_active t v)))

  spans : (e : ℕ) → e ∈ entries → Spans v (segment_at s e)
  spans e m =
      let i = in_map (strand_at s sc) m in
      let b = kept.active_begun (strand_at s sc e) i in
      record { in_order = ordered_read (segment_at s e) (kept.sound (strand_at s sc e) b); begun = reach.begun_before (strand_at s sc e) b; not_ended = reach.active_on (strand_at s sc e) i }

  under_down : Linked (λ e f. T (passes_under (segment_at s f) v) → T (passes_under (segment_at s e) v)) entries
  under_down =
      linked_sorted (strand_at s sc) entries run.linked kept.rising
      (λ e f m h q o u. ⊎_elim (λ p. subst (λ (t : Segment). T (passes_under t v)) (sym p) u) (λ l. under_next (segment_at s e) (segment_at s f) v (spans e m) (spans f h) l q u) o)

  -- those below the place pass under v, and those from there on over it
  module _ (k : ℕ) (within-entries : k ≤ length entries) (below : (i : ℕ) → suc i ≡ k → T (passes_under (segment_at s (get_or entries i 0)) v))
      (above : k < length entries → T (passes_over (segment_at s (get_or entries k 0)) v)) where
    all_under : (e : ℕ) → e ∈ take k entries → T (passes_under (segment_at s e) v)
    all_under = downwards (λ e. T (passes_under (segment_at s e) v)) 0 entries under_down k within-entries below

    over_all : (e : ℕ) → e ∈ drop k entries → T (passes_over (segment_at s e) v)
    over_all = all_over (is_region_of s sc) (strand_at s sc) 0 entries kept run.linked reach k above

    count_place : count (λ e. passes_under (segment_at s e) v) entries ≡ k
    count_place =
        ap (count (λ e. passes_under (segment_at s e) v)) (sym (take-append-drop k entries))
        ∙ omega (
          arith,
          count_append (λ e. passes_under (segment_at s e) v) (take k entries) (drop k entries),
          count_all (λ e. passes_under (segment_at s e) v) (take k entries) all_under,
          length-take-le k entries within-entries,
          count_none (λ e. passes_under (segment_at s e) v) (drop k entries) (λ e m. over_not_under (segment_at s e) v (over_all e m)),
        )

    no_line : some (λ e. on_line (segment_at s e) v) entries ≡ false
    no_line =
        refute (some (λ e. on_line (segment_at s e) v) entries)
        (λ t. let w = some_find (λ e. on_line (segment_at s e) v) entries t in true≢false (sym (true_is _ w.2) ∙ off w.0 w.1))
      where
        off : (e : ℕ) → e ∈ entries → on_line (segment_at s e) v ≡ false
        off e m =
            ⊎_elim (λ h. under_off (segment_at s e) v (all_under e h)) (λ h. over_off (segment_at s e) v (over_all e h))
            (in_append (take k entries) (subst (λ (l : List ℕ). e ∈ l) (sym (take-append-drop k entries)) m))

  pub near_is : {note : ℕ} → NearNote s entries v note → note ≡ point_note (segments s sc.g) v
  near_is (on_entry k h t e) =
      e
      ∙ sym (ap (λ (b : Bool). cond b 2 (bit (odd (count (λ e. passes_under (segment_at s e) v) entries)))) (true_is (some (λ e. on_line (segment_at s e) v) entries) (some_make (λ e. on_line (segment_at s e) v) (in_at entries 0 k h) t)))
      ∙ located_is
  near_is (between k h below above e) =
      e ∙ sym (ap₂ (λ (b : Bool) (n : ℕ). cond b 2 (bit (odd n))) (no_line k h below above) (count_place k h below above)) ∙ located_is
