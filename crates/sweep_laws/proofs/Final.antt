-- A run that has taken all elements and has no active segment: the conditions 11 to 15 find no fault.
use Rattle.std.specs.Prelude.{None}
use Prim.Native.Nat.{ℕ, ◌<◌}
use native.Mathlib.Omega.{arith}
use mathlib.Core.Path.{◌≡◌, refl, sym, ap, ap₂, ◌∙◌, subst}
use mathlib.Core.Logic.{⊎_elim}
use mathlib.Core.Bool.{Bool, true, false, not, ◌&&◌, cond, beq, true≢false}
use mathlib.Core.List.{List, []}
use lib.Dec.{T}
use Rattle.whole.specs.Count.{◌∈◌, bit, odd, some, count}
use Rattle.whole.proofs.Logic.{in_nil, map_in, some_find, some_make, none_of, refute, true_is, is_true, and_make, beq_refl, beq_same}
use Rattle.whole.proofs.Parity.{◌⊻◌, parity, parity_same, parity_xor, xor_false, odd_count}
use Rattle.plane.specs.declared.Point.{Point}
use Rattle.plane.specs.declared.Segment.{Segment}
use Rattle.plane.specs.Plane.{is_same_point, is_same_segment, dominating, choose, is_end, ends_at, grid, interior_above, touch}
use Rattle.plane.proofs.OnSegment.{Ordered, ordered_read}
use Rattle.plane.proofs.Equal.{same_segment_refl}
use Rattle.plane.proofs.Path.{Even}
use Rattle.plane.proofs.Accepted.{ends_parity}
use Rattle.scene.specs.declared.Shape.{Shape}
use Rattle.scene.specs.declared.Shape.TheVariants.{Points, Line, Region}
use Rattle.scene.specs.declared.Scene.{Scene}
use Rattle.scene.specs.Read.{turned}
use Rattle.scene.specs.Conditions.{elements, keep, has_segments, is_region, half, ia, left_test, segments, partner, is_unpaired, unpaired, is_touching, touching, touching_itself, ends_oddly, odd_end, has_wrong_ia, wrong_ia}
use Rattle.whole.proofs.Counted.{count_none}
use Rattle.scene_segments.proofs.Indices.{element_in, in_element, keep_in, no_fault}
use Rattle.sweep_laws.specs.Lower.{under}
use Rattle.sweep_laws.specs.Evenly.{EndsEvenly, dominated_by}
use Rattle.sweep_laws.specs.Kept.{Strand, NoneEqual, Kept}
use Rattle.sweep_laws.specs.Swept.{object_of, is_beginning, strands_by, total, Passes}
use Rattle.sweep_laws.specs.Noted.{SegmentsNoted}
use Rattle.sweep_laws.proofs.Start.{start_interior}
use Rattle.sweep_laws.proofs.Begun.{strand_by, reached, strands, Of, find_of, make_of}
use Rattle.sweep_laws.proofs.Objects.{has}
use Rattle.sweep_laws.proofs.Run.{Orderly, Run}
use Rattle.sweep_laws.proofs.Notes.{AllNoted}
use Rattle.sweep_laws.proofs.Counts.{count_by, count_own, count_segments, in_segments}

module _ (s : List ℕ) (sc : Scene) (o : Orderly s sc) (run : Run s sc (total s sc true) (total s sc false) [])
    (evenly : (first : Bool) → T (is_region (object_of s sc first).shape) → EndsEvenly s (object_of s sc first)) where
  abbrev all : Bool → List Strand
  all begins = strands s sc begins (total s sc true) (total s sc false)

  at_end_lem : Kept (λ first. is_region (object_of s sc first).shape) (all true) (all false) []
  at_end_lem = run.kept (λ e m. absurd (in_nil m))

  taken : (first : Bool) → reached s sc (total s sc true) (total s sc false) first ≡ total s sc first
  taken true = refl
  taken false = refl

  -- every element's strand has begun and has ended
  module _ (first : Bool) (k : ℕ) (h : k < total s sc first) where
    listed : (begins : Bool) → is_beginning s sc first k ≡ begins → strand_by s sc first k ∈ all begins
    listed begins e = make_of s sc begins first (total s sc true) (total s sc false) k (subst (λ (n : ℕ). k < n) (sym (taken first)) h) e

    has_ended : strand_by s sc first k ∈ all false
    has_ended = go (is_beginning s sc first k) refl
      where
        go : (b : Bool) → is_beginning s sc first k ≡ b → strand_by s sc first k ∈ all false
        go true e = ⊎_elim (λ m. absurd (in_nil m)) (λ m. m) (at_end_lem.placed (strand_by s sc first k) (listed true e))
        go false e = listed false e

    has_begun : strand_by s sc first k ∈ all true
    has_begun = at_end_lem.ended_begun (strand_by s sc first k) has_ended

  module _ (first : Bool) (has : has_segments (object_of s sc first).shape ≡ true) where
    whole : total s sc first ≡ (object_of s sc first).count
    whole = ap (λ b. cond b (object_of s sc first).count 0) has

    within : {k : ℕ} → k < (object_of s sc first).count → k < total s sc first
    within {k} h = subst (λ (n : ℕ). k < n) (sym whole) h

    -- ---- 11

    other_side : (a b c : Bool) → a ≡ c → b ≡ not c → T (not (beq a b))
    other_side a b true e f = subst (λ x. T (not (beq x b))) (sym e) (subst (λ x. T (not (beq true x))) (sym f) tt)
    other_side a b false e f = subst (λ x. T (not (beq x b))) (sym e) (subst (λ x. T (not (beq false x))) (sym f) tt)

    -- a strand of the other kind with the same object, segment and ia
    partnered : (k : ℕ) → k < (object_of s sc first).count → (begins : Bool) → is_beginning s sc first k ≡ begins → strand_by s sc first k ∈ all (not begins)
        → T (some (partner s (object_of s sc first) k) (elements (object_of s sc first)))
    unfolding partner
    partnered k h begins e m =
        some_make (partner s (object_of s sc first) k) (element_in (object_of s sc first) index there)
        (and_make (not (beq (is_beginning s sc first k) (is_beginning s sc first index)) && is_same_segment (strand_by s sc first k).segment (strand_by s sc first index).segment) (beq (strand_by s sc first k).ia (strand_by s sc first index).ia)
        (and_make (not (beq (is_beginning s sc first k) (is_beginning s sc first index))) (is_same_segment (strand_by s sc first k).segment (strand_by s sc first index).segment) (other_side (is_beginning s sc first k) (is_beginning s sc first index) begins e such) (subst (λ (a : Strand). T (is_same_segment (strand_by s sc first k).segment a.segment)) same (same_segment_refl (strand_by s sc first k).segment)))
        (subst (λ (a : Strand). T (beq (strand_by s sc first k).ia a.ia)) same (is_true _ (beq_refl (strand_by s sc first k).ia))))
      where
        w : Of s sc (not begins) (total s sc true) (total s sc false) (strand_by s sc first k)
        w = find_of s sc (not begins) (total s sc true) (total s sc false) (strand_by s sc first k) m

        index : ℕ
        index = w.by.index

        own : w.first ≡ first
        own = sym (ap (λ (a : Strand). a.first) w.by.is)

        there : index < (object_of s sc first).count
        there = subst (λ (n : ℕ). index < n) (ap (reached s sc (total s sc true) (total s sc false)) own ∙ taken first ∙ whole) w.by.earlier

        such : is_beginning s sc first index ≡ not begins
        such = subst (λ (b : Bool). is_beginning s sc b index ≡ not begins) own w.by.is_such

        same : strand_by s sc first k ≡ strand_by s sc first index
        same = w.by.is ∙ ap (λ (b : Bool). strand_by s sc b index) own

    paired_at : (k : ℕ) → k < (object_of s sc first).count → T (some (partner s (object_of s sc first) k) (elements (object_of s sc first)))
    paired_at k h = go (is_beginning s sc first k) refl
      where
        go : (b : Bool) → is_beginning s sc first k ≡ b → T (some (partner s (object_of s sc first) k) (elements (object_of s sc first)))
        go true e = partnered k h true e (has_ended first k (within h))
        go false e = partnered k h false e (has_begun first k (within h))

    -- ---- the segments

    left_of : {t : Segment} → t ∈ segments s (object_of s sc first) → (k : ℕ) × (k < total s sc first) × ((strand_by s sc first k).segment ≡ t)
    unfolding segments
    left_of m =
        let w = map_in (λ i. (half s (object_of s sc first) i).segment) (keep (left_test s (object_of s sc first)) (elements (object_of s sc first))) m in
        (w.0, within (in_element (object_of s sc first) w.0 (keep_in (left_test s (object_of s sc first)) (elements (object_of s sc first)) w.1).0), w.2)

    in_order : (t : Segment) → t ∈ segments s (object_of s sc first) → Ordered t
    in_order t m = let w = left_of m in subst Ordered w.2 (ordered_read (strand_by s sc first w.0).segment (o.sound first w.0 w.1))

    -- how often a test holds of its segments, by the strands of both objects
    count_strands : (f : Segment → Bool) (begins : Bool) → count f (segments s (object_of s sc first)) ≡ count (λ (a : Strand). beq first a.first && f a.segment) (all begins)
    count_strands f begins =
        count_segments s sc f first has ∙ ap (λ (n : ℕ). count (λ (a : Strand). f a.segment) (strands_by s sc true first n)) (sym (taken first ∙ whole)) ∙ sym (count_own s sc (λ (a : Strand). f a.segment) true first (total s sc true) (total s sc false)) ∙ go begins
      where
        g : Strand → Bool
        g a = beq first a.first && f a.segment

        go : (b : Bool) → count g (all true) ≡ count g (all b)
        go true = refl
        go false = omega (arith, at_end_lem.counts g)

    -- and by its elements
    count_elements : (f : Segment → Bool) (begins : Bool)
        → count f (segments s (object_of s sc first)) ≡ count (λ i. beq (is_beginning s sc first i) begins && f (strand_by s sc first i).segment) (elements (object_of s sc first))
    count_elements f begins =
        count_strands f begins
        ∙ count_own s sc (λ (a : Strand). f a.segment) begins first (total s sc true) (total s sc false)
        ∙ ap (λ (n : ℕ). count (λ (a : Strand). f a.segment) (strands_by s sc begins first n)) (taken first ∙ whole)
        ∙ count_by s sc (λ (a : Strand). f a.segment) begins first (object_of s sc first).count

    by_strands : (f : Segment → Bool) (begins : Bool) → parity f (segments s (object_of s sc first)) ≡ odd (count (λ (a : Strand). beq first a.first && f a.segment) (all begins))
    by_strands f begins = sym (odd_count f (segments s (object_of s sc first))) ∙ ap odd (count_strands f begins)

    by_elements : (f : Segment → Bool) (begins : Bool)
        → parity f (segments s (object_of s sc first)) ≡ parity (λ i. beq (is_beginning s sc first i) begins && f (strand_by s sc first i).segment) (elements (object_of s sc first))
    by_elements f begins =
        sym (odd_count f (segments s (object_of s sc first))) ∙ ap odd (count_elements f begins)
        ∙ odd_count (λ i. beq (is_beginning s sc first i) begins && f (strand_by s sc first i).segment) (elements (object_of s sc first))

  -- ---- 12 and 15

  untouched : (first other : Bool) → has_segments (object_of s sc other).shape ≡ true → (k : ℕ) → k < total s sc first → (t : Segment) → t ∈ segments s (object_of s sc other) → touch (strand_by s sc first k).segment t ≡ false
  untouched first other has k h t m =
      let w = left_of other has m in
      subst (λ (u : Segment). touch (strand_by s sc first k).segment u ≡ false) w.2 (at_end_lem.clear_ended (strand_by s sc first k) (strand_by s sc other w.0) (has_ended first k h) (has_ended other w.0 w.1))

  no_segments : (first : Bool) → has_segments (object_of s sc first).shape ≡ false → {t : Segment} → t ∈ segments s (object_of s sc first) → ⊥
  unfolding segments
  no_segments first has m =
      let w = map_in (λ i. (half s (object_of s sc first) i).segment) (keep (left_test s (object_of s sc first)) (elements (object_of s sc first))) m in
      true≢false (sym (keep_in (left_test s (object_of s sc first)) (elements (object_of s sc first)) w.1).1 ∙ ap (λ b. b && (half s (object_of s sc first) w.0).is_left) has)

  no_touch : (first other : Bool) → touching s (object_of s sc first) (segments s (object_of s sc other)) ≡ None
  unfolding touching
  no_touch first other =
      no_fault (object_of s sc first) (is_touching s (object_of s sc first) (segments s (object_of s sc other)))
      (λ k h. by_first (has_segments (object_of s sc first).shape) refl k h)
    where
      none : has_segments (object_of s sc first).shape ≡ true → (k : ℕ) → k < (object_of s sc first).count → some (touch (half s (object_of s sc first) k).segment) (segments s (object_of s sc other)) ≡ false
      none has k h =
          refute (some (touch (half s (object_of s sc first) k).segment) (segments s (object_of s sc other)))
          (λ t. let w = some_find (touch (half s (object_of s sc first) k).segment) (segments s (object_of s sc other)) t in clash w.0 w.1 w.2 (has_segments (object_of s sc other).shape) refl)
        where
          clash : (u : Segment) → u ∈ segments s (object_of s sc other) → T (touch (half s (object_of s sc first) k).segment u) → (b : Bool) → has_segments (object_of s sc other).shape ≡ b → ⊥
          clash u m t true e = true≢false (sym (true_is (touch (half s (object_of s sc first) k).segment u) t) ∙ untouched first other e k (within first has h) u m)
          clash u m t false e = no_segments other e m

      by_first : (b : Bool) → has_segments (object_of s sc first).shape ≡ b → (k : ℕ) → k < (object_of s sc first).count
          → (has_segments (object_of s sc first).shape && (half s (object_of s sc first) k).is_left) && some (touch (half s (object_of s sc first) k).segment) (segments s (object_of s sc other)) ≡ false
      by_first true e k h = ap (λ b. (has_segments (object_of s sc first).shape && (half s (object_of s sc first) k).is_left) && b) (none e k h) ∙ no (has_segments (object_of s sc first).shape && (half s (object_of s sc first) k).is_left)
        where
          no : (b : Bool) → b && false ≡ false
          no true = refl
          no false = refl
      by_first false e k h = ap (λ b. (b && (half s (object_of s sc first) k).is_left) && some (touch (half s (object_of s sc first) k).segment) (segments s (object_of s sc other))) e

  -- ---- 13 and 14

  module _ (first : Bool) (region : T (is_region (object_of s sc first).shape)) where
    has_segments_lem : has_segments (object_of s sc first).shape ≡ true
    has_segments_lem = go (object_of s sc first).shape region
      where
        go : (k : Shape) → T (is_region k) → has_segments k ≡ true
        go Points t = absurd t
        go Line t = absurd t
        go Region t = refl

    ends_even : Even (segments s (object_of s sc first))
    unfolding dominating
    ends_even v =
        parity_xor (λ (t : Segment). is_same_point t.left v) (λ (t : Segment). is_same_point t.right v) (segments s (object_of s sc first))
        ∙ ap₂ (λ a b. a ⊻ b) (by_elements first has_segments_lem (λ (t : Segment). is_same_point t.left v) true) (by_elements first has_segments_lem (λ (t : Segment). is_same_point t.right v) false)
        ∙ sym (parity_xor (λ i. beq (is_beginning s sc first i) true && is_same_point (strand_by s sc first i).segment.left v) (λ i. beq (is_beginning s sc first i) false && is_same_point (strand_by s sc first i).segment.right v) (elements (object_of s sc first)))
        ∙ parity_same (λ i. (beq (is_beginning s sc first i) true && is_same_point (strand_by s sc first i).segment.left v) ⊻ (beq (is_beginning s sc first i) false && is_same_point (strand_by s sc first i).segment.right v)) (dominated_by s (object_of s sc first) v) (elements (object_of s sc first)) (λ i m. at (is_beginning s sc first i) (strand_by s sc first i).segment.left (strand_by s sc first i).segment.right)
        ∙ evenly first region v
      where
        at : (b : Bool) (l r : Point) → (beq b true && is_same_point l v) ⊻ (beq b false && is_same_point r v) ≡ is_same_point (choose b l r) v
        at true l r = xor_false (is_same_point l v)
        at false l r = refl

    even_at : (v : Point) → odd (ends_at (segments s (object_of s sc first)) (grid v)) ≡ false
    unfolding ends_at
    even_at v =
        odd_count (λ t. is_end t (grid v)) (segments s (object_of s sc first))
        ∙ parity_same (λ t. is_end t (grid v)) (λ t. is_same_point t.left v ⊻ is_same_point t.right v) (segments s (object_of s sc first)) (λ t m. ends_parity t (in_order first has_segments_lem t m) v)
        ∙ ends_even v

    interior_at : (k : ℕ) → k < (object_of s sc first).count → interior_above (segments s (object_of s sc first)) (strand_by s sc first k).segment ≡ (strand_by s sc first k).ia
    unfolding odd
    interior_at k h =
        start_interior (strand_by s sc first k).segment (ordered_read (strand_by s sc first k).segment (o.sound first k inside)) (segments s (object_of s sc first)) ends_even (in_order first has_segments_lem) (untouched first first has_segments_lem k inside)
        (by_strands first has_segments_lem (is_same_segment (strand_by s sc first k).segment) true ∙ ap odd (at_end_lem.once (strand_by s sc first k) (has_begun first k inside)))
        ∙ ap not (by_strands first has_segments_lem (under (strand_by s sc first k).segment) true ∙ at_end_lem.interior (strand_by s sc first k) (has_begun first k inside) region)
        ∙ twice (strand_by s sc first k).ia
      where
        inside : k < total s sc first
        inside = within first has_segments_lem h

        twice : (b : Bool) → not (not b) ≡ b
        twice true = refl
        twice false = refl

  -- ---- all of them

  unless_region : (first : Bool) (wrong : ℕ → Bool) → (T (is_region (object_of s sc first).shape) → (k : ℕ) → k < (object_of s sc first).count → wrong k ≡ false)
      → (k : ℕ) → k < (object_of s sc first).count → is_region (object_of s sc first).shape && wrong k ≡ false
  unless_region first wrong f k h = go (is_region (object_of s sc first).shape) (λ t. f t k h)
    where
      go : (b : Bool) → (T b → wrong k ≡ false) → b && wrong k ≡ false
      go true g = g tt
      go false g = refl

  pub passes : Passes s sc
  unfolding unpaired odd_end wrong_ia touching_itself
  passes =
      record {
        paired = λ first. no_fault (object_of s sc first) (is_unpaired s (object_of s sc first)) (λ k h. unless (has_segments (object_of s sc first).shape) (some (partner s (object_of s sc first) k) (elements (object_of s sc first))) (λ e. paired_at first (true_is (has_segments (object_of s sc first).shape) e) k h));
        apart = λ first. no_touch first first;
        even = λ first. no_fault (object_of s sc first) (ends_oddly s (object_of s sc first)) (unless_region first (λ k. odd (ends_at (segments s (object_of s sc first)) (grid (dominating (half s (object_of s sc first) k))))) (λ r k h. even_at first r (dominating (half s (object_of s sc first) k))));
        right_ia = λ first. no_fault (object_of s sc first) (has_wrong_ia s (object_of s sc first)) (unless_region first (λ k. not (beq (ia s (object_of s sc first) k) (interior_above (segments s (object_of s sc first)) (half s (object_of s sc first) k).segment))) (λ r k h. agrees (ia s (object_of s sc first) k) (interior_above (segments s (object_of s sc first)) (half s (object_of s sc first) k).segment) (interior_at first r k h)));
        across = by_order (turned sc);
      }
    where
      by_order : (b : Bool) → touching s (cond b sc.g sc.f) (segments s (cond b sc.f sc.g)) ≡ None
      by_order true = no_touch false true
      by_order false = no_touch true false

      unless : (b c : Bool) → (T b → T c) → b && not c ≡ false
      unless true c f = ap not (true_is c (f tt))
      unless false c f = refl

      agrees : (a b : Bool) → b ≡ a → not (beq a b) ≡ false
      agrees true b e = ap (λ x. not (beq true x)) e
      agrees false b e = ap (λ x. not (beq false x)) e

  -- ---- the notes

  -- an object without segments has no strands
  under_strands : (f : Segment → Bool) (first : Bool) → count f (segments s (object_of s sc first)) ≡ count (λ (a : Strand). beq first a.first && f a.segment) (all true)
  under_strands f first = go (has_segments (object_of s sc first).shape) refl
    where
      go : (b : Bool) → has_segments (object_of s sc first).shape ≡ b → count f (segments s (object_of s sc first)) ≡ count (λ (a : Strand). beq first a.first && f a.segment) (all true)
      go true e = count_strands first e f true
      go false e =
          count_none f (segments s (object_of s sc first)) (λ t m. absurd (no_segments first e m))
          ∙ ap (λ (n : ℕ). count (λ (a : Strand). f a.segment) (strands_by s sc true first n)) (sym (taken first ∙ ap (λ b. cond b (object_of s sc first).count 0) e))
          ∙ sym (count_own s sc (λ (a : Strand). f a.segment) true first (total s sc true) (total s sc false))

  pub notes_hold : (notes : List ℕ) → AllNoted s sc (total s sc true) (total s sc false) [] notes → SegmentsNoted s sc notes
  notes_hold notes noted first k h alone =
      noted (λ e m. absurd (in_nil m)) first k (subst (λ (n : ℕ). k < n) (sym (taken first)) h) none
      ∙ ap (λ (n : ℕ). bit (odd n)) (sym (under_strands (under t) (not first)))
    where
      t : Segment
      t = (strand_by s sc first k).segment

      listed_other : (b : Strand) → b ∈ all true → beq (not first) b.first ≡ true → b.segment ∈ segments s (object_of s sc (not first))
      listed_other b m d =
          subst (λ (c : Bool). b.segment ∈ segments s (object_of s sc c)) (sym (ap (λ (a : Strand). a.first) w.by.is) ∙ sym (beq_same (not first) b.first d))
          (subst (λ (a : Strand). a.segment ∈ segments s (object_of s sc w.first)) (sym w.by.is)
          (in_segments s sc w.first w.by.index (subst (λ (n : ℕ). w.by.index < n) (taken w.first) w.by.earlier) w.by.is_such))
        where
          w : Of s sc true (total s sc true) (total s sc false) b
          w = find_of s sc true (total s sc true) (total s sc false) b m

      none : NoneEqual (not first) (strand_by s sc first k) (all true)
      none b m d e =
          true≢false
          (sym (true_is (is_same_segment t b.segment) (subst (λ (u : Segment). T (is_same_segment t u)) e (same_segment_refl t)))
          ∙ none_of (is_same_segment t) alone (listed_other b m d))
