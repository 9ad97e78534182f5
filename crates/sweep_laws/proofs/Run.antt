-- The sweep over the bytes of a scene, from event to event. What it keeps holds of every run that ends with no segment active: each active segment
-- then ends at a later event, so that it reaches as far as the events do.
use Prim.Native.Nat.{ℕ, suc, ◌<◌, ◌≤◌}
use native.Mathlib.Nat.{le_refl, not-suc-le-zero}
use native.Mathlib.Omega.{arith}
use mathlib.Core.Path.{◌≡◌, refl, sym, ap, ◌∙◌, subst}
use mathlib.Core.Logic.{⊎_elim}
use mathlib.Core.Bool.{Bool, true, false, not, ◌&&◌, ◌||◌, beq}
use mathlib.Core.List.{List, [], ◌∷◌, ◌++◌, map}
use lib.Dec.{T}
use lib.ListN.{length, get_or, take, drop, take-append-drop}
use lib.Seq.{split_at}
use Rattle.whole.specs.Count.{◌∈◌, odd, count}
use Rattle.whole.proofs.Logic.{sorted_nil, in_nil, in_at, map_in, or_cases, and_left, and_right, false_is, true_is, beq_same}
use Rattle.plane.specs.declared.Point.{Point}
use Rattle.plane.specs.Plane.{ordered, is_same_point, is_same_segment, dominating, choose}
use Rattle.plane.proofs.OnSegment.{ordered_read}
use Rattle.plane.proofs.Equal.{same_point_read, same_segment_read}
use Rattle.scene.specs.declared.Scene.{Scene}
use Rattle.scene.specs.Read.{segment_at, halfsegment_at, ia_at, place}
use Rattle.scene.specs.Conditions.{is_region}
use Rattle.sweep_laws.specs.Lower.{passes_under, passes_over}
use Rattle.sweep_laws.specs.Kept.{Strand, is_of, same_object, Kept}
use Rattle.sweep_laws.specs.Swept.{object_of, strand_of, is_first, strand_at, is_beginning, total}
use Rattle.sweep_laws.specs.Event.{LowerNext, under_beginning, Began, Ended, Taken, it_began, it_ended}
use Rattle.sweep_laws.proofs.Under.{NotBefore}
use Rattle.sweep_laws.proofs.Events.{Reached, UnderBeginning, passing, turning, equal, UnderEnd, OverEnd, Beginning, begins, ends}
use Rattle.sweep_laws.proofs.Linked.{Linked, linked_nil, linked_inserted, linked_removed}
use Rattle.sweep_laws.proofs.Neighbours.{all_over, all_under_beginning, all_under_end, all_over_end}
use Rattle.sweep_laws.proofs.Begun.{kept_same, strand_by, reached, strands, find_of, Next}
use Rattle.sweep_laws.proofs.Shifted.{inserted_old, in_inserted, in_removed, removed_rest}

-- ---- the tests of an event, read

under_beginning_read : (a b : Strand) → T (under_beginning a b) → UnderBeginning a b
under_beginning_read a b t =
    ⊎_elim
    (λ u. ⊎_elim passing (λ h. turning (same_point_read b.segment.left a.segment.left (and_left (is_same_point b.segment.left a.segment.left) (passes_under b.segment a.segment.right) h)) (and_right (is_same_point b.segment.left a.segment.left) (passes_under b.segment a.segment.right) h))
    (or_cases (passes_under b.segment a.segment.left) (is_same_point b.segment.left a.segment.left && passes_under b.segment a.segment.right) u))
    (λ h. equal (same_segment_read b.segment a.segment (and_left (is_same_segment b.segment a.segment) (not (same_object a b)) h)) (false_is (same_object a b) (and_right (is_same_segment b.segment a.segment) (not (same_object a b)) h)))
    (or_cases (passes_under b.segment a.segment.left || (is_same_point b.segment.left a.segment.left && passes_under b.segment a.segment.right)) (is_same_segment b.segment a.segment && not (same_object a b)) t)

-- ---- lists

module _ {A B : Type 0} (f : A → B) where
  pub map-append : (l m : List A) → map f (l ++ m) ≡ map f l ++ map f m
  map-append [] m = refl
  map-append (a ∷ l) m = ap (λ r. f a ∷ r) (map-append l m)

  pub count_map : (g : B → Bool) (l : List A) → count g (map f l) ≡ count (λ a. g (f a)) l
  count_map g [] = refl
  count_map g (a ∷ l) = omega (arith, count_map g l)

module _ (s : List ℕ) (sc : Scene) where
  abbrev pub point_of : Bool → ℕ → Point
  point_of first k = dominating (halfsegment_at s (place (object_of s sc first) k))

  -- what a scene gives that has been read and is in order
  pub record Orderly : Type 0 where
    pub sound : (first : Bool) (k : ℕ) → k < total s sc first → T (ordered (segment_at s (place (object_of s sc first) k)))
    pub owned : (first : Bool) (k : ℕ) → k < total s sc first → is_first s sc (place (object_of s sc first) k) ≡ first
    pub few : (first : Bool) → total s sc first ≤ 1024
    pub rises : (first : Bool) (k m : ℕ) → k < m → m < total s sc first → NotBefore (point_of first m) (point_of first k)
    -- no segment of an object begins twice
    pub differ : (first : Bool) (k m : ℕ) → k < m → m < total s sc first → is_beginning s sc first k ≡ true → is_beginning s sc first m ≡ true
        → segment_at s (place (object_of s sc first) k) ≡ segment_at s (place (object_of s sc first) m) → ⊥

  abbrev pub is_region_of : Bool → Bool
  is_region_of first = is_region (object_of s sc first).shape

  -- an active segment ends at an event to come
  pub record EndsLater (i j : ℕ) (e : ℕ) : Type 0 where
    pub index : ℕ
    pub to_come : reached s sc i j (is_first s sc e) ≤ index
    pub within : index < total s sc (is_first s sc e)
    pub is_end_lem : is_beginning s sc (is_first s sc e) index ≡ false
    pub is : strand_by s sc (is_first s sc e) index ≡ strand_at s sc e

  abbrev pub AllEndLater : ℕ → ℕ → List ℕ → Type 0
  AllEndLater i j entries = (e : ℕ) → e ∈ entries → EndsLater i j e

  -- an entry is the record of an element that has been taken
  pub record TakenBefore (i j : ℕ) (e : ℕ) : Type 0 where
    pub index : ℕ
    pub earlier : index < reached s sc i j (is_first s sc e)
    pub is_place : e ≡ place (object_of s sc (is_first s sc e)) index

  -- i elements of F and j of G have been taken
  pub record Run (i j : ℕ) (entries : List ℕ) : Type 0 where
    pub in_time : (first other : Bool) (k m : ℕ) → k < reached s sc i j first → reached s sc i j other ≤ m → m < total s sc other
        → NotBefore (point_of other m) (point_of first k)
    pub taken : (e : ℕ) → e ∈ entries → TakenBefore i j e
    -- neighbours were tested when they became neighbours
    pub linked : Linked (LowerNext s) entries
    pub kept : AllEndLater i j entries → Kept is_region_of (strands s sc true i j) (strands s sc false i j) (map (strand_at s sc) entries)

  -- the point of an element is the end of its segment that begins or ends there
  pub left_point : (first : Bool) (k : ℕ) → is_beginning s sc first k ≡ true → point_of first k ≡ (segment_at s (place (object_of s sc first) k)).left
  unfolding dominating
  left_point first k e = ap (λ b. choose b (segment_at s (place (object_of s sc first) k)).left (segment_at s (place (object_of s sc first) k)).right) e

  pub right_point : (first : Bool) (k : ℕ) → is_beginning s sc first k ≡ false → point_of first k ≡ (segment_at s (place (object_of s sc first) k)).right
  unfolding dominating
  right_point first k e = ap (λ b. choose b (segment_at s (place (object_of s sc first) k)).left (segment_at s (place (object_of s sc first) k)).right) e

  -- a point that no element taken comes after, and none to come before
  module _ {i j : ℕ} {entries : List ℕ} (p : Point) (taken : (first : Bool) (k : ℕ) → k < reached s sc i j first → NotBefore p (point_of first k))
      (to_come : (other : Bool) (m : ℕ) → reached s sc i j other ≤ m → m < total s sc other → NotBefore (point_of other m) p) where
    pub reaches : AllEndLater i j entries → Reached p (strands s sc true i j) (strands s sc false i j) (map (strand_at s sc) entries)
    reaches later =
        record {
          begun_before = λ a m. let w = find_of s sc true i j a m in subst (NotBefore p) (left_point w.first w.by.index w.by.is_such ∙ ap (λ (b : Strand). b.segment.left) (sym w.by.is)) (taken w.first w.by.index w.by.earlier);
          ended_before = λ a m. let w = find_of s sc false i j a m in subst (NotBefore p) (right_point w.first w.by.index w.by.is_such ∙ ap (λ (b : Strand). b.segment.right) (sym w.by.is)) (taken w.first w.by.index w.by.earlier);
          active_on = λ a m. let w = map_in (strand_at s sc) entries m in let l = later w.0 w.1 in subst (λ q. NotBefore q p) (right_point (is_first s sc w.0) l.index l.is_end_lem ∙ ap (λ (b : Strand). b.segment.right) (l.is ∙ w.2)) (to_come (is_first s sc w.0) l.index l.to_come l.within);
        }

  -- the strands below a segment that begins, and above it
  module _ {first : Bool} {at : ℕ} {entries new : List ℕ} {note : ℕ} (b : Began s sc first at entries new note) where
    abbrev pub below : List Strand
    below = map (strand_at s sc) (take b.position entries)

    abbrev pub above : List Strand
    above = map (strand_at s sc) (drop b.position entries)

    pub count_below_lem : (object : Bool) → count (is_of object) below ≡ count (λ e. beq object (is_first s sc e)) (take b.position entries)
    count_below_lem object = count_map (strand_at s sc) (is_of object) (take b.position entries)

  -- the entry of a segment that ends
  module _ {first : Bool} {at : ℕ} {notes entries new : List ℕ} {note : ℕ} (b : Ended s sc first at entries notes new note) where
    abbrev pub own_entry : ℕ
    own_entry = get_or entries b.position 0

    pub own_there : b.position < length entries
    own_there = omega (arith, b.found.below, b.at_place.within)

    pub own_in : own_entry ∈ entries
    own_in = in_at entries 0 b.position own_there

    pub own_first : is_first s sc own_entry ≡ first
    own_first = ap (λ (a : Strand). a.first) b.found.own

  -- the event that comes next, of F or of G
  abbrev pub place_of : ℕ → ℕ → Bool → ℕ
  place_of i j first = place (object_of s sc first) (reached s sc i j first)

  abbrev pub own_of : ℕ → ℕ → Bool → Strand
  own_of i j first = strand_of s sc first (place_of i j first)

  module _ (o : Orderly) {i j : ℕ} {entries : List ℕ} (run : Run i j entries) (first : Bool) (more : reached s sc i j first < total s sc first)
      (least : (other : Bool) (m : ℕ) → reached s sc i j other ≤ m → m < total s sc other → NotBefore (point_of other m) (point_of first (reached s sc i j first))) where
    pub reaching : AllEndLater i j entries → Reached (point_of first (reached s sc i j first)) (strands s sc true i j) (strands s sc false i j) (map (strand_at s sc) entries)
    reaching = reaches (point_of first (reached s sc i j first)) (λ b k h. run.in_time b first k (reached s sc i j first) h (le_refl (reached s sc i j first)) more) least

    pub own_is : strand_at s sc (place_of i j first) ≡ (own_of i j first)
    own_is = ap (λ b. strand_of s sc b (place_of i j first)) (o.owned first (reached s sc i j first) more)

    pub new_own : is_beginning s sc first (reached s sc i j first) ≡ true → (b : Strand) → b ∈ strands s sc true i j → same_object (own_of i j first) b ≡ true
        → (own_of i j first).segment ≡ b.segment → ⊥
    new_own e b m d q =
        let w = find_of s sc true i j b m in
        let f : w.first ≡ first = sym (beq_same first b.first d ∙ ap (λ (a : Strand). a.first) w.by.is) in
        o.differ first w.by.index (reached s sc i j first) (subst (λ (c : Bool). w.by.index < reached s sc i j c) f w.by.earlier) more (subst (λ (c : Bool). is_beginning s sc c w.by.index ≡ true) f w.by.is_such) e
        (ap (λ (c : Bool). segment_at s (place (object_of s sc c) w.by.index)) (sym f) ∙ ap (λ (a : Strand). a.segment) (sym w.by.is) ∙ sym q)

    module _ {new : List ℕ} {note : ℕ} (b : Began s sc first (place_of i j first) entries new note) where
      pub beginning : is_beginning s sc first (reached s sc i j first) ≡ true → AllEndLater i j entries
          → Beginning is_region_of (strands s sc true i j) (strands s sc false i j) (own_of i j first) (below b) (above b)
      beginning e later =
          record {
            in_order = o.sound first (reached s sc i j first) more;
            kept = subst (Kept is_region_of (strands s sc true i j) (strands s sc false i j)) old_active (run.kept later);
            reached = subst (Reached (own_of i j first).segment.left (strands s sc true i j) (strands s sc false i j)) old_active at_left;
            under_it = λ a m. let w = map_in (strand_at s sc) (take b.position entries) m in subst (UnderBeginning (own_of i j first)) w.2 (all_under_beginning is_region_of (strand_at s sc) 0 entries (run.kept later) run.linked (own_of i j first) (ordered_read (own_of i j first).segment (o.sound first (reached s sc i j first) more)) (new_own e) at_left b.position b.at_place.within (λ k q. under_beginning_read (own_of i j first) (strand_at s sc (get_or entries k 0)) (b.fits.over k q).0) w.0 w.1);
            over_it = λ a m. let w = map_in (strand_at s sc) (drop b.position entries) m in subst (λ (c : Strand). T (passes_over c.segment (own_of i j first).segment.left)) w.2 (all_over is_region_of (strand_at s sc) 0 entries (run.kept later) run.linked at_left b.position b.at_place.over_it w.0 w.1);
          }
        where
          at_left : Reached (own_of i j first).segment.left (strands s sc true i j) (strands s sc false i j) (map (strand_at s sc) entries)
          at_left = subst (λ p. Reached p (strands s sc true i j) (strands s sc false i j) (map (strand_at s sc) entries)) (left_point first (reached s sc i j first) e) (reaching later)

          old_active : map (strand_at s sc) entries ≡ below b ++ above b
          old_active = ap (map (strand_at s sc)) (sym (take-append-drop b.position entries)) ∙ map-append (strand_at s sc) (take b.position entries) (drop b.position entries)

      has_begun : is_beginning s sc first (reached s sc i j first) ≡ true → AllEndLater i j entries
          → Kept is_region_of ((own_of i j first) ∷ strands s sc true i j) (strands s sc false i j) (map (strand_at s sc) new)
      has_begun e later =
          subst (Kept is_region_of ((own_of i j first) ∷ strands s sc true i j) (strands s sc false i j)) (sym new_active)
          (begins is_region_of (beginning e later) (λ r. ap odd (count_below_lem b first) ∙ b.fits.right_ia r ∙ ap not (sym (own_ia r))))
        where
          new_active : map (strand_at s sc) new ≡ below b ++ ((own_of i j first) ∷ above b)
          new_active =
              ap (map (strand_at s sc)) b.new_is
              ∙ map-append (strand_at s sc) (take b.position entries) ((place_of i j first) ∷ drop b.position entries)
              ∙ ap (λ c. below b ++ (c ∷ above b)) own_is

          own_ia : T (is_region_of first) → is_region_of first && ia_at s (place_of i j first) ≡ ia_at s (place_of i j first)
          own_ia r = rw (true_is (is_region_of first) r)

    module _ {notes new : List ℕ} {note : ℕ} (b : Ended s sc first (place_of i j first) entries notes new note) where
      has_ended : is_beginning s sc first (reached s sc i j first) ≡ false → AllEndLater i j entries → Kept is_region_of (strands s sc true i j) ((own_of i j first) ∷ strands s sc false i j) (map (strand_at s sc) new)
      has_ended e later =
          subst (Kept is_region_of (strands s sc true i j) ((own_of i j first) ∷ strands s sc false i j)) (sym new_active)
          (ends is_region_of (own_of i j first) (o.sound first (reached s sc i j first) more) low high
          (subst (Kept is_region_of (strands s sc true i j) (strands s sc false i j)) old_active (run.kept later))
          (λ a m. let w = map_in (strand_at s sc) (take b.position entries) m in subst (UnderEnd (own_of i j first)) w.2 (all_under_end is_region_of (strand_at s sc) 0 entries (run.kept later) run.linked (own_of i j first) at_right b.position (own_there b) b.found.own w.0 w.1))
          (λ a m. let w = map_in (strand_at s sc) (drop (suc b.position) entries) m in subst (OverEnd (own_of i j first)) w.2 (all_over_end is_region_of (strand_at s sc) 0 entries (run.kept later) run.linked (own_of i j first) at_right b.position b.top b.found.equals b.at_place.over_it w.0 w.1)))
        where
          at_right : Reached (own_of i j first).segment.right (strands s sc true i j) (strands s sc false i j) (map (strand_at s sc) entries)
          at_right = subst (λ p. Reached p (strands s sc true i j) (strands s sc false i j) (map (strand_at s sc) entries)) (right_point first (reached s sc i j first) e) (reaching later)

          low : List Strand
          low = map (strand_at s sc) (take b.position entries)

          high : List Strand
          high = map (strand_at s sc) (drop (suc b.position) entries)

          old_active : map (strand_at s sc) entries ≡ low ++ ((own_of i j first) ∷ high)
          old_active =
              ap (map (strand_at s sc)) (split_at entries b.position 0 (own_there b))
              ∙ map-append (strand_at s sc) (take b.position entries) (own_entry b ∷ drop (suc b.position) entries)
              ∙ ap (λ c. low ++ (c ∷ high)) b.found.own

          new_active : map (strand_at s sc) new ≡ low ++ high
          new_active = ap (map (strand_at s sc)) b.new_is ∙ map-append (strand_at s sc) (take b.position entries) (drop (suc b.position) entries)

    -- ---- one element further

    module _ {i' j' : ℕ} (next : Next s sc first i j i' j') where
      weaken : {e : ℕ} → EndsLater i' j' e → EndsLater i j e
      weaken {e} l = record { index = l.index; to_come = omega (arith, next.grows (is_first s sc e), l.to_come); within = l.within; is_end_lem = l.is_end_lem; is = l.is }

      taken_still : {e : ℕ} → TakenBefore i j e → TakenBefore i' j' e
      taken_still {e} t = record { index = t.index; earlier = omega (arith, next.grows (is_first s sc e), t.earlier); is_place = t.is_place }

      in_time_on : (b other : Bool) (k m : ℕ) → k < reached s sc i' j' b → reached s sc i' j' other ≤ m → m < total s sc other → NotBefore (point_of other m) (point_of b k)
      in_time_on b other k m h l w =
          ⊎_elim (λ g. run.in_time b other k m g low w)
          (λ q. subst (λ (n : ℕ). NotBefore (point_of other m) (point_of b n)) (sym q.1) (subst (λ (c : Bool). NotBefore (point_of other m) (point_of c (reached s sc i j first))) (sym q.0) (least other m low w))) (next.by_one b k h)
        where
          low : reached s sc i j other ≤ m
          low = omega (arith, next.grows other, l)

      -- where all segments that are active after the event end later, so do those that are before it
      pub later_begun : {new : List ℕ} {note : ℕ} → Began s sc first (place_of i j first) entries new note → AllEndLater i' j' new → AllEndLater i j entries
      later_begun b later x m = weaken (later x (subst (λ l. x ∈ l) (sym b.new_is) (inserted_old b.position entries (place_of i j first) m)))

      pub later_ended : {notes new : List ℕ} {note : ℕ} → is_beginning s sc first (reached s sc i j first) ≡ false → Ended s sc first (place_of i j first) entries notes new note
          → AllEndLater i' j' new → AllEndLater i j entries
      later_ended e b later x m = ⊎_elim (λ o. subst (EndsLater i j) (sym o) own_ends) (λ n. weaken (later x (subst (λ l. x ∈ l) (sym b.new_is) n))) (removed_rest 0 b.position entries (own_there b) m)
        where
          own_ends : EndsLater i j (own_entry b)
          own_ends = record {
            index = reached s sc i j first;
            to_come = subst (λ (c : Bool). reached s sc i j c ≤ reached s sc i j first) (sym (own_first b)) (le_refl (reached s sc i j first));
            within = subst (λ (c : Bool). reached s sc i j first < total s sc c) (sym (own_first b)) more;
            is_end_lem = subst (λ (c : Bool). is_beginning s sc c (reached s sc i j first) ≡ false) (sym (own_first b)) e;
            is = subst (λ (c : Bool). strand_by s sc c (reached s sc i j first) ≡ strand_at s sc (own_entry b)) (sym (own_first b)) (sym b.found.own);
          }

      pub later_taken : {notes new : List ℕ} {note : ℕ} → Taken s sc first (reached s sc i j first) notes entries new note → AllEndLater i' j' new → AllEndLater i j entries
      later_taken (it_began e b) = later_begun b
      later_taken (it_ended e b) = later_ended e b

      pub advance : {notes new : List ℕ} {note : ℕ} → Taken s sc first (reached s sc i j first) notes entries new note → Run i' j' new
      advance {new = new} (it_began e b) =
          record {
            in_time = in_time_on;
            taken = λ x m. ⊎_elim (λ q. subst (TakenBefore i' j') (sym q) own_taken) (λ n. taken_still (run.taken x n)) (in_inserted b.position entries (subst (λ l. x ∈ l) b.new_is m));
            linked = subst (Linked (LowerNext s)) (sym b.new_is) (linked_inserted 0 b.position (place_of i j first) entries b.at_place.within run.linked (λ k q. (b.fits.over k q).1) b.fits.under);
            kept = λ later. kept_same is_region_of (next.more true e) (next.same true e) (has_begun b e (later_begun b later));
          }
        where
          own_taken : TakenBefore i' j' (place_of i j first)
          own_taken = record {
            index = reached s sc i j first;
            earlier = subst (λ (c : Bool). reached s sc i j first < reached s sc i' j' c) (sym (o.owned first (reached s sc i j first) more)) next.own;
            is_place = ap (λ (c : Bool). place (object_of s sc c) (reached s sc i j first)) (sym (o.owned first (reached s sc i j first) more));
          }
      advance {new = new} (it_ended e b) =
          record {
            in_time = in_time_on;
            taken = λ x m. taken_still (run.taken x (in_removed 0 b.position entries (own_there b) (subst (λ l. x ∈ l) b.new_is m)));
            linked = subst (Linked (LowerNext s)) (sym b.new_is) (linked_removed 0 b.position entries (own_there b) run.linked b.meeting);
            kept = λ later. kept_same is_region_of (next.same false e) (next.more false e) (has_ended b e (later_ended e b later));
          }

  -- ---- the start

  pub run_start : Run 0 0 []
  run_start =
      record {
        in_time = λ b other k m h l w. absurd (no_element b k h);
        taken = λ e m. absurd (in_nil m);
        linked = linked_nil;
        kept = λ later.
            record {
              counts = λ f. refl;
              placed = λ a h. absurd (in_nil h);
              active_begun = λ a h. h;
              ended_begun = λ a h. h;
              sound = λ a h. absurd (in_nil h);
              once = λ a h. absurd (in_nil h);
              clear_ended = λ a b h. absurd (in_nil h);
              clear_active = λ a b h. absurd (in_nil h);
              rising = sorted_nil;
              interior = λ a h. absurd (in_nil h);
            };
      }
    where
      no_element : (b : Bool) (k : ℕ) → k < reached s sc 0 0 b → ⊥
      no_element true k h = not-suc-le-zero h
      no_element false k h = not-suc-le-zero h
