-- Every flag lies in its window: set only where an event of some witness is taken, and set where all of one's events are.
use Prim.Native.Nat.{ℕ, zero, suc, ◌<◌}
use mathlib.Core.Path.{◌≡◌, refl, sym, ap, subst, ◌∙◌}
use mathlib.Core.Logic.{inl, inr, ⊎_elim}
use mathlib.Core.Bool.{Bool, true, false, ◌&&◌}
use mathlib.Core.List.{List, [], ◌∷◌, map}
use lib.Dec.{T}
use lib.ListN.{get_or, take}
use Rattle.whole.specs.Count.{◌∈◌, here, there, some}
use Rattle.whole.proofs.Logic.{and_left, and_right, and_make, is_true, true_is, some_find, some_make, in_map, map_in, in_nil}
use Rattle.plane.specs.declared.Point.{Point}
use Rattle.plane.specs.declared.Segment.{Segment}
use Rattle.plane.specs.declared.Halfsegment.{Halfsegment}
use Rattle.plane.specs.Plane.{dominating}
use Rattle.plane.proofs.Order.{half_of}
use Rattle.scene.specs.declared.Shape.{Shape}
use Rattle.scene.specs.declared.Shape.TheVariants.{Points, Line, Region}
use Rattle.scene.specs.declared.Layout.{Layout}
use Rattle.scene.specs.declared.Scene.{Scene}
use Rattle.scene.specs.Conditions.{elements, keep, has_segments, half, left_test, segments}
use Rattle.scene_segments.proofs.Indices.{element_in, in_element, keep_in, in_keep}
use Rattle.check_verdict.proofs.Laws.{SoundObject, SoundScene, segment_in, half_of_lem}
use Rattle.flags.specs.Flags.{Edge, Elements, points, line, region, has_bit}
use Rattle.flags.specs.Elements.{point_of, points_of, edge_of, edges, elements_as, elements_of}
use Rattle.flags.specs.Sentences.{EndOf}
use Rattle.flags.proofs.Bits.{pack_bit}
use Rattle.flags.proofs.Elements.{some_never}
use Rattle.flags.proofs.Marks.{gather}
use Rattle.walk_events.specs.Events.{Taken, f_alone, g_alone, of_both, events, in_f, in_g}
use Rattle.walk_events.specs.Taking.{Test, at, whole, end, tests_of, passes, own_tests, taken_flags}
use Rattle.walk_events.specs.Portions.{taken_f, taken_g, found_f, found_g}
use Rattle.walk_events.specs.Windows.{EndWitness, AtPoint, PointWindow, SegmentWindow, EndWindow, Window, test_at}
use Rattle.walk_events.proofs.AllTaken.{gather_tests}
use Rattle.walk_events.proofs.Merged.{all_of_f, all_of_g}

-- ---- one test

module _ {s : List ℕ} {l : Layout} (o : SoundObject s l) (taken : List ℕ) (within : (i : ℕ) → i ∈ taken → i < l.count) where
  abbrev Has : ℕ → Type 0
  Has i = i ∈ taken

  abbrev flag : Test → Bool
  flag t = some (λ i. passes s l i t) taken

  point_window : (f : Point → Bool) → PointWindow s l Has f (flag (at f))
  unfolding points_of
  point_window f = record {
    clear = λ h.
        let w = some_find (λ i. f (point_of s l i)) taken h in
        (point_of s l w.0, in_map (point_of s l) (element_in l w.0 (within w.0 w.1)), w.2, (w.0, (within w.0 w.1, refl), w.1));
    set = λ v m t all.
        let w = map_in (point_of s l) (elements l) m in
        some_make (λ i. f (point_of s l i)) (all w.0 (in_element l w.0 w.1, w.2)) (subst (λ (p : Point). T (f p)) (sym w.2) t);
  }

  segment_window : (f : Edge → Bool) → SegmentWindow s l Has f (flag (whole f))
  unfolding edges
  segment_window f = record {
    clear = λ h.
        let w = some_find (λ i. left_test s l i && f (edge_of s l i)) taken h in
        let left = true_is (left_test s l w.0) (and_left (left_test s l w.0) (f (edge_of s l w.0)) w.2) in (
          edge_of s l w.0,
          in_map (edge_of s l) (in_keep (left_test s l) (element_in l w.0 (within w.0 w.1)) left),
          and_right (left_test s l w.0) (f (edge_of s l w.0)) w.2,
          (w.0, (within w.0 w.1, refl), w.1),
        );
    set = λ u m t all.
        let w = map_in (edge_of s l) (keep (left_test s l) (elements l)) m in
        let k = keep_in (left_test s l) (elements l) w.1 in
        some_make (λ i. left_test s l i && f (edge_of s l i)) (all w.0 (in_element l w.0 k.0, ap (λ (e : Edge). e.segment) w.2))
        (and_make (left_test s l w.0) (f (edge_of s l w.0)) (is_true (left_test s l w.0) k.1) (subst (λ (e : Edge). T (f e)) (sym w.2) t));
  }

  end_window : has_segments l.shape ≡ true → (f : Segment → Point → Bool) → EndWindow s l Has f (flag (end f))
  unfolding dominating
  end_window segs f = record { clear = clear; set = set }
    where
      here_at : ℕ → Bool
      here_at i = f (half s l i).segment (dominating (half s l i))

      end_is : (b : Bool) (t : Segment) → EndOf (dominating (half_of b t)) t
      end_is true t = inl refl
      end_is false t = inr refl

      clear : T (some here_at taken) → (v : Point) × EndWitness s l f v × ((i : ℕ) × AtPoint s l v i × Has i)
      clear h =
          let w = some_find here_at taken h in
          let k = within w.0 w.1 in (
            dominating (half s l w.0),
            record { segment = (half s l w.0).segment; own = segment_in o segs w.0 k; is_end_lem = end_is (half s l w.0).is_left (half s l w.0).segment; passes = w.2 },
            (w.0, (k, refl), w.1),
          )

      by_half : (v : Point) (w : EndWitness s l f v) (all : (i : ℕ) → AtPoint s l v i → Has i) (b : Bool) → v ≡ dominating (half_of b w.segment) → T (some here_at taken)
      by_half v w all b e =
          let h = half_of_lem o b w.own in
          some_make here_at (all h.0 (h.1, ap dominating h.2 ∙ sym e))
          (subst (λ (k : Halfsegment). T (f k.segment (dominating k))) (sym h.2) (subst (λ (p : Point). T (f w.segment p)) e w.passes))

      set : (v : Point) → EndWitness s l f v → ((i : ℕ) → AtPoint s l v i → Has i) → T (some here_at taken)
      set v w all = ⊎_elim (by_half v w all true) (by_half v w all false) w.is_end_lem

  -- ---- all tests of a pair

  abbrev InWindow : Test → Type 0
  InWindow t = Window s l Has t (flag t)

  abbrev All : List Test → Type 0
  All [] = Unit {0}
  All (t ∷ ts) = InWindow t × All ts

  -- an object with segments has its flags of ends at them
  of_segments : has_segments l.shape ≡ true → (ts : List Test) → All ts
  of_segments segs [] = tt
  of_segments segs (at f ∷ ts) = (point_window f, of_segments segs ts)
  of_segments segs (whole f ∷ ts) = (segment_window f, of_segments segs ts)
  of_segments segs (end f ∷ ts) = (end_window segs f, of_segments segs ts)

  -- points have none
  of_points : (isF : Bool) (P : List Point) (other : Elements) → All (tests_of isF (points P) other)
  of_points true P (points G) = (point_window _, (point_window _, tt))
  of_points true P (line G) = (point_window _, (point_window _, (point_window _, tt)))
  of_points true P (region G) = (point_window _, (point_window _, (point_window _, tt)))
  of_points false P (points F) = (point_window _, tt)
  of_points false P (line F) = tt
  of_points false P (region F) = tt

  of_tests : (isF : Bool) (other : Elements) → All (tests_of isF (elements_of s l) other)
  of_tests isF other = go l.shape refl
    where
      go : (k : Shape) → l.shape ≡ k → All (tests_of isF (elements_as s l k) other)
      go Points e = of_points isF (points_of s l) other
      go Line e = of_segments (ap has_segments e) (tests_of isF (line (segments s l)) other)
      go Region e = of_segments (ap has_segments e) (tests_of isF (region (edges s l)) other)

  in_all : (ts : List Test) → All ts → (k : ℕ) → InWindow (test_at ts k)
  in_all [] w k = point_window (λ v. false)
  in_all (t ∷ ts) w zero = w.0
  in_all (t ∷ ts) w (suc k) = in_all ts w.1 k

  flag_at : (ts : List Test) (k : ℕ) → flag (test_at ts k) ≡ get_or (map flag ts) k false
  flag_at [] k = some_never taken
  flag_at (t ∷ ts) zero = refl
  flag_at (t ∷ ts) (suc k) = flag_at ts k

  -- flag k of the object, against the other, with these elements taken
  pub flag_window : (isF : Bool) (other : Layout) (k : ℕ) → Window s l Has (test_at (own_tests isF s l other) k) (has_bit (gather (taken_flags isF s l other) taken) k)
  flag_window isF other k =
      subst (λ (b : Bool). Window s l Has (test_at ts k) b)
      (flag_at ts k ∙ sym (ap (λ n. has_bit n k) (gather_tests (passes s l) ts taken) ∙ pack_bit (map flag ts) k)) (in_all ts (of_tests isF (elements_of s other)) k)
    where
      ts : List Test
      ts = own_tests isF s l other

-- ---- after n events

module _ {s : List ℕ} {sc : Scene} (o : SoundScene s sc) (n k : ℕ) where
  -- the events of F are elements of F
  within_f : (i : ℕ) → i ∈ taken_f s sc n → i < sc.f.count
  within_f i m = in_element sc.f i (subst (λ (l : List ℕ). i ∈ l) (all_of_f s sc) (prefix n (events s sc) m))
    where
      prefix : (n : ℕ) (l : List Taken) → i ∈ in_f (take n l) → i ∈ in_f l
      prefix zero l m = absurd (in_nil m)
      prefix (suc n) [] m = absurd (in_nil m)
      prefix (suc n) (f_alone a ∷ l) here = here
      prefix (suc n) (f_alone a ∷ l) (there m) = there (prefix n l m)
      prefix (suc n) (g_alone b ∷ l) m = prefix n l m
      prefix (suc n) (of_both a b ∷ l) here = here
      prefix (suc n) (of_both a b ∷ l) (there m) = there (prefix n l m)

  within_g : (j : ℕ) → j ∈ taken_g s sc n → j < sc.g.count
  within_g j m = in_element sc.g j (subst (λ (l : List ℕ). j ∈ l) (all_of_g s sc) (prefix n (events s sc) m))
    where
      prefix : (n : ℕ) (l : List Taken) → j ∈ in_g (take n l) → j ∈ in_g l
      prefix zero l m = absurd (in_nil m)
      prefix (suc n) [] m = absurd (in_nil m)
      prefix (suc n) (f_alone a ∷ l) m = prefix n l m
      prefix (suc n) (g_alone b ∷ l) here = here
      prefix (suc n) (g_alone b ∷ l) (there m) = there (prefix n l m)
      prefix (suc n) (of_both a b ∷ l) here = here
      prefix (suc n) (of_both a b ∷ l) (there m) = there (prefix n l m)

  pub window_of_f : Window s sc.f (λ i. i ∈ taken_f s sc n) (test_at (own_tests true s sc.f sc.g) k) (has_bit (found_f s sc n) k)
  window_of_f = flag_window o.f_sound (taken_f s sc n) within_f true sc.g k

  pub window_of_g : Window s sc.g (λ j. j ∈ taken_g s sc n) (test_at (own_tests false s sc.g sc.f) k) (has_bit (found_g s sc n) k)
  window_of_g = flag_window o.g_sound (taken_g s sc n) within_g false sc.f k
