-- What the walk keeps from point to point: the elements that are passed have lower keys than those that are left, so a run of F and one of G are all
-- elements that have a point, and their lengths are its degrees.
use Rattle.std.specs.Prelude.{None}
use Prim.Native.Nat.{ℕ, ◌-◌, ◌<◌, ◌≤◌, min}
use native.Mathlib.Omega.{arith}
use mathlib.Core.Path.{◌≡◌, refl, sym, ap, ap₂, ◌∙◌}
use mathlib.Core.Bool.{Bool, true, false, ◌||◌, or-true, or-false, and-false}
use mathlib.Core.List.{List}
use lib.Bits.{bit_or, or_zero_r}
use lib.Dec.{T, eqb, ltb}
use lib.ListN.{get_or}
use borrow.Author.Tests.{ltb-true, ltb-false}
use Rattle.whole.specs.Count.{some, count}
use Rattle.whole.proofs.Counted.{count_same}
use Rattle.plane.specs.declared.Point.{Point}
use Rattle.plane.specs.Plane.{in_range, is_same_point}
use Rattle.scene.specs.declared.Layout.{Layout}
use Rattle.scene.specs.declared.Scene.{Scene}
use Rattle.scene.specs.Read.{IsObject}
use Rattle.scene.specs.Conditions.{indices, elements, out_of_order}
use Rattle.scene_segments.proofs.Indices.{in_element}
use Rattle.scene_segments.proofs.Walk.{between, all_between, between_none}
use Rattle.flags.specs.Flags.{pack, has_bit}
use Rattle.flags.proofs.Bits.{pack_bit, or_bit, same_number}
use Rattle.flags.proofs.Boundary.{boundary_none}
use Rattle.flags.proofs.Elements.{some_same, some_never}
use Rattle.flags.proofs.Marks.{gather, gather_bit}
use Rattle.scene_keys.specs.Keyed.{key, top, element_point, keys, next_key}
use Rattle.scene_keys.proofs.Keys.{same_key, next_in}
use Rattle.scene_keys.proofs.Elements.{point_in_range}
use Rattle.flags_meetings.specs.Met.{degree, Test, bound_outside_test, bound_inside_test, bound_on_test, bound_bound_test, bound_inner_test, inner_bound_test, inner_inner_test, bound_of_g_test, some_of_f, some_of_g, meetings}
use Rattle.flags_meetings.specs.Keyed.{Passed, tests_of_f, tests_of_g, marks_of_f, marks_of_g, marks, named}
use Rattle.flags_meetings.proofs.Runs.{InOrder, run_same, run_next, run_count, gather_parts, gather_same, gather_run}
use Rattle.flags_meetings.proofs.Elements.{in_order}

-- where there is no run of G, there are no marks
none_of_g : (a : ℕ) → 0 ≡ marks_of_g a 0
none_of_g a = rw (boundary_none, and-false (eqb a 0))

regroup : (s a b c d : ℕ) → bit_or (bit_or s (bit_or a c)) (bit_or b d) ≡ bit_or s (bit_or (bit_or a b) (bit_or c d))
regroup s a b c d =
    same_number (bit_or (bit_or s (bit_or a c)) (bit_or b d)) (bit_or s (bit_or (bit_or a b) (bit_or c d)))
    (λ k. simp or_bit (bit (has_bit s k) (has_bit a k) (has_bit b k) (has_bit c k) (has_bit d k)))
  where
    bit : (s a b c d : Bool) → ((s || (a || c)) || (b || d)) ≡ (s || ((a || b) || (c || d)))
    bit true a b c d = refl
    bit false true b c d = refl
    bit false false b true d = sym (or-true b)
    bit false false b false d = refl

-- ---- one object

module _ (s : List ℕ) (l : Layout) (is : IsObject s l) where
  pub degree_is : (v : Point) → T (in_range v) → degree s l v ≡ count (λ m. eqb (keys s l m) (key v)) (indices l.count 0)
  unfolding degree
  degree_is v h =
      count_same (λ m. is_same_point (element_point s l m) v) (λ m. eqb (keys s l m) (key v)) (elements l)
      (λ m w. same_key (element_point s l m) v (point_in_range s l is m (in_element l m w)) h)

  module _ (order : out_of_order s l ≡ None) where
    rising : InOrder l.count (keys s l)
    rising = in_order s l is order

    at_end_lem : {i : ℕ} → top ≤ next_key s l i → l.count ≤ i
    at_end_lem {i} h = go (ltb i l.count) refl
      where
        go : (b : Bool) → ltb i l.count ≡ b → l.count ≤ i
        go true e = let g = ltb-true i l.count e in absurd (omega (arith, next_in l.count (keys s l) i g, rising.below i g))
        go false e = ltb-false i l.count e

    -- a run of the key k, where all elements before it have lower keys
    module _ {i j k : ℕ} (low : k < top) (least : k ≤ next_key s l i) (few : j ≤ l.count) (p : Passed l.count (keys s l) k i j) (passed : (m : ℕ) → m < i → keys s l m < k) where
      run_degree : (v : Point) → T (in_range v) → key v ≡ k → degree s l v ≡ j - i
      run_degree v h e =
          degree_is v h ∙ ap (λ x. count (λ m. eqb (keys s l m) x) (indices l.count 0)) e ∙ run_count rising low least few p passed

      in_run : (m : ℕ) → i ≤ m → m < j → T (in_range (element_point s l m)) × (keys s l m ≡ k)
      in_run m a b = (point_in_range s l is m (omega arith), run_same rising low least few p m a b)

      run_above : k < next_key s l j
      run_above = run_next rising low least few p

      run_passed : {k' : ℕ} → k < k' → (m : ℕ) → m < j → keys s l m < k'
      run_passed {k'} h m b = go (ltb m i) refl
        where
          go : (t : Bool) → ltb m i ≡ t → keys s l m < k'
          go true e = omega (arith, passed m (ltb-true m i e))
          go false e = omega (arith, (in_run m (ltb-false m i e) b).1)

-- ---- both objects

module _ (s : List ℕ) (sc : Scene) (notes : List ℕ) where
  -- the tests of an element of F, and of G; their marks, and those of all
  abbrev tests_at_f : ℕ → List Bool
  tests_at_f i = tests_of_f (degree s sc.f (element_point s sc.f i)) (degree s sc.g (element_point s sc.f i)) (get_or notes i 0)

  abbrev tests_at_g : ℕ → List Bool
  tests_at_g j = tests_of_g (degree s sc.f (element_point s sc.g j)) (degree s sc.g (element_point s sc.g j))

  abbrev value_of_f : ℕ → ℕ
  value_of_f i = pack (tests_at_f i)

  abbrev value_of_g : ℕ → ℕ
  value_of_g j = pack (tests_at_g j)

  abbrev all_marks : ℕ
  all_marks = bit_or (gather value_of_f (elements sc.f)) (gather value_of_g (elements sc.g))

  -- by their names they are the meetings
  all_named : named all_marks ≡ meetings s sc notes
  all_named = λ i. record {
    bound_outside = of_f_lem 0 bound_outside_test refl i;
    bound_inside = of_f_lem 1 bound_inside_test refl i;
    bound_on = of_f_lem 2 bound_on_test refl i;
    bound_bound = of_f_lem 3 bound_bound_test refl i;
    bound_inner = of_f_lem 4 bound_inner_test refl i;
    inner_bound = of_f_lem 5 inner_bound_test refl i;
    inner_inner = of_f_lem 6 inner_inner_test refl i;
    bound_of_g = (bit 7 ∙ ap (λ b. b || some_of_g s sc bound_of_g_test) (some_never (elements sc.f))) i;
  }
    where
      bit : (k : ℕ) → has_bit all_marks k ≡ some (λ i. get_or (tests_at_f i) k false) (elements sc.f) || some (λ j. get_or (tests_at_g j) k false) (elements sc.g)
      bit k =
          or_bit (gather value_of_f (elements sc.f)) (gather value_of_g (elements sc.g)) k
          ∙ ap₂ ◌||◌ (gather_bit value_of_f (elements sc.f) k ∙ some_same _ _ (λ i. pack_bit (tests_at_f i) k) (elements sc.f))
          (gather_bit value_of_g (elements sc.g) k ∙ some_same _ _ (λ j. pack_bit (tests_at_g j) k) (elements sc.g))

      of_f_lem : (k : ℕ) (t : Test)
          → some (λ i. get_or (tests_at_f i) k false) (elements sc.f) || some (λ j. get_or (tests_at_g j) k false) (elements sc.g) ≡ some_of_f s sc notes t || some (λ j. false) (elements sc.g)
          → has_bit all_marks k ≡ some_of_f s sc notes t
      of_f_lem k t e = bit k ∙ e ∙ ap (λ b. some_of_f s sc notes t || b) (some_never (elements sc.g)) ∙ or-false (some_of_f s sc notes t)

  -- and of those that are left
  abbrev left_of_f : ℕ → ℕ
  left_of_f i = gather value_of_f (between i sc.f.count)

  abbrev left_of_g : ℕ → ℕ
  left_of_g j = gather value_of_g (between j sc.g.count)

  -- i elements of F and j of G are passed, and k is the lowest key of those that are left
  pub record Walking (i j k : ℕ) (sofar : ℕ) : Type 0 where
    pub least : k ≡ min (next_key s sc.f i) (next_key s sc.g j)
    pub f_passed : (m : ℕ) → m < i → keys s sc.f m < k
    pub g_passed : (m : ℕ) → m < j → keys s sc.g m < k
    pub all : bit_or sofar (bit_or (left_of_f i) (left_of_g j)) ≡ all_marks

  pub walking : {i j k : ℕ} → i ≡ 0 → j ≡ 0 → k ≡ min (next_key s sc.f i) (next_key s sc.g j) → Walking i j k 0
  walking a b e = record {
    least = e;
    f_passed = λ m h. absurd (omega arith);
    g_passed = λ m h. absurd (omega arith);
    all = ap₂ (λ i j. bit_or (left_of_f i) (left_of_g j)) a b ∙ ap₂ (λ l m. bit_or (gather value_of_f l) (gather value_of_g m)) (sym (all_between sc.f.count)) (sym (all_between sc.g.count));
  }

  module _ (is_f : IsObject s sc.f) (is_g : IsObject s sc.g) (order-f : out_of_order s sc.f ≡ None) (order-g : out_of_order s sc.g ≡ None)
      {i j k : ℕ} {sofar : ℕ} (w : Walking i j k sofar) where
    -- at the end
    pub walked : top ≤ k → named sofar ≡ meetings s sc notes
    walked h =
        ap named
        (sym (or_zero_r sofar)
        ∙ ap₂ (λ l m. bit_or sofar (bit_or (gather value_of_f l) (gather value_of_g m))) (sym (between_none i sc.f.count (at_end_lem s sc.f is_f order-f (omega (arith, w.least))))) (sym (between_none j sc.g.count (at_end_lem s sc.g is_g order-g (omega (arith, w.least)))))
        ∙ w.all)
        ∙ all_named

    -- the runs of the key k
    module _ (low : k < top) {i' j' : ℕ} (few_f : i' ≤ sc.f.count) (few_g : j' ≤ sc.g.count) (p : Passed sc.f.count (keys s sc.f) k i i') (q : Passed sc.g.count (keys s sc.g) k j j') where
      least_f : k ≤ next_key s sc.f i
      least_f = omega (arith, w.least)

      least_g : k ≤ next_key s sc.g j
      least_g = omega (arith, w.least)

      degree_f_lem : (v : Point) → T (in_range v) × (key v ≡ k) → degree s sc.f v ≡ i' - i
      degree_f_lem v h = run_degree s sc.f is_f order-f low least_f few_f p w.f_passed v h.0 h.1

      degree_g_lem : (v : Point) → T (in_range v) × (key v ≡ k) → degree s sc.g v ≡ j' - j
      degree_g_lem v h = run_degree s sc.g is_g order-g low least_g few_g q w.g_passed v h.0 h.1

      -- each element of the run by its own note
      by_f_lem : gather value_of_f (between i i') ≡ gather (λ m. marks_of_f (i' - i) (j' - j) (get_or notes m 0)) (between i i')
      by_f_lem = gather_same value_of_f (λ m. marks_of_f (i' - i) (j' - j) (get_or notes m 0)) i i' one
        where
          one : (m : ℕ) → i ≤ m → m < i' → value_of_f m ≡ marks_of_f (i' - i) (j' - j) (get_or notes m 0)
          one m a b =
              let v = in_run s sc.f is_f order-f low least_f few_f p w.f_passed m a b in
              ap₂ (λ a b. marks_of_f a b (get_or notes m 0)) (degree_f_lem (element_point s sc.f m) v) (degree_g_lem (element_point s sc.f m) v)

      by_g_lem : gather value_of_g (between j j') ≡ marks_of_g (i' - i) (j' - j)
      by_g_lem = gather_run value_of_g (marks_of_g (i' - i) (j' - j)) j j' q.on (λ e. none_of_g (i' - i) ∙ ap (marks_of_g (i' - i)) (none e)) one
        where
          none : j ≡ j' → 0 ≡ j' - j
          none e = omega arith

          one : (m : ℕ) → j ≤ m → m < j' → value_of_g m ≡ marks_of_g (i' - i) (j' - j)
          one m a b =
              let v = in_run s sc.g is_g order-g low least_g few_g q w.g_passed m a b in
              ap₂ marks_of_g (degree_f_lem (element_point s sc.g m) v) (degree_g_lem (element_point s sc.g m) v)

      pub walked_on : {k' : ℕ} → k' ≡ min (next_key s sc.f i') (next_key s sc.g j') → Walking i' j' k' (bit_or sofar (marks notes i i' (j' - j)))
      walked_on {k'} e = record {
        least = e;
        f_passed = run_passed s sc.f is_f order-f low least_f few_f p w.f_passed above;
        g_passed = run_passed s sc.g is_g order-g low least_g few_g q w.g_passed above;
        all =
            ap₂ (λ a c. bit_or (bit_or sofar (bit_or a c)) (bit_or (left_of_f i') (left_of_g j'))) (sym by_f_lem) (sym by_g_lem)
            ∙ regroup sofar (gather value_of_f (between i i')) (left_of_f i') (gather value_of_g (between j j')) (left_of_g j')
            ∙ ap₂ (λ a b. bit_or sofar (bit_or a b)) (sym (gather_parts value_of_f i i' sc.f.count p.on few_f)) (sym (gather_parts value_of_g j j' sc.g.count q.on few_g))
            ∙ w.all;
      }
        where
          above : k < k'
          above = omega (arith, e, run_above s sc.f is_f order-f low least_f few_f p w.f_passed, run_above s sc.g is_g order-g low least_g few_g q w.g_passed)
