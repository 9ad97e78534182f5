-- An object that is read as the halfsegments of segments that share only common ends passes 10 to 12. Where each segment occurs an odd number of
-- times, the ends are even and ia is as the rule has it, it passes 13 and 14.
use Rattle.std.specs.Prelude.{None}
use Prim.Native.Nat.{ℕ, zero, suc, ◌-◌, ◌<◌}
use native.Mathlib.Nat.{not-suc-le-zero, le_of_suc-le-suc}
use native.Mathlib.Omega.{arith}
use mathlib.Core.Path.{◌≡◌, refl, sym, ap, ap₂, subst, subst₂, ◌∙◌}
use mathlib.Core.Logic.{◌⊎◌, ⊎_elim}
use mathlib.Core.Bool.{Bool, true, false, not, ◌&&◌, ◌||◌, beq}
use mathlib.Core.List.{List, ◌++◌, map}
use lib.ListN.{length, get_or}
use lib.Dec.{T, T_not, ltb}
use Rattle.whole.specs.Count.{eq_z, odd, ◌∈◌, some, count}
use Rattle.whole.proofs.Logic.{and_left, and_right, and_make, is_true, true_is, refute, beq_refl, in_at, in_index, in_append, in_map, map_in, some_find, some_make, Sorted, sorted_nil, sorted_cons, sorted_map}
use Rattle.whole.proofs.Parity.{◌⊻◌, xor_none, parity, parity_same, parity_append, odd_count, even_all}
use Rattle.plane.specs.declared.Point.{Point}
use Rattle.plane.specs.declared.Segment.{Segment}
use Rattle.plane.specs.declared.Halfsegment.{Halfsegment}
use Rattle.plane.specs.Plane.{grid, fractions, midpoint, is_same_point, is_same_segment, is_end, touch, dominating, comes_before, counts_below, counts_below_left, interior_above, ends_at}
use Rattle.plane.proofs.OnSegment.{Ordered, ordered_read, on_along}
use Rattle.plane.proofs.Means.{end_make}
use Rattle.plane.proofs.Equal.{same_segment_read, same_segment_refl}
use Rattle.plane.proofs.Scale.{fractions_pos}
use Rattle.plane.proofs.Touch.{touch_sound}
use Rattle.plane.proofs.AlongSegment.{Apart}
use Rattle.plane.proofs.Path.{Even}
use Rattle.plane.proofs.Accepted.{Across, AllOrdered, ends_parity}
use Rattle.plane.proofs.Order.{half_of, LeftBefore, segments_once}
use Rattle.scene.specs.declared.Layout.{Layout}
use Rattle.scene.specs.Read.{IsObject}
use Rattle.scene.specs.Conditions.{elements, keep, has_segments, is_region, half, ia, left_test, segments, is_in_order, is_misplaced, out_of_order, partner, is_unpaired, unpaired, is_touching, touching, touching_itself, ends_oddly, odd_end, has_wrong_ia, wrong_ia}
use Rattle.scene_segments.proofs.Elements.{order_of_halves}
use Rattle.scene_segments.proofs.Indices.{element_in, in_element, keep_in, in_keep, kept_rise, no_fault, halves_rise}
use Rattle.scene_written.proofs.ReadBack.{nowhere}
use Rattle.scene_written.proofs.Arranging.{Halves}

-- ---- lists

pub sorted_at : {A : Type 0} {R : A → A → Type 0} {l : List A} → Sorted R l → (d : A) (i j : ℕ) → i < j → j < length l → R (get_or l i d) (get_or l j d)
sorted_at sorted_nil d i j h k = absurd (not-suc-le-zero k)
sorted_at (sorted_cons first rest) d i zero h k = absurd (not-suc-le-zero h)
sorted_at (sorted_cons {l = l} first rest) d zero (suc j) h k = first (get_or l j d) (in_at l d j (le_of_suc-le-suc k))
sorted_at (sorted_cons first rest) d (suc i) (suc j) h k = sorted_at rest d i j (le_of_suc-le-suc h) (le_of_suc-le-suc k)

-- each an odd number of times
abbrev pub Once : List Segment → Type 0
Once l = (t : Segment) → t ∈ l → parity (is_same_segment t) l ≡ true

-- two lists of the same segments, each an odd number of times, answer every question of parity alike
pub same_parity : (l m : List Segment) → Once l → Once m → ((t : Segment) → t ∈ l → t ∈ m) → ((t : Segment) → t ∈ m → t ∈ l) → (f : Segment → Bool) → parity f l ≡ parity f m
same_parity l m once once' to from f = xor_none (parity f l) (parity f m) (sym (parity_append f l m) ∙ even_all is_same_segment same_segment_read same_segment_refl (l ++ m) twice f)
  where
    twice : (t : Segment) → t ∈ (l ++ m) → parity (is_same_segment t) (l ++ m) ≡ false
    twice t k =
        parity_append (is_same_segment t) l m
        ∙ ap₂ (λ a b. a ⊻ b) (⊎_elim (λ n. once t n) (λ n. once t (from t n)) (in_append l k)) (⊎_elim (λ n. once' t (to t n)) (λ n. once' t n) (in_append l k))

-- ---- segments that share only common ends do not touch

touch_differ : (t u : Segment) → T (touch t u) → t ≡ u → ⊥
unfolding touch
touch_differ t u h e = T_not (is_same_segment t u) (and_left (not (is_same_segment t u)) _ h) (subst (λ (r : Segment). T (is_same_segment t r)) e (same_segment_refl t))

touch_none : (t u : Segment) → Ordered t → Ordered u → (t ≡ u) ⊎ Apart t u → touch t u ≡ false
touch_none t u o p a = refute (touch t u) (λ h. ⊎_elim (touch_differ t u h) (apart h) a)
  where
    apart : T (touch t u) → Apart t u → ⊥
    apart h a =
        let m = touch_sound t u o p h in
        let q = fractions m.shared in
        let w = a q (fractions_pos m.shared) (on_along t q o m.on_one) (on_along u q p m.on_other) in
        T_not (is_end t q && is_end u q) m.not_both_ends (and_make (is_end t q) (is_end u q) (end_make t q w.0) (end_make u q w.1))

pub and-false : (b : Bool) → b && false ≡ false
and-false true = refl
and-false false = refl

-- 12, and 15 across two objects, by the lists that their segments are from
across_passes : (s : List ℕ) (f g : Layout) (l m : List Segment) → ((t : Segment) → t ∈ segments s f → t ∈ l) → ((t : Segment) → t ∈ segments s g → t ∈ m)
    → AllOrdered l → AllOrdered m → Across l m → touching s f (segments s g) ≡ None
unfolding touching segments
across_passes s f g l m of_f_lem of_g_lem ord ord' across = no_fault f (is_touching s f (segments s g)) (λ i h. go i h (left_test s f i) refl)
  where
    none : (t : Segment) → t ∈ l → some (touch t) (segments s g) ≡ false
    none t k = refute (some (touch t) (segments s g)) (λ h. clash (some_find (touch t) (segments s g) h))
      where
        clash : (u : Segment) × (u ∈ segments s g) × T (touch t u) → ⊥
        clash w =
            subst T (touch_none t w.0 (ordered_read t (ord t k)) (ordered_read w.0 (ord' w.0 (of_g_lem w.0 w.1))) (across t w.0 k (of_g_lem w.0 w.1))) w.2

    go : (i : ℕ) → i < f.count → (b : Bool) → left_test s f i ≡ b → is_touching s f (segments s g) i ≡ false
    go i h true e =
        ap (λ (b : Bool). left_test s f i && b) (none (half s f i).segment (of_f_lem (half s f i).segment (in_map (λ i. (half s f i).segment) (in_keep (left_test s f) (element_in f i h) e))))
        ∙ and-false (left_test s f i)
    go i h false e = rw e

-- ---- an object that is read as these halfsegments

pub record ReadAs (s : List ℕ) (lay : Layout) (l : List Segment) (hs : List Halfsegment) : Type 0 where
  pub has : has_segments lay.shape ≡ true
  pub read : IsObject s lay
  pub many : lay.count ≡ length hs
  pub half_is : (i : ℕ) → i < lay.count → half s lay i ≡ get_or hs i nowhere
  pub ia_is : is_region lay.shape ≡ true → (i : ℕ) → i < lay.count → ia s lay i ≡ interior_above l (half s lay i).segment

opposite : (b : Bool) → T (not (beq b (not b)))
opposite true = tt
opposite false = tt

module _ {s : List ℕ} {lay : Layout} {l : List Segment} {hs : List Halfsegment} (r : ReadAs s lay l hs) (q : Halves l hs) (ord : AllOrdered l) (across : Across l l) where
  -- the halfsegments are those of the bytes
  half_in : (i : ℕ) → i < lay.count → half s lay i ∈ hs
  half_in i h = subst (λ (x : Halfsegment). x ∈ hs) (sym (r.half_is i h)) (in_at hs nowhere i (omega (arith, r.many)))

  in_half : {h : Halfsegment} → h ∈ hs → (i : ℕ) × (i < lay.count) × (half s lay i ≡ h)
  in_half {h} m =
      let w = in_index nowhere m in
      let b : w.0 < lay.count = omega (arith, r.many, w.1) in
      (w.0, b, r.half_is w.0 b ∙ w.2)

  segment_in : (i : ℕ) → i < lay.count → (half s lay i).segment ∈ l
  segment_in i h = q.of_list (half_in i h)

  pub segments_in : {t : Segment} → t ∈ segments s lay → t ∈ l
  unfolding segments
  segments_in m =
      let w = map_in (λ i. (half s lay i).segment) (keep (left_test s lay) (elements lay)) m in
      subst (λ (t : Segment). t ∈ l) w.2 (segment_in w.0 (in_element lay w.0 (keep_in (left_test s lay) (elements lay) w.1).0))

  pub in_segments : {t : Segment} → t ∈ l → t ∈ segments s lay
  unfolding segments
  in_segments {t} m =
      let w = in_half (q.both true m) in
      subst (λ (u : Segment). u ∈ map (λ i. (half s lay i).segment) (keep (left_test s lay) (elements lay))) (ap (λ (h : Halfsegment). h.segment) w.2)
      (in_map (λ i. (half s lay i).segment) (in_keep (left_test s lay) (element_in lay w.0 w.1) (rw (r.has, ap (λ (h : Halfsegment). h.is_left) w.2))))

  -- ---- 10
  pub order_passes : out_of_order s lay ≡ None
  unfolding out_of_order
  order_passes = no_fault lay (is_misplaced s lay) wrong
    where
      rises : (i : ℕ) → suc i < lay.count → T (comes_before (half s lay i) (half s lay (suc i)))
      rises i h =
          subst₂ (λ (a b : Halfsegment). T (comes_before a b)) (sym (r.half_is i (omega arith))) (sym (r.half_is (suc i) h))
          (sorted_at q.in_order nowhere i (suc i) (omega arith) (omega (arith, r.many)))

      back : (i : ℕ) → suc i - 1 ≡ i
      back i = omega arith

      placed : (i : ℕ) → suc i < lay.count → is_in_order s lay (suc i - 1) (suc i) ≡ true
      placed i h =
          ap (λ (j : ℕ). is_in_order s lay j (suc i)) (back i) ∙ order_of_halves s lay i (suc i) r.has
          ∙ true_is (comes_before (half s lay i) (half s lay (suc i))) (rises i h)

      wrong : (i : ℕ) → i < lay.count → is_misplaced s lay i ≡ false
      wrong zero h = refl
      wrong (suc i) h = ap (λ (b : Bool). ltb 0 (suc i) && not b) (placed i h) ∙ and-false (ltb 0 (suc i))

  -- ---- 11
  same_ia_lem : (i j : ℕ) → i < lay.count → j < lay.count → (half s lay i).segment ≡ (half s lay j).segment → ia s lay i ≡ ia s lay j
  same_ia_lem i j h k e = go (is_region lay.shape) refl
    where
      go : (b : Bool) → is_region lay.shape ≡ b → ia s lay i ≡ ia s lay j
      go true f = r.ia_is f i h ∙ ap (interior_above l) e ∙ sym (r.ia_is f j k)
      go false f = rw f

  paired : (i j : ℕ) → i < lay.count → j < lay.count → half s lay j ≡ half_of (not (half s lay i).is_left) (half s lay i).segment → T (partner s lay i j)
  unfolding partner
  paired i j h k e =
      and_make (not (beq (half s lay i).is_left (half s lay j).is_left) && is_same_segment (half s lay i).segment (half s lay j).segment) (beq (ia s lay i) (ia s lay j))
      (and_make (not (beq (half s lay i).is_left (half s lay j).is_left)) (is_same_segment (half s lay i).segment (half s lay j).segment)
      (subst (λ (b : Bool). T (not (beq (half s lay i).is_left b))) (sym (ap (λ (x : Halfsegment). x.is_left) e)) (opposite (half s lay i).is_left))
      (subst (λ (t : Segment). T (is_same_segment (half s lay i).segment t)) (sym (ap (λ (x : Halfsegment). x.segment) e)) (same_segment_refl (half s lay i).segment)))
      (subst (λ (b : Bool). T (beq (ia s lay i) b)) (same_ia_lem i j h k (sym (ap (λ (x : Halfsegment). x.segment) e))) (is_true (beq (ia s lay i) (ia s lay i)) (beq_refl (ia s lay i))))

  pub pairs_pass : unpaired s lay ≡ None
  unfolding unpaired
  pairs_pass = no_fault lay (is_unpaired s lay) (λ i h. rw r.has (ap not (true_is (some (partner s lay i) (elements lay)) (found i h))))
    where
      found : (i : ℕ) → i < lay.count → T (some (partner s lay i) (elements lay))
      found i h =
          let w = in_half (q.both (not (half s lay i).is_left) (segment_in i h)) in
          some_make (partner s lay i) (element_in lay w.0 w.1) (paired i w.0 h w.1 w.2)

  -- ---- 12
  pub touch_passes : touching_itself s lay ≡ None
  unfolding touching_itself
  touch_passes = across_passes s lay lay l l (λ t m. segments_in m) (λ t m. segments_in m) ord ord across

  -- the segments of the bytes, each once
  pub segments_sorted : Sorted LeftBefore (segments s lay)
  unfolding segments
  segments_sorted = sorted_map (λ i. (half s lay i).segment) (kept_rise (left_test s lay) lay.count 0) rise
    where
      as_half : (i : ℕ) → left_test s lay i ≡ true → half s lay i ≡ half_of true (half s lay i).segment
      as_half i e =
          ap (λ (b : Bool). half_of b (half s lay i).segment) (true_is (half s lay i).is_left (and_right (has_segments lay.shape) (half s lay i).is_left (is_true (left_test s lay i) e)))

      rise : (i j : ℕ) → i ∈ keep (left_test s lay) (elements lay) → j ∈ keep (left_test s lay) (elements lay) → i < j → LeftBefore (half s lay i).segment (half s lay j).segment
      rise i j m k h =
          let a = keep_in (left_test s lay) (elements lay) m in
          let b = keep_in (left_test s lay) (elements lay) k in
          subst₂ (λ (h k : Halfsegment). T (comes_before h k)) (as_half i a.1) (as_half j b.1)
          (halves_rise s lay r.read order_passes r.has i j h (in_element lay j b.0))

  -- ---- 13 and 14
  module _ (once : Once l) where
    parity_read : (f : Segment → Bool) → parity f (segments s lay) ≡ parity f l
    parity_read = same_parity (segments s lay) l (segments_once segments_sorted) once (λ t m. segments_in m) (λ t m. in_segments m)

    pub odd_read : (f : Segment → Bool) → odd (count f (segments s lay)) ≡ odd (count f l)
    odd_read f = odd_count f (segments s lay) ∙ parity_read f ∙ sym (odd_count f l)

    interior_read : (t : Segment) → interior_above (segments s lay) t ≡ interior_above l t
    unfolding interior_above
    interior_read t =
        ap₂ (λ (a b : Bool). (eq_z t.left.x t.right.x && a) || (not (eq_z t.left.x t.right.x) && not b)) (odd_read (counts_below_left (midpoint t)))
        (odd_read (counts_below (midpoint t)))

    pub ends_pass : Even l → odd_end s lay ≡ None
    unfolding odd_end ends_at
    ends_pass even = no_fault lay (ends_oddly s lay) (λ i h. ap (λ (b : Bool). is_region lay.shape && b) (at (dominating (half s lay i))) ∙ and-false (is_region lay.shape))
      where
        at : (v : Point) → odd (ends_at (segments s lay) (grid v)) ≡ false
        at v =
            odd_read (λ t. is_end t (grid v)) ∙ odd_count (λ t. is_end t (grid v)) l
            ∙ parity_same (λ t. is_end t (grid v)) (λ t. is_same_point t.left v ⊻ is_same_point t.right v) l (λ t m. ends_parity t (ordered_read t (ord t m)) v)
            ∙ even v

    pub ia_passes : wrong_ia s lay ≡ None
    unfolding wrong_ia
    ia_passes = no_fault lay (has_wrong_ia s lay) (λ i h. go i h (is_region lay.shape) refl)
      where
        go : (i : ℕ) → i < lay.count → (b : Bool) → is_region lay.shape ≡ b → has_wrong_ia s lay i ≡ false
        go i h true e =
            ap (λ (b : Bool). is_region lay.shape && not b)
            (subst (λ (b : Bool). beq (ia s lay i) b ≡ true) (r.ia_is e i h ∙ sym (interior_read (half s lay i).segment)) (beq_refl (ia s lay i)))
            ∙ and-false (is_region lay.shape)
        go i h false e = rw e
