-- What is written of segments is read back: both halves of each and no others, and if condition 10 finds no fault in them they are in strict order.
use Rattle.std.specs.Prelude.{None, Ok}
use Prim.Native.Nat.{ℕ, suc, ◌*◌, ◌<◌, ◌≤◌}
use native.Mathlib.Omega.{arith}
use mathlib.Core.Path.{◌≡◌, refl, sym, ap, subst, subst₂, ◌∙◌}
use mathlib.Core.Logic.{⊎_elim, inr}
use mathlib.Core.Bool.{Bool, true, false, false≢true}
use mathlib.Core.List.{List, [], ◌∷◌, map}
use lib.ListN.{length, get_or, get_or-map}
use lib.Dec.{T}
use Rattle.whole.specs.Count.{◌∈◌, here, there}
use Rattle.whole.proofs.Logic.{in_nil, in_cons, in_index, Sorted, sorted_nil, sorted_cons}
use Rattle.plane.specs.declared.Segment.{Segment}
use Rattle.plane.specs.declared.Halfsegment.{Halfsegment}
use Rattle.plane.specs.Plane.{comes_before}
use Rattle.plane.proofs.Order.{half_of}
use Rattle.scene.specs.declared.Shape.{Shape}
use Rattle.scene.specs.declared.Shape.TheVariants.{Points, Line, Region}
use Rattle.scene.specs.Read.{place, most, read_object, read_alone}
use Rattle.scene.specs.Conditions.{elements, has_segments, half, out_of_order}
use Rattle.scene.proofs.Taken.{layout}
use Rattle.scene_segments.proofs.Indices.{halves_rise}
use Rattle.scene_written.specs.Bytes.{Edge, item_at, GoodSegment, bytes_of}
use Rattle.scene_written.specs.Arranged.{halves_of}
use Rattle.scene_written.proofs.Stands.{Stands}
use Rattle.scene_written.proofs.ReadBack.{AllGood, nowhere, object_back, alone_back, element_back, elements_back}
use Rattle.scene_written.proofs.Arranging.{halves_in, in_halves, halves_length}
use Rattle.scene_writing.specs.Settled.{settle, edges_of, edge_before, HasIa, settled_items}
use Rattle.scene_writing.proofs.Settling.{settle_members, settle_keeps, settle_length, settle_map}

-- ---- a list whose elements rise by index

rising_sorted : {A : Type 0} (R : A → A → Type 0) (l : List A) (d : A) → ((i j : ℕ) → i < j → j < length l → R (get_or l i d) (get_or l j d)) → Sorted R l
rising_sorted R [] d h = sorted_nil
rising_sorted {A} R (a ∷ l) d h = sorted_cons later (rising_sorted R l d (λ i j p q. h (suc i) (suc j) (omega arith) (omega arith)))
  where
    later : (b : A) → b ∈ l → R a b
    later b m = let w = in_index d m in subst (R a) w.2 (h 0 (suc w.0) (omega arith) (omega (arith, w.1)))

-- ---- which, and how many

edges_length : (l : List Segment) (ias : List Bool) → length ias ≡ length l → length (edges_of l ias) ≡ 2 * length l
edges_length [] ias e = refl
edges_length (t ∷ l) [] e = absurd (omega arith)
edges_length (t ∷ l) (b ∷ ias) e = let h = edges_length l ias (omega arith) in omega arith

edges_in : (l : List Segment) (ias : List Bool) {e : Edge} → e ∈ edges_of l ias → e.half.segment ∈ l
edges_in [] ias m = absurd (in_nil m)
edges_in (t ∷ l) [] m = absurd (in_nil m)
edges_in (t ∷ l) (b ∷ ias) {e} m = ⊎_elim of (λ k. ⊎_elim of (λ n. there (edges_in l ias n)) (in_cons k)) (in_cons m)
  where
    of : {d : Bool} → e ≡ record { half = half_of d t; ia = b } → e.half.segment ∈ (t ∷ l)
    of q = subst (λ (u : Segment). u ∈ (t ∷ l)) (sym (ap (λ (x : Edge). x.half.segment) q)) here

edges_halves : (l : List Segment) (ias : List Bool) → length ias ≡ length l → map (λ e. e.half) (edges_of l ias) ≡ halves_of l
edges_halves [] ias e = refl
edges_halves (t ∷ l) [] e = absurd (omega arith)
edges_halves (t ∷ l) (b ∷ ias) e = ap (λ (r : List Halfsegment). half_of true t ∷ half_of false t ∷ r) (edges_halves l ias (omega arith))

module _ (l : List Segment) where
  -- a line has the halves of the segments, and no others
  pub line_both : (ias : List Bool) (d : Bool) {t : Segment} → t ∈ l → half_of d t ∈ settled_items Line l ias
  unfolding settled_items
  line_both ias d m = settle_keeps comes_before [] (halves_of l) (inr (in_halves d m))

  pub line_in : (ias : List Bool) {h : Halfsegment} → h ∈ settled_items Line l ias → h.segment ∈ l
  unfolding settled_items
  line_in ias m = ⊎_elim (λ k. absurd (in_nil k)) (halves_in l) (settle_members comes_before [] (halves_of l) m)

  -- and a region's halves are those of the line
  pub region_halves : (ias : List Bool) → length ias ≡ length l → map (λ e. e.half) (settled_items Region l ias) ≡ settled_items Line l ias
  unfolding settled_items
  region_halves ias e = settle_map (λ (x : Edge). x.half) comes_before [] (edges_of l ias) ∙ ap (settle comes_before []) (edges_halves l ias e)

  pub region_in : (ias : List Bool) {e : Edge} → e ∈ settled_items Region l ias → e.half.segment ∈ l
  unfolding settled_items
  region_in ias m = ⊎_elim (λ k. absurd (in_nil k)) (edges_in l ias) (settle_members edge_before [] (edges_of l ias) m)

module _ (k : Shape) (has : has_segments k ≡ true) (l : List Segment) (ias : List Bool) (ia : HasIa k l ias) where
  pub settled_length : length (settled_items k l ias) ≡ 2 * length l
  unfolding settled_items
  settled_length = go k has ia
    where
      go : (k : Shape) → has_segments k ≡ true → HasIa k l ias → length (settled_items k l ias) ≡ 2 * length l
      go Points e s = absurd (false≢true e)
      go Line e s = settle_length comes_before [] (halves_of l) ∙ omega (arith, halves_length l)
      go Region e s = settle_length edge_before [] (edges_of l ias) ∙ omega (arith, edges_length l ias s)

  -- ---- read back

  module _ (good : (t : Segment) → t ∈ l → GoodSegment t) (few : length l ≤ 512) where
    settled_good : AllGood k (settled_items k l ias)
    settled_good = go k has
      where
        go : (k : Shape) → has_segments k ≡ true → AllGood k (settled_items k l ias)
        go Points e = absurd (false≢true e)
        go Line e = λ x m. good x.segment (line_in l ias m)
        go Region e = λ x m. good x.half.segment (region_in l ias m)

    settled_few : length (settled_items k l ias) ≤ most
    settled_few = omega (arith, settled_length)

    -- alone: an object of twice as many elements
    pub settled_alone : read_alone (bytes_of k (settled_items k l ias)) ≡ Ok (layout k 0 (2 * length l))
    settled_alone =
        alone_back k (settled_items k l ias) settled_good settled_few ∙ ap (λ (n : ℕ). Ok (layout k 0 n)) settled_length

    -- or wherever it stands
    module _ (s : List ℕ) (start : ℕ) (stands : Stands s start (bytes_of k (settled_items k l ias))) where
      pub settled_back : read_object s start ≡ Ok (layout k start (2 * length l))
      settled_back =
          object_back s start k (settled_items k l ias) stands settled_good settled_few ∙ ap (λ (n : ℕ). Ok (layout k start n)) settled_length

      -- the elements are those that were written
      pub settled_elements : map (λ i. item_at k s (place (layout k start (2 * length l)) i)) (elements (layout k start (2 * length l))) ≡ settled_items k l ias
      settled_elements =
          subst (λ (n : ℕ). map (λ i. item_at k s (place (layout k start n) i)) (elements (layout k start n)) ≡ settled_items k l ias) settled_length
          (elements_back s start k (settled_items k l ias) stands settled_good)

      -- if condition 10 finds no fault in them, they are in strict order
      pub settled_rises : out_of_order s (layout k start (2 * length l)) ≡ None → Sorted (λ h j. T (comes_before h j)) (settle comes_before [] (halves_of l))
      unfolding settled_items
      settled_rises order =
          rising_sorted (λ h j. T (comes_before h j)) (settle comes_before [] (halves_of l)) nowhere
          (λ i j p q. subst₂ (λ (h g : Halfsegment). T (comes_before h g)) (half_is k has ia stands i (omega (arith, many))) (half_is k has ia stands j (omega (arith, many)))
          (halves_rise s (layout k start (2 * length l)) settled_back order has i j p (omega (arith, many))))
        where
          many : length (settle comes_before [] (halves_of l)) ≡ 2 * length l
          many = settle_length comes_before [] (halves_of l) ∙ omega (arith, halves_length l)

          half_is : (k : Shape) → has_segments k ≡ true → HasIa k l ias → Stands s start (bytes_of k (settled_items k l ias)) → (i : ℕ) → i < 2 * length l
              → half s (layout k start (2 * length l)) i ≡ get_or (settle comes_before [] (halves_of l)) i nowhere
          half_is Points e a w i h = absurd (false≢true e)
          half_is Line e a w i h = element_back s start Line (settled_items Line l ias) w (λ x m. good x.segment (line_in l ias m)) nowhere i (omega (arith, many))
          half_is Region e a w i h =
              ap (λ (x : Edge). x.half)
              (element_back s start Region (settled_items Region l ias) w (λ x m. good x.half.segment (region_in l ias m)) (record { half = nowhere; ia = false }) i
              (omega (arith, settle_length edge_before [] (edges_of l ias), edges_length l ias a)))
              ∙ sym (get_or-map (λ (x : Edge). x.half) (settled_items Region l ias) i (record { half = nowhere; ia = false }))
              ∙ ap (λ (m : List Halfsegment). get_or m i nowhere) (region_halves l ias a)
