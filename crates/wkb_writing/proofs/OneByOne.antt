-- An object's parts one after the other: they are those of its points or its segments, and so many.
use Prim.Native.Nat.{ℕ, zero, suc, ◌+◌, ◌*◌, ◌-◌, ◌<◌}
use native.Mathlib.Omega.{arith}
use native.Mathlib.Numerals.{add-one}
use mathlib.Core.Path.{◌≡◌, refl, sym, ap, ap₂, ◌∙◌}
use mathlib.Core.Bool.{Bool, true, false, cond, ◌&&◌}
use mathlib.Core.List.{List, [], ◌∷◌, ◌++◌, map, append_assoc}
use lib.ListN.{length, length-append, length-map}
use Rattle.whole.specs.Count.{bit}
use Rattle.scene.specs.declared.Shape.{Shape}
use Rattle.scene.specs.declared.Shape.TheVariants.{Points, Line, Region}
use Rattle.scene.specs.declared.Layout.{Layout}
use Rattle.scene.specs.Read.{point_at, halfsegment_at, place}
use Rattle.scene.specs.Conditions.{indices, keep, has_segments, is_region, half, left_test, segments, object}
use Rattle.scene.proofs.Taken.{layout}
use Rattle.wkb_writing.specs.Wkb.{word_bytes, header_bytes, point_part, segment_part, joined, wkb_of}
use Rattle.wkb_writing.specs.Parts.{element_part, parts_from, has_part, count_from, part_length, start_bytes}
use Rattle.wkb_writing.proofs.Lengths.{point_part_long, segment_part_long}

-- ---- how long they are

element_long : (s : List ℕ) (k : Shape) (at : ℕ) → length (element_part s k at) ≡ bit (has_part s k at) * part_length k
element_long s k at = of k
  where
    of_half : (b : Bool) → length (cond b (segment_part (halfsegment_at s at).segment) []) ≡ bit b * 41
    of_half true = segment_part_long (halfsegment_at s at).segment
    of_half false = refl

    of : (k : Shape) → length (element_part s k at) ≡ bit (has_part s k at) * part_length k
    of Points = point_part_long (point_at s at)
    of Line = of_half (halfsegment_at s at).is_left
    of Region = of_half (halfsegment_at s at).is_left

pub parts_long : (s : List ℕ) (l : Layout) (n i : ℕ) → length (parts_from s l n i) ≡ count_from s l n i * part_length l.shape
parts_long s l zero i = omega arith
parts_long s l (suc n) i =
    length-append (element_part s l.shape (place l i)) (parts_from s l n (suc i))
    ∙ sum (bit (has_part s l.shape (place l i))) (count_from s l n (suc i)) (part_length l.shape) (element_long s l.shape (place l i)) (parts_long s l n (suc i))
  where
    sum : (a b c : ℕ) {x y : ℕ} → x ≡ a * c → y ≡ b * c → x + y ≡ (a + b) * c
    sum a b c p q = omega arith

-- ---- one element after the other

module _ (s : List ℕ) (l : Layout) where
  pub parts_next : (i : ℕ) → i < l.count
      → parts_from s l (l.count - i) i ≡ element_part s l.shape (place l i) ++ parts_from s l (l.count - (i + 1)) (i + 1)
  parts_next i h =
      ap (λ (n : ℕ). parts_from s l n i) left
      ∙ ap (λ (j : ℕ). element_part s l.shape (place l i) ++ parts_from s l (l.count - (i + 1)) j) (sym (add-one i))
    where
      left : l.count - i ≡ suc (l.count - (i + 1))
      left = omega arith

-- ---- how many: every point has one, and every segment

pub count_points : (s : List ℕ) (l : Layout) → has_segments l.shape ≡ false → count_from s l l.count 0 ≡ l.count
count_points s l e = of l.shape e l.count 0
  where
    of : (k : Shape) → has_segments k ≡ false → (n i : ℕ) → count_from s (layout k l.start l.count) n i ≡ n
    of Points e zero i = refl
    of Points e (suc n) i = omega (arith, of Points e n (suc i))
    of Line e n i = cc
    of Region e n i = cc

module _ (s : List ℕ) (l : Layout) (e : has_segments l.shape ≡ true) where
  left_has : (i : ℕ) → has_part s l.shape (place l i) ≡ left_test s l i
  left_has i = of l.shape e (place l i) ∙ sym (ap (λ (b : Bool). b && (half s l i).is_left) e)
    where
      of : (k : Shape) → has_segments k ≡ true → (at : ℕ) → has_part s k at ≡ (halfsegment_at s at).is_left
      of Points e at = cc
      of Line e at = refl
      of Region e at = refl

  count_left : (n i : ℕ) → count_from s l n i ≡ length (keep (left_test s l) (indices n i))
  count_left zero i = refl
  count_left (suc n) i = ap (λ (b : Bool). bit b + count_from s l n (suc i)) (left_has i) ∙ go (left_test s l i) (keep (left_test s l) (indices n (suc i))) (count_left n (suc i))
    where
      go : (b : Bool) {m : ℕ} (is : List ℕ) → m ≡ length is → bit b + m ≡ length (cond b (i ∷ is) is)
      go true is h = omega arith
      go false is h = omega arith

  pub count_segments : count_from s l l.count 0 ≡ length (segments s l)
  unfolding segments
  count_segments = count_left l.count 0 ∙ sym (length-map (keep (left_test s l) (indices l.count 0)) (λ i. (half s l i).segment))

-- ---- they are the parts of the object

module _ (s : List ℕ) (start count : ℕ) where
  points_from : (n i : ℕ) → parts_from s (layout Points start count) n i ≡ joined (map point_part (map (λ j. point_at s (place (layout Points start count) j)) (indices n i)))
  points_from zero i = refl
  points_from (suc n) i = ap (λ (r : List ℕ). point_part (point_at s (place (layout Points start count) i)) ++ r) (points_from n (suc i))

  points_count : (n i : ℕ) → count_from s (layout Points start count) n i ≡ length (map point_part (map (λ j. point_at s (place (layout Points start count) j)) (indices n i)))
  points_count zero i = refl
  points_count (suc n) i = omega (arith, points_count n (suc i))

  abbrev l : Layout
  l = layout Line start count

  abbrev of : List ℕ → List (List ℕ)
  of is = map segment_part (map (λ j. (half s l j).segment) is)

  segments_from_lem : (n i : ℕ) → parts_from s l n i ≡ joined (of (keep (left_test s l) (indices n i)))
  segments_from_lem zero i = refl
  segments_from_lem (suc n) i =
      ap (λ (r : List ℕ). cond (half s l i).is_left (segment_part (half s l i).segment) [] ++ r) (segments_from_lem n (suc i))
      ∙ go (half s l i).is_left (keep (left_test s l) (indices n (suc i)))
    where
      go : (b : Bool) (is : List ℕ) → cond b (segment_part (half s l i).segment) [] ++ joined (of is) ≡ joined (of (cond b (i ∷ is) is))
      go true is = refl
      go false is = refl

  wkb_as : (k : Shape) → is_region k ≡ false
      → start_bytes k (count_from s (layout k start count) count 0) ++ parts_from s (layout k start count) count 0 ≡ wkb_of (object s (layout k start count))
  unfolding wkb_of object segments
  wkb_as Points e = append_assoc (header_bytes 4) (word_bytes (count_from s (layout Points start count) count 0)) (parts_from s (layout Points start count) count 0)
      ∙ ap₂ (λ (n : ℕ) (r : List ℕ). header_bytes 4 ++ (word_bytes n ++ r)) (points_count count 0) (points_from count 0)
  wkb_as Line e = append_assoc (header_bytes 5) (word_bytes (count_from s l count 0)) (parts_from s l count 0)
      ∙ ap₂ (λ (n : ℕ) (r : List ℕ). header_bytes 5 ++ (word_bytes n ++ r)) (count_segments s l refl ∙ sym (length-map (segments s l) segment_part)) (segments_from_lem count 0)
  wkb_as Region e = cc

pub wkb_is : (s : List ℕ) (l : Layout) → is_region l.shape ≡ false → start_bytes l.shape (count_from s l l.count 0) ++ parts_from s l l.count 0 ≡ wkb_of (object s l)
wkb_is s l e = wkb_as s l.start l.count l.shape e
