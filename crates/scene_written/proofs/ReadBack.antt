-- What is written is read back: the bytes of an object, wherever they stand, are read as an object of its type with as many elements, and each
-- element's record is read as the element.
use Rattle.std.specs.Prelude.{Ok}
use Prim.Native.Nat.{ℕ, zero, suc, ◌+◌, ◌*◌, ◌<◌, ◌≤◌}
use native.Mathlib.Nat.{not-suc-le-zero, le_of_suc-le-suc}
use native.Mathlib.Omega.{arith}
use mathlib.Core.Path.{◌≡◌, refl, ap, ap₂, subst, ◌∙◌}
use mathlib.Core.Bool.{Bool, true, false, ◌&&◌}
use mathlib.Core.List.{List, [], ◌∷◌, map}
use lib.ListN.{length, get_or, length-append}
use lib.Dec.{leb, eqb}
use lib.IntN.{pos}
use borrow.Author.Tests.{ne_eqb, le-leb}
use Rattle.whole.specs.Count.{◌∈◌}
use Rattle.whole.proofs.Logic.{in_at}
use Rattle.plane.specs.declared.Point.{Point}
use Rattle.plane.specs.declared.Halfsegment.{Halfsegment}
use Rattle.scene.specs.declared.Shape.{Shape}
use Rattle.scene.specs.declared.Shape.TheVariants.{Points, Line, Region}
use Rattle.scene.specs.declared.Kind.TheVariants.{Start, Element, End}
use Rattle.scene.specs.Read.{byte, kind_of, shape_number, shape_of, stands_in, starts_object, record_at, size, place, after, most, elements_from, read_object, read_alone}
use Rattle.scene.specs.Conditions.{indices, elements}
use Rattle.scene.proofs.Passed.{whole_body}
use Rattle.scene.proofs.Taken.{layout, rest, record_of, ends_here, goes_on}
use Rattle.scene_written.specs.Bytes.{Item, item_at, GoodItem, record_bytes, records_of, bytes_of}
use Rattle.scene_written.proofs.Stands.{Stands, stands_here, stands_after, stands_before, stands_in_lem, at_byte, record_length, item_back, record_good, all_good}

-- ---- where each record stands

module _ (k : Shape) where
  pub records_length : (xs : List (Item k)) → length (records_of k xs) ≡ length xs * size k
  records_length [] = omega arith
  records_length (x ∷ xs) = length-append (record_bytes k x) (records_of k xs) ∙ sum (records_length xs)
    where
      sum : length (records_of k xs) ≡ length xs * size k → length (record_bytes k x) + length (records_of k xs) ≡ suc (length xs) * size k
      sum e = omega (arith, record_length k x)

  pub bytes_length : (xs : List (Item k)) → length (bytes_of k xs) ≡ 2 + length xs * size k + 1
  bytes_length xs = omega (arith, length-append (records_of k xs) (69 ∷ []), records_length xs)

  record_stands : (xs : List (Item k)) (d : Item k) (i : ℕ) → i < length xs → Stands (records_of k xs) (i * size k) (record_bytes k (get_or xs i d))
  record_stands [] d i h = absurd (not-suc-le-zero h)
  record_stands (x ∷ xs) d zero h =
      subst (λ (o : ℕ). Stands (records_of k (x ∷ xs)) o (record_bytes k x)) none (stands_here (record_bytes k x) (records_of k xs))
    where
      none : 0 ≡ 0 * size k
      none = omega arith
  record_stands (x ∷ xs) d (suc i) h =
      subst (λ (o : ℕ). Stands (records_of k (x ∷ xs)) o (record_bytes k (get_or xs i d))) along
      (stands_after (record_bytes k x) (record_stands xs d i (le_of_suc-le-suc h)))
    where
      along : length (record_bytes k x) + i * size k ≡ suc i * size k
      along = omega (arith, record_length k x)

  element_stands : (xs : List (Item k)) (d : Item k) (i : ℕ) → i < length xs → Stands (bytes_of k xs) (2 + i * size k) (record_bytes k (get_or xs i d))
  element_stands xs d i h = stands_after (84 ∷ shape_number k ∷ []) (stands_before (69 ∷ []) (record_stands xs d i h))

  end_stands : (xs : List (Item k)) → Stands (bytes_of k xs) (2 + length xs * size k) (69 ∷ [])
  end_stands xs =
      subst (λ (o : ℕ). Stands (bytes_of k xs) o (69 ∷ [])) along
      (stands_after (84 ∷ shape_number k ∷ []) (stands_after (records_of k xs) (stands_here (69 ∷ []) [])))
    where
      along : 2 + (length (records_of k xs) + 0) ≡ 2 + length xs * size k
      along = omega (arith, records_length xs)

-- ---- reading

-- elements that 4 and 5 take
abbrev pub AllGood : (k : Shape) → List (Item k) → Type 0
AllGood k xs = (x : Item k) → x ∈ xs → GoodItem k x

pub number_back : (k : Shape) → shape_of (shape_number k) ≡ k
unfolding shape_of
number_back Points = refl
number_back Line = refl
number_back Region = refl

number_good : (k : Shape) → leb 1 (shape_number k) && leb (shape_number k) 3 ≡ true
number_good Points = refl
number_good Line = refl
number_good Region = refl

-- what stands where no element does
abbrev pub origin : Point
origin = record { x = pos 0; y = pos 0 }

abbrev pub nowhere : Halfsegment
nowhere = record { segment = record { left = origin; right = origin }; is_left = false }

abbrev an_item : (k : Shape) → Item k
an_item Points = origin
an_item Line = nowhere
an_item Region = record { half = nowhere; ia = false }

module _ (s : List ℕ) (start : ℕ) (k : Shape) (xs : List (Item k)) (written : Stands s start (bytes_of k xs)) where
  stands_at : (d : Item k) (i : ℕ) → i < length xs → Stands s (start + 2 + i * size k) (record_bytes k (get_or xs i d))
  stands_at d i h = subst (λ (o : ℕ). Stands s o (record_bytes k (get_or xs i d))) along (stands_in_lem written (element_stands k xs d i h))
    where
      along : start + (2 + i * size k) ≡ start + 2 + i * size k
      along = omega arith

  end_at : Stands s (start + 2 + length xs * size k) (69 ∷ [])
  end_at = subst (λ (o : ℕ). Stands s o (69 ∷ [])) along (stands_in_lem written (end_stands k xs))
    where
      along : start + (2 + length xs * size k) ≡ start + 2 + length xs * size k
      along = omega arith

  shape_byte : byte s (start + 1) ≡ shape_number k
  shape_byte = at_byte written (start + 1) 1 refl (omega (arith, bytes_length k xs))

  type_read : record_at s start starts_object false ≡ Ok Start
  unfolding kind_of
  type_read =
      whole_body s start starts_object false Start (omega (arith, written.fits, bytes_length k xs))
      (ap kind_of (at_byte written start 0 (omega arith) (omega (arith, bytes_length k xs)))) refl refl (omega (arith, written.fits, bytes_length k xs))
      ∙ all_good start (Ok Start) (ap (λ (n : ℕ). leb 1 n && leb n 3) shape_byte ∙ number_good k) refl refl

  end_read : (full : Bool) → record_at s (start + 2 + length xs * size k) (stands_in k) full ≡ Ok End
  unfolding kind_of
  end_read full =
      whole_body s (start + 2 + length xs * size k) (stands_in k) full End (omega (arith, end_at.fits))
      (ap kind_of (at_byte end_at (start + 2 + length xs * size k) 0 (omega arith) (omega arith))) refl refl (omega (arith, end_at.fits))

  module _ (good : AllGood k xs) where
    -- element i, read at its place
    pub element_back : (d : Item k) (i : ℕ) → i < length xs → item_at k s (place (layout k start (length xs)) i) ≡ get_or xs i d
    element_back d i h = item_back k (get_or xs i d) (good (get_or xs i d) (in_at xs d i h)) (stands_at d i h)

    module _ (few : length xs ≤ most) where
      element_read : (n : ℕ) → n < length xs → record_of s k start n ≡ Ok (Element k)
      element_read n h =
          rw (ne_eqb n most (λ q. omega arith))
          (record_good k (get_or xs n (an_item k)) (good (get_or xs n (an_item k)) (in_at xs (an_item k) n h)) (stands_at (an_item k) n h))

      rest_read : (m n : ℕ) → n + m ≡ length xs → rest s k start n ≡ Ok (layout k start (length xs))
      rest_read zero n e =
          subst (λ (n : ℕ). rest s k start n ≡ Ok (layout k start (length xs))) same
          (ends_here s k start (length xs) few End (end_read (eqb (length xs) most)) refl)
        where
          same : length xs ≡ n
          same = omega arith
      rest_read (suc m) n e =
          (goes_on s k start n (omega arith) (Element k) (element_read n (omega arith)) refl).on ∙ rest_read m (n + 1) (omega arith)

      -- the object is read, whatever stands before it and after it
      pub object_back : read_object s start ≡ Ok (layout k start (length xs))
      unfolding read_object
      object_back =
          rw type_read
          (ap (λ (j : Shape). elements_from s most (layout j start 0)) (ap shape_of shape_byte ∙ number_back k) ∙ rest_read (length xs) 0 (omega arith))

    -- and its elements, one after the other, are those that were written
    pub elements_back : map (λ i. item_at k s (place (layout k start (length xs)) i)) (elements (layout k start (length xs))) ≡ xs
    elements_back = go xs 0 (λ i h. ap read (none i) ∙ element_back (an_item k) i h)
      where
        read : ℕ → Item k
        read i = item_at k s (place (layout k start (length xs)) i)

        none : (i : ℕ) → 0 + i ≡ i
        none i = omega arith

        first : (j : ℕ) (y : Item k) (ys : List (Item k)) → ((i : ℕ) → i < suc (length ys) → read (j + i) ≡ get_or (y ∷ ys) i (an_item k)) → read j ≡ y
        first j y ys h = ap read none ∙ h 0 (omega arith)
          where
            none : j ≡ j + 0
            none = omega arith

        later : (j : ℕ) (y : Item k) (ys : List (Item k)) → ((i : ℕ) → i < suc (length ys) → read (j + i) ≡ get_or (y ∷ ys) i (an_item k))
            → (i : ℕ) → i < length ys → read (suc j + i) ≡ get_or ys i (an_item k)
        later j y ys h i b = ap read along ∙ h (suc i) (omega arith)
          where
            along : suc j + i ≡ j + suc i
            along = omega arith

        go : (ys : List (Item k)) (j : ℕ) → ((i : ℕ) → i < length ys → read (j + i) ≡ get_or ys i (an_item k)) → map read (indices (length ys) j) ≡ ys
        go [] j h = refl
        go (y ∷ ys) j h = ap₂ (λ (x : Item k) (l : List (Item k)). x ∷ l) (first j y ys h) (go ys (suc j) (later j y ys h))

-- ---- an object by itself

pub stands_whole : (bs : List ℕ) → Stands bs 0 bs
stands_whole bs = record { fits = omega arith; same = λ i h. ap (byte bs) (none i) }
  where
    none : (i : ℕ) → 0 + i ≡ i
    none i = omega arith

pub alone_back : (k : Shape) (xs : List (Item k)) → AllGood k xs → length xs ≤ most → read_alone (bytes_of k xs) ≡ Ok (layout k 0 (length xs))
unfolding read_alone
alone_back k xs good few = rw (object_back (bytes_of k xs) 0 k xs (stands_whole (bytes_of k xs)) good few, le-leb (length (bytes_of k xs)) (after (layout k 0 (length xs))) ends)
  where
    ends : length (bytes_of k xs) ≤ after (layout k 0 (length xs))
    ends = omega (arith, bytes_length k xs)
