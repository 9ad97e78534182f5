-- The elements of an object one after the other: what is left of them from the element i on, of a search, a count and the earliest fault; and one
-- step of a walk over its segments.
use Rattle.std.specs.Prelude.{None, Some}
use Prim.Native.Nat.{ℕ, suc, ◌+◌, ◌-◌, ◌<◌, ◌≤◌}
use native.Mathlib.Omega.{arith}
use native.Mathlib.Numerals.{add-one}
use mir.Val.{bool_byte}
use mathlib.Core.Path.{◌≡◌, refl, sym, ap, subst, ◌∙◌}
use mathlib.Core.Bool.{Bool, true, false, ◌&&◌, ◌||◌, cond}
use mathlib.Core.List.{List, [], ◌∷◌, map}
use lib.ListN.{length}
use lib.Dec.{T}
use Rattle.whole.specs.Count.{bit, some, count}
use Rattle.plane.specs.declared.Segment.{Segment}
use Rattle.plane.specs.Plane.{segment_in_range, ordered}
use Rattle.scene.specs.declared.Shape.{Shape}
use Rattle.scene.specs.declared.Shape.TheVariants.{Points, Line, Region}
use Rattle.scene.specs.declared.Layout.{Layout}
use Rattle.scene.specs.Read.{place, after, most, IsObject}
use Rattle.scene.specs.Conditions.{indices, elements, keep, has_segments, half, left_test, segments, earliest}
use Rattle.scene.proofs.Taken.{taken_object}
use Rattle.plane.specs.declared.Halfsegment.{Halfsegment}
use Rattle.scene_segments.specs.Walked.{left_with}

-- the numbers from i up to n
abbrev pub between : ℕ → ℕ → List ℕ
between i n = indices (n - i) i

pub all_between : (n : ℕ) → indices n 0 ≡ between 0 n
all_between n = rw all
  where
    all : n - 0 ≡ n
    all = omega arith

pub between_next : (i n : ℕ) → i < n → between i n ≡ i ∷ between (i + 1) n
between_next i n h = rw (left, add-one i)
  where
    left : n - i ≡ suc (n - (i + 1))
    left = omega arith

pub between_none : (i n : ℕ) → n ≤ i → between i n ≡ []
between_none i n h = rw none
  where
    none : n - i ≡ 0
    none = omega arith

pub byte_bit : (b : Bool) → bool_byte b ≡ bit b
byte_bit true = refl
byte_bit false = refl

pub byte_small : (b : Bool) → bool_byte b ≤ 1
byte_small true = omega arith
byte_small false = omega arith

-- ---- a search, a count and the earliest fault, from the number i on

module _ (f : ℕ → Bool) (i n : ℕ) where
  pub count_next : i < n → count f (between i n) ≡ bit (f i) + count f (between (i + 1) n)
  count_next h = rw (between_next i n h)

  -- as a loop counts, which adds the test's answer as a number
  pub count_on : (m k : ℕ) → i < n → k ≡ m + count f (between i n) → {r : Bool} → f i ≡ r → k ≡ m + bool_byte r + count f (between (i + 1) n)
  count_on m k h e {r} q = omega (arith, e, count_next h, byte_bit (f i), ap bool_byte q)

  pub count_none : n ≤ i → count f (between i n) ≡ 0
  count_none h = rw (between_none i n h)

module _ (l : Layout) (wrong : ℕ → Bool) (i n : ℕ) where
  pub earliest_here : i < n → wrong i ≡ true → earliest l wrong (between i n) ≡ Some (place l i)
  earliest_here h e = rw (between_next i n h, e)

  pub earliest_later : i < n → wrong i ≡ false → earliest l wrong (between i n) ≡ earliest l wrong (between (i + 1) n)
  earliest_later h e = rw (between_next i n h, e)

  pub earliest_none : n ≤ i → earliest l wrong (between i n) ≡ None
  earliest_none h = rw (between_none i n h)

-- ---- the segments of an object, by the elements that are left halfsegments

module _ (s : List ℕ) (l : Layout) where
  pub no_segments : has_segments l.shape ≡ false → segments s l ≡ []
  unfolding segments
  no_segments e = go (elements l)
    where
      go : (is : List ℕ) → map (λ i. (half s l i).segment) (keep (left_test s l) is) ≡ []
      go [] = refl
      go (i ∷ is) = rw e (go is)

  module _ (f : Segment → Bool) where
    abbrev pub left_passes : ℕ → Bool
    left_passes i = left_test s l i && f (half s l i).segment

    segments_if : Bool → ℕ → List ℕ → List Segment
    segments_if b i is = map (λ j. (half s l j).segment) (cond b (i ∷ is) is)

    pub some_segments : some f (segments s l) ≡ some left_passes (between 0 l.count)
    unfolding segments segments_if
    some_segments = go (elements l) ∙ ap (some left_passes) (all_between l.count)
      where
        at : (b : Bool) (i : ℕ) (is : List ℕ) → some f (segments_if b i is) ≡ (b && f (half s l i).segment) || some f (segments_if false i is)
        at true i is = refl
        at false i is = refl

        go : (is : List ℕ) → some f (segments_if false 0 (keep (left_test s l) is)) ≡ some left_passes is
        go [] = refl
        go (i ∷ is) = at (left_test s l i) i (keep (left_test s l) is) ∙ ap (λ (x : Bool). left_passes i || x) (go is)

    pub count_segments : count f (segments s l) ≡ count left_passes (between 0 l.count)
    unfolding segments segments_if
    count_segments = go (elements l) ∙ ap (count left_passes) (all_between l.count)
      where
        at : (b : Bool) (i : ℕ) (is : List ℕ) → count f (segments_if b i is) ≡ bit (b && f (half s l i).segment) + count f (segments_if false i is)
        at true i is = refl
        at false i is = omega arith

        go : (is : List ℕ) → count f (segments_if false 0 (keep (left_test s l) is)) ≡ count left_passes is
        go [] = refl
        go (i ∷ is) = at (left_test s l i) i (keep (left_test s l) is) ∙ ap (λ (x : ℕ). bit (left_passes i) + x) (go is)

-- ---- an object ends within the bytes

pub object_fits : (s : List ℕ) (l : Layout) → IsObject s l → after l ≤ length s
object_fits s l is = (taken_object s l.start l is).ends

pub few_elements : (s : List ℕ) (l : Layout) → IsObject s l → l.count ≤ most
few_elements s l is = (taken_object s l.start l is).few

pub place_fits : (l : Layout) (k : ℕ) → k ≤ l.count → place l k < after l
place_fits l k h = go l.shape
  where
    go : (shape : Shape) → place (record { shape = shape; start = l.start; count = l.count }) k < after (record { shape = shape; start = l.start; count = l.count })
    go Points = omega arith
    go Line = omega arith
    go Region = omega arith

-- ---- one step of a walk over the segments: the element i, as the code reads it

module _ (s : List ℕ) (l : Layout) (i : ℕ) (has : has_segments l.shape ≡ true) {h : Halfsegment} (is : h ≡ half s l i) where
  pub passes_is : (f : Segment → Bool) → left_passes s l f i ≡ left_with f h
  passes_is f = rw (is, has) refl

module _ {t u : Segment} (e : t ≡ u) where
  pub in_range_at : T (segment_in_range u) → T (segment_in_range t)
  in_range_at r = subst (λ (t : Segment). T (segment_in_range t)) (sym e) r

  pub in_order_at : T (ordered u) → T (ordered t)
  in_order_at r = subst (λ (t : Segment). T (ordered t)) (sym e) r
