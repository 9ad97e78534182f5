-- The 20 bytes of a good summary are read back as it, and what is read as a good summary has its bytes; so the far question over the bytes of good summaries
-- tells what they tell.
use Prim.Native.Nat.{ℕ, suc, ◌+◌, ◌*◌, ◌≤◌, ◌<◌}
use native.Mathlib.Omega.{arith}
use Rattle.std.specs.Prelude.{Ok}
use native.Mathlib.Decide.{dec_lt}
use mathlib.Core.Path.{◌≡◌, refl, sym, ap, ap₂, ◌∙◌}
use mathlib.Core.Bool.{Bool, true, false, ◌&&◌}
use mathlib.Core.List.{List, [], ◌∷◌, map}
use lib.ListN.{length}
use lib.Dec.{T, leb, eqb, leb→le}
use lib.IntN.{ℤ, nat_abs}
use borrow.Author.Tests.{eqb-true}
use Rattle.whole.specs.Count.{bit}
use Rattle.whole.proofs.Logic.{and_left, and_right, is_true, true_is}
use Rattle.plane.specs.declared.Point.{Point}
use Rattle.plane.specs.Plane.{limit, within, in_range}
use Rattle.scene.specs.declared.Shape.{Shape}
use Rattle.scene.specs.declared.Shape.TheVariants.{Points, Line, Region}
use Rattle.scene.specs.Read.{byte, signed, coordinate, shape_number}
use Rattle.scene.specs.Read as Read
use Rattle.scene.specs.Conditions.{indices}
use Rattle.scene_written.specs.Bytes.{digit}
use Rattle.scene_written.proofs.Stands.{test_back}
use Rattle.scene_written.proofs.ReadBack.{number_back}
use Rattle.scene_written.proofs.Coordinates.{digits_read, digits_again}
use Rattle.summary.specs.declared.Summary.{Summary}
use Rattle.summary.specs.Summary.{good_box, good_for, is_good, size, bytes_of, summary_at, fields_good, fields_good_at, good_at, good_bytes, told_of, asked_of}

read_digits : (z : ℤ) → T (leb (nat_abs z) limit) → signed (digit z 1 + 256 * digit z 256 + 65536 * digit z 65536 + 16777216 * digit z 16777216) ≡ z
read_digits z t = digits_read z (leb→le (nat_abs z) limit t)

-- ---- the record

fields_good_lem : (k : Shape) (e y : Bool) → fields_good 83 (shape_number k) (bit e) (bit y) ≡ true
fields_good_lem Points true true = refl
fields_good_lem Points true false = refl
fields_good_lem Points false true = refl
fields_good_lem Points false false = refl
fields_good_lem Line true true = refl
fields_good_lem Line true false = refl
fields_good_lem Line false true = refl
fields_good_lem Line false false = refl
fields_good_lem Region true true = refl
fields_good_lem Region true false = refl
fields_good_lem Region false true = refl
fields_good_lem Region false false = refl

pub read_back : (s : Summary) → T (good_box s.bounds) → summary_at (bytes_of s) 0 ≡ s
unfolding good_box within coordinate
read_back s g =
    λ i. record {
      shape = number_back s.shape i;
      empty = test_back s.empty refl i;
      bounds = record { least = record { x = read_digits p.x (and_left (ok p.x) (ok p.y) low) i; y = read_digits p.y (and_right (ok p.x) (ok p.y) low) i }; greatest = record { x = read_digits q.x (and_left (ok q.x) (ok q.y) high) i; y = read_digits q.y (and_right (ok q.x) (ok q.y) high) i } };
      boundary = test_back s.boundary refl i;
    }
  where
    p : Point
    p = s.bounds.least

    q : Point
    q = s.bounds.greatest

    ok : ℤ → Bool
    ok z = leb (nat_abs z) limit

    both : T (in_range s.bounds.least && in_range s.bounds.greatest)
    both = and_left (in_range p && in_range q) _ (and_left (in_range p && in_range q && _) _ g)

    low : T (in_range s.bounds.least)
    low = and_left (in_range p) (in_range q) both

    high : T (in_range s.bounds.greatest)
    high = and_right (in_range p) (in_range q) both

-- the bytes of a good summary are good
box_of : (s : Summary) → T (is_good s) → T (good_box s.bounds)
box_of s t = and_left (good_box s.bounds) (good_for s.shape s.empty s.bounds s.boundary) t

pub good_bytes_lem : (s : Summary) → T (is_good s) → good_bytes (bytes_of s) ≡ true
unfolding good_bytes good_at
good_bytes_lem s t = ap₂ ◌&&◌ (fields_good_lem s.shape s.empty s.boundary) (ap is_good (read_back s (box_of s t)) ∙ true_is (is_good s) t)

-- and what good bytes hold is a good summary
pub good_summary : (r : List ℕ) → good_bytes r ≡ true → T (is_good (summary_at r 0))
unfolding good_bytes good_at
good_summary r e = and_right (fields_good_at r 0) (is_good (summary_at r 0)) (and_right (eqb (length r) size) (fields_good_at r 0 && is_good (summary_at r 0)) (is_true _ e))

-- ---- bytes that are good are those of the summary that they hold

-- a list read number by number
listed : (f : ℕ → ℕ) (r : List ℕ) (j : ℕ) → ((i : ℕ) → i < length r → f (j + i) ≡ byte r i) → map f (indices (length r) j) ≡ r
listed f [] j h = refl
listed f (n ∷ r) j h = ap₂ (λ (x : ℕ) (l : List ℕ). x ∷ l) (ap f none ∙ h 0 (omega arith)) (listed f r (suc j) (λ i b. ap f (along i) ∙ h (suc i) (omega arith)))
  where
    none : j ≡ j + 0
    none = omega arith

    along : (i : ℕ) → suc j + i ≡ j + suc i
    along i = omega arith

shape_again : (n : ℕ) → 1 ≤ n → n ≤ 3 → shape_number (Read.shape_of n) ≡ n
unfolding Read.shape_of
shape_again n h k = go (dec_lt n 2) (dec_lt n 3)
  where
    go : Dec (n < 2) → Dec (n < 3) → shape_number (Read.shape_of n) ≡ n
    go (yes a) b = let e : n ≡ 1 = omega arith in rw e
    go (no a) (yes b) = let e : n ≡ 2 = omega arith in rw e
    go (no a) (no b) = let e : n ≡ 3 = omega arith in rw e

bit_again : (n : ℕ) → n ≤ 1 → bit (eqb n 1) ≡ n
bit_again n h = go (dec_lt n 1)
  where
    go : Dec (n < 1) → bit (eqb n 1) ≡ n
    go (yes k) = let e : n ≡ 0 = omega arith in rw e
    go (no k) = let e : n ≡ 1 = omega arith in rw e

module _ (r : List ℕ) (bytes : (i : ℕ) → byte r i < 256) where
  pub record_again : good_bytes r ≡ true → bytes_of (summary_at r 0) ≡ r
  unfolding good_bytes good_at
  record_again e = fields ∙ ap (λ (n : ℕ). map (byte r) (indices n 0)) (sym whole) ∙ listed (byte r) r 0 (λ i h. ap (byte r) (none i))
    where
      none : (i : ℕ) → 0 + i ≡ i
      none i = omega arith

      t : T (eqb (length r) size && (fields_good_at r 0 && is_good (summary_at r 0)))
      t = is_true _ e

      whole : length r ≡ size
      whole = eqb-true (length r) size (true_is (eqb (length r) size) (and_left (eqb (length r) size) (fields_good_at r 0 && is_good (summary_at r 0)) t))

      good : T (fields_good_at r 0)
      good = and_left (fields_good_at r 0) (is_good (summary_at r 0)) (and_right (eqb (length r) size) (fields_good_at r 0 && is_good (summary_at r 0)) t)

      kind_and_type : T (eqb (byte r 0) 83 && (leb 1 (byte r 1) && leb (byte r 1) 3))
      kind_and_type = and_left (eqb (byte r 0) 83 && (leb 1 (byte r 1) && leb (byte r 1) 3)) (leb (byte r 2) 1 && leb (byte r 19) 1) good

      kind : 83 ≡ byte r 0
      kind = sym (eqb-true (byte r 0) 83 (true_is (eqb (byte r 0) 83) (and_left (eqb (byte r 0) 83) (leb 1 (byte r 1) && leb (byte r 1) 3) kind_and_type)))

      type : T (leb 1 (byte r 1) && leb (byte r 1) 3)
      type = and_right (eqb (byte r 0) 83) (leb 1 (byte r 1) && leb (byte r 1) 3) kind_and_type

      yes_or_no : T (leb (byte r 2) 1 && leb (byte r 19) 1)
      yes_or_no = and_right (eqb (byte r 0) 83 && (leb 1 (byte r 1) && leb (byte r 1) 3)) (leb (byte r 2) 1 && leb (byte r 19) 1) good

      fields : bytes_of (summary_at r 0) ≡ map (byte r) (indices size 0)
      fields = λ i.
          kind i
          ∷ shape_again (byte r 1) (leb→le 1 (byte r 1) (and_left (leb 1 (byte r 1)) (leb (byte r 1) 3) type)) (leb→le (byte r 1) 3 (and_right (leb 1 (byte r 1)) (leb (byte r 1) 3) type)) i
          ∷ bit_again (byte r 2) (leb→le (byte r 2) 1 (and_left (leb (byte r 2) 1) (leb (byte r 19) 1) yes_or_no)) i
          ∷ (digits_again r bytes 3).0 i
          ∷ (digits_again r bytes 3).1 i
          ∷ (digits_again r bytes 3).2 i
          ∷ (digits_again r bytes 3).3 i
          ∷ (digits_again r bytes 7).0 i
          ∷ (digits_again r bytes 7).1 i
          ∷ (digits_again r bytes 7).2 i
          ∷ (digits_again r bytes 7).3 i
          ∷ (digits_again r bytes 11).0 i
          ∷ (digits_again r bytes 11).1 i
          ∷ (digits_again r bytes 11).2 i
          ∷ (digits_again r bytes 11).3 i
          ∷ (digits_again r bytes 15).0 i
          ∷ (digits_again r bytes 15).1 i
          ∷ (digits_again r bytes 15).2 i
          ∷ (digits_again r bytes 15).3 i
          ∷ bit_again (byte r 19) (leb→le (byte r 19) 1 (and_right (leb (byte r 2) 1) (leb (byte r 19) 1) yes_or_no)) i
          ∷ []

-- ---- the far question over the bytes of good summaries

pub asked_good : (s t : Summary) → T (is_good s) → T (is_good t) → asked_of (bytes_of s) (bytes_of t) ≡ Ok (told_of s t)
unfolding asked_of
asked_good s t g h = rw (good_bytes_lem s g, good_bytes_lem t h, read_back s (box_of s g), read_back t (box_of t h))
