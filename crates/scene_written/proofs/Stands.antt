-- Bytes that stand at an offset; and what an element's record is read as, where its bytes stand.
use Rattle.scene.specs.declared.Reason.TheVariants.{WrongField, OutOfRange, EndsReversed}
use Rattle.std.specs.Prelude.{Err, Ok}
use Rattle.scene.specs.Read.{Record}
use Prim.Native.Nat.{ℕ, ◌+◌, ◌*◌, ◌<◌, ◌≤◌}
use native.Mathlib.Omega.{arith}
use mathlib.Core.Path.{◌≡◌, refl, ap, ◌∙◌}
use mathlib.Core.Bool.{Bool, true, false, ◌&&◌}
use mathlib.Core.List.{List, [], ◌∷◌, ◌++◌}
use lib.ListN.{length, length-append, get_or-append}
use lib.Seq.{get_or-append-add}
use lib.Dec.{T, leb, leb→le, eqb}
use lib.IntN.{ℤ, nat_abs}
use Rattle.whole.specs.Count.{bit}
use Rattle.whole.proofs.Logic.{and_left, and_right, true_is}
use Rattle.plane.specs.declared.Point.{Point}
use Rattle.plane.specs.declared.Halfsegment.{Halfsegment}
use Rattle.plane.specs.Plane.{limit, within, in_range, segment_in_range, ordered}
use Rattle.scene.specs.declared.Shape.{Shape}
use Rattle.scene.specs.declared.Shape.TheVariants.{Points, Line, Region}
use Rattle.scene.specs.declared.Kind.TheVariants.{Element}
use Rattle.scene.specs.Read.{byte, signed, coordinate, point_from, segment_at, kind_of, kind_at, body_length, stands_in, unless, condition, judge, record_at, size}
use Rattle.scene.specs.Inner.{fields_at}
use Rattle.scene.proofs.Passed.{whole_body}
use Rattle.scene_written.specs.Bytes.{Edge, Item, item_at, GoodSegment, GoodItem, digit, record_bytes}
use Rattle.scene_written.proofs.Coordinates.{digits_read}

-- ---- the bytes bs stand in s at an offset

pub record Stands (s : List ℕ) (at : ℕ) (bs : List ℕ) : Type 0 where
  pub fits : at + length bs ≤ length s
  pub same : (i : ℕ) → i < length bs → byte s (at + i) ≡ byte bs i

pub stands_here : (bs m : List ℕ) → Stands (bs ++ m) 0 bs
stands_here bs m = record {
  fits = omega (arith, length-append bs m);
  same = λ i h. ap (byte (bs ++ m)) (none i) ∙ get_or-append bs m 0 i h;
}
  where
    none : (i : ℕ) → 0 + i ≡ i
    none i = omega arith

pub stands_after : (p : List ℕ) {s : List ℕ} {at : ℕ} {bs : List ℕ} → Stands s at bs → Stands (p ++ s) (length p + at) bs
stands_after p {s} {at} {bs} h = record {
  fits = omega (arith, length-append p s, h.fits);
  same = λ i b. ap (byte (p ++ s)) (along i) ∙ get_or-append-add p s (at + i) 0 ∙ h.same i b;
}
  where
    along : (i : ℕ) → length p + at + i ≡ length p + (at + i)
    along i = omega arith

pub stands_before : {s : List ℕ} (m : List ℕ) {at : ℕ} {bs : List ℕ} → Stands s at bs → Stands (s ++ m) at bs
stands_before {s} m {at} {bs} h = record {
  fits = omega (arith, length-append s m, h.fits);
  same = λ i b. get_or-append s m 0 (at + i) (omega (arith, h.fits)) ∙ h.same i b;
}

-- ---- coordinates

coordinate_back : (s : List ℕ) (at : ℕ) (z : ℤ) → nat_abs z ≤ limit
    → byte s at ≡ digit z 1 → byte s (at + 1) ≡ digit z 256 → byte s (at + 2) ≡ digit z 65536 → byte s (at + 3) ≡ digit z 16777216 → coordinate s at ≡ z
unfolding coordinate
coordinate_back s at z h p q r t = (λ i. signed (p i + 256 * q i + 65536 * r i + 16777216 * t i)) ∙ digits_read z h

-- ---- elements

pub stands_in_lem : {s : List ℕ} {at o : ℕ} {bs cs : List ℕ} → Stands s at bs → Stands bs o cs → Stands s (at + o) cs
stands_in_lem {s} {at} {o} {bs} {cs} h k = record {
  fits = omega (arith, h.fits, k.fits);
  same = λ i b. ap (byte s) (along i) ∙ h.same (o + i) (omega (arith, k.fits)) ∙ k.same i b;
}
  where
    along : (i : ℕ) → at + o + i ≡ at + (o + i)
    along i = omega arith

-- the two parts of what stands there
pub stands_front : {s : List ℕ} {at : ℕ} (a b : List ℕ) → Stands s at (a ++ b) → Stands s at a
stands_front a b h = record {
  fits = omega (arith, h.fits, length-append a b);
  same = λ i k. h.same i (omega (arith, length-append a b)) ∙ get_or-append a b 0 i k;
}

pub stands_back : {s : List ℕ} {at o : ℕ} (a b : List ℕ) → at + length a ≡ o → Stands s at (a ++ b) → Stands s o b
stands_back {s} {at} {o} a b e h = record {
  fits = omega (arith, h.fits, length-append a b);
  same = λ i k. ap (byte s) (along i) ∙ h.same (length a + i) (omega (arith, length-append a b)) ∙ get_or-append-add a b i 0;
}
  where
    along : (i : ℕ) → o + i ≡ at + (length a + i)
    along i = omega arith

-- the four bytes of a coordinate, at o in bs
abbrev Coded : List ℕ → ℕ → ℤ → Type 0
Coded bs o z = (byte bs o ≡ digit z 1) × (byte bs (o + 1) ≡ digit z 256) × (byte bs (o + 2) ≡ digit z 65536) × (byte bs (o + 3) ≡ digit z 16777216)

pub range_x : (p : Point) → T (in_range p) → nat_abs p.x ≤ limit
unfolding within
range_x p t = leb→le (nat_abs p.x) limit (and_left (leb (nat_abs p.x) limit) (leb (nat_abs p.y) limit) t)

pub range_y : (p : Point) → T (in_range p) → nat_abs p.y ≤ limit
unfolding within
range_y p t = leb→le (nat_abs p.y) limit (and_right (leb (nat_abs p.x) limit) (leb (nat_abs p.y) limit) t)

pub test_back : (b : Bool) {n : ℕ} → n ≡ bit b → eqb n 1 ≡ b
test_back true e = rw e
test_back false e = rw e

bit_small : (b : Bool) {n : ℕ} → n ≡ bit b → leb n 1 ≡ true
bit_small true e = rw e
bit_small false e = rw e

module _ {s : List ℕ} {at : ℕ} {bs : List ℕ} (h : Stands s at bs) where
  pub at_byte : (j i : ℕ) → j ≡ at + i → i < length bs → byte s j ≡ byte bs i
  at_byte j i e b = ap (byte s) e ∙ h.same i b

  at_coordinate : (j o : ℕ) → j ≡ at + o → o + 4 ≤ length bs → (z : ℤ) → nat_abs z ≤ limit → Coded bs o z → coordinate s j ≡ z
  at_coordinate j o e b z r c =
      coordinate_back s j z r (at_byte j o e (omega arith) ∙ c.0) (at_byte (j + 1) (o + 1) (omega arith) (omega arith) ∙ c.1)
      (at_byte (j + 2) (o + 2) (omega arith) (omega arith) ∙ c.2) (at_byte (j + 3) (o + 3) (omega arith) (omega arith) ∙ c.3)

  at_point : (j o : ℕ) → j ≡ at + o → o + 8 ≤ length bs → (p : Point) → T (in_range p) → Coded bs o p.x → Coded bs (o + 4) p.y → point_from s j ≡ p
  at_point j o e b p r c d = λ i. record {
    x = at_coordinate j o e (omega arith) p.x (range_x p r) c i;
    y = at_coordinate (j + 4) (o + 4) (omega arith) (omega arith) p.y (range_y p r) d i;
  }

pub record_length : (k : Shape) (x : Item k) → length (record_bytes k x) ≡ size k
unfolding record_bytes
record_length Points x = refl
record_length Line x = refl
record_length Region x = refl

stands_alike : (k : Shape) → stands_in k (Element k) ≡ true
stands_alike Points = refl
stands_alike Line = refl
stands_alike Region = refl

both_true : {a b : Bool} → a ≡ true → b ≡ true → a && b ≡ true
both_true e f = rw (e, f)

pub all_good : (at : ℕ) {a b c : Bool} (r : Record) → a ≡ true → b ≡ true → c ≡ true
    → judge Err r (condition WrongField (unless a at) ∷ condition OutOfRange (unless b at) ∷ condition EndsReversed (unless c at) ∷ []) ≡ r
all_good at r p q t = rw (p, q, t)

module _ {s : List ℕ} {at : ℕ} where
  point_back : (p : Point) → T (in_range p) → Stands s at (record_bytes Points p) → item_at Points s at ≡ p
  unfolding record_bytes
  point_back p r h = at_point h (at + 1) 1 refl (omega arith) p r (refl, refl, refl, refl) (refl, refl, refl, refl)

  line_segment : (x : Halfsegment) → GoodSegment x.segment → Stands s at (record_bytes Line x) → segment_at s at ≡ x.segment
  unfolding record_bytes
  line_segment x g h = λ i. record {
    left = at_point h (at + 1) 1 refl (omega arith) x.segment.left (and_left (in_range x.segment.left) (in_range x.segment.right) g.in_range_lem) (refl, refl, refl, refl) (refl, refl, refl, refl) i;
    right = at_point h (at + 9) 9 refl (omega arith) x.segment.right (and_right (in_range x.segment.left) (in_range x.segment.right) g.in_range_lem) (refl, refl, refl, refl) (refl, refl, refl, refl) i;
  }

  line_d : (x : Halfsegment) → Stands s at (record_bytes Line x) → byte s (at + 17) ≡ bit x.is_left
  unfolding record_bytes
  line_d x h = h.same 17 (omega arith)

  region_segment : (x : Edge) → GoodSegment x.half.segment → Stands s at (record_bytes Region x) → segment_at s at ≡ x.half.segment
  unfolding record_bytes
  region_segment x g h = λ i. record {
    left = at_point h (at + 1) 1 refl (omega arith) x.half.segment.left (and_left (in_range x.half.segment.left) (in_range x.half.segment.right) g.in_range_lem) (refl, refl, refl, refl) (refl, refl, refl, refl) i;
    right = at_point h (at + 9) 9 refl (omega arith) x.half.segment.right (and_right (in_range x.half.segment.left) (in_range x.half.segment.right) g.in_range_lem) (refl, refl, refl, refl) (refl, refl, refl, refl) i;
  }

  region_d : (x : Edge) → Stands s at (record_bytes Region x) → byte s (at + 17) ≡ bit x.half.is_left
  unfolding record_bytes
  region_d x h = h.same 17 (omega arith)

  region_ia : (x : Edge) → Stands s at (record_bytes Region x) → byte s (at + 18) ≡ bit x.ia
  unfolding record_bytes
  region_ia x h = h.same 18 (omega arith)

  -- what is read where a record stands is what was written
  pub item_back : (k : Shape) (x : Item k) → GoodItem k x → Stands s at (record_bytes k x) → item_at k s at ≡ x
  item_back Points x g h = point_back x g h
  item_back Line x g h = λ i. record { segment = line_segment x g h i; is_left = test_back x.is_left (line_d x h) i }
  item_back Region x g h = λ i. record {
    half = record { segment = region_segment x g h i; is_left = test_back x.half.is_left (region_d x h) i };
    ia = test_back x.ia (region_ia x h) i;
  }

  -- and its tests pass
  kind_byte_lem : (k : Shape) (x : Item k) → Stands s at (record_bytes k x) → kind_at s at ≡ Element k
  unfolding record_bytes kind_of
  kind_byte_lem Points x h = ap kind_of (at_byte h at 0 (omega arith) (omega arith))
  kind_byte_lem Line x h = ap kind_of (at_byte h at 0 (omega arith) (omega arith))
  kind_byte_lem Region x h = ap kind_of (at_byte h at 0 (omega arith) (omega arith))

  fields_good_lem : (k : Shape) (x : Item k) → GoodItem k x → Stands s at (record_bytes k x) → fields_at s at (Element k) ≡ Ok (Element k)
  fields_good_lem Points x g h = all_good at (Ok (Element Points)) refl (ap in_range (point_back x g h) ∙ true_is (in_range x) g) refl
  fields_good_lem Line x g h =
      all_good at (Ok (Element Line)) (bit_small x.is_left (line_d x h)) (ap segment_in_range (line_segment x g h) ∙ true_is (segment_in_range x.segment) g.in_range_lem)
      (ap ordered (line_segment x g h) ∙ true_is (ordered x.segment) g.in_order)
  fields_good_lem Region x g h =
      all_good at (Ok (Element Region)) (both_true (bit_small x.half.is_left (region_d x h)) (bit_small x.ia (region_ia x h)))
      (ap segment_in_range (region_segment x g h) ∙ true_is (segment_in_range x.half.segment) g.in_range_lem)
      (ap ordered (region_segment x g h) ∙ true_is (ordered x.half.segment) g.in_order)

  pub record_good : (k : Shape) (x : Item k) → GoodItem k x → Stands s at (record_bytes k x) → record_at s at (stands_in k) false ≡ Ok (Element k)
  record_good k x g h =
      whole_body s at (stands_in k) false (Element k) (omega (arith, room)) (kind_byte_lem k x h) (stands_alike k) refl (omega (arith, room)) ∙ fields_good_lem k x g h
    where
      room : at + (1 + body_length (Element k)) ≤ length s
      room = omega (arith, h.fits, record_length k x)
