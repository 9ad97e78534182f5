-- The fields of what is written, wherever they stand, are read back: a header, a count, and eight bytes as the whole number that they are.
use Rattle.std.specs.Prelude.{Ok}
use Prim.Native.Nat.{ℕ, ◌+◌, ◌^◌, ◌<◌, ◌≤◌}
use native.Mathlib.Omega.{arith}
use mathlib.Core.Path.{◌≡◌, refl, ap, ◌∙◌}
use mathlib.Core.Bool.{Bool, true}
use mathlib.Core.List.{List, [], ◌∷◌}
use lib.Dec.{T}
use lib.IntN.{ℤ, nat_abs}
use lib.ListN.{length}
use lib.Ieee.{binary64, of_bits}
use borrow.Author.Tests.{le-leb, eq-eqb}
use Rattle.std.proofs.lemmas.Nat.{from_le_bytes-to_le_bytes_4, from_le_bytes-to_le_bytes_8}
use Rattle.plane.specs.declared.Point.{Point}
use Rattle.plane.specs.Plane.{limit, in_range}
use Rattle.scene_written.proofs.Stands.{Stands, stands_front, stands_back, range_x, range_y}
use Rattle.wkb_coordinate.specs.Coordinate.{coordinate_of}
use Rattle.wkb_grammar.specs.Fields.{byte, is_little, word_at, pattern_at, type_at, header_at, counted_at, count_at}
use Rattle.wkb_grammar.specs.Grammar.{got, coordinate_at, point_at}
use Rattle.wkb_writing.specs.Wkb.{word_bytes, coordinate_bytes, pattern, point_bytes, header_bytes}
use Rattle.wkb_writing.proofs.Pattern.{pattern_small, pattern_back}
use Rattle.wkb_writing.proofs.Lengths.{word_long, coordinate_long, header_long}

-- ---- numbers

none : (at : ℕ) → at ≡ at + 0
none at = omega arith

module _ {s : List ℕ} {at : ℕ} where
  first : {bs : List ℕ} → Stands s at bs → 0 < length bs → byte s at ≡ byte bs 0
  first k h = ap (byte s) (none at) ∙ k.same 0 h

  pub word_back : (n : ℕ) → n < 2 ^ 32 → Stands s at (word_bytes n) → word_at s true at ≡ n
  unfolding word_at word_bytes
  word_back n h k =
      omega (arith, first k (omega arith), k.same 1 (omega arith), k.same 2 (omega arith), k.same 3 (omega arith), from_le_bytes-to_le_bytes_4 n h)

  pattern_read : (z : ℤ) → Stands s at (coordinate_bytes z) → pattern_at s true at ≡ pattern z
  unfolding word_at coordinate_bytes
  pattern_read z k =
      omega (
        arith,
        first k (omega arith),
        k.same 1 (omega arith),
        k.same 2 (omega arith),
        k.same 3 (omega arith),
        k.same 4 (omega arith),
        along 1 (omega arith),
        along 2 (omega arith),
        along 3 (omega arith),
        from_le_bytes-to_le_bytes_8 (pattern z) (pattern_small z),
      )
    where
      sum : (i : ℕ) → at + 4 + i ≡ at + (4 + i)
      sum i = omega arith

      along : (i : ℕ) → i < 4 → byte s (at + 4 + i) ≡ byte (coordinate_bytes z) (4 + i)
      along i h = ap (byte s) (sum i) ∙ k.same (4 + i) (omega arith)

  -- ---- a coordinate and a point

  coordinate_read : (z : ℤ) → nat_abs z ≤ limit → Stands s at (coordinate_bytes z) → coordinate_at s true at ≡ got z (at + 8)
  coordinate_read z h k =
      rw (
        le-leb (at + 8) (length s) (omega (arith, k.fits, coordinate_long z)),
        ap (λ (p : ℕ). coordinate_of (of_bits binary64 p)) (pattern_read z k) ∙ pattern_back z h,
      )

module _ {s : List ℕ} {at : ℕ} where
  pub point_read : (p : Point) → T (in_range p) → Stands s at (point_bytes p) → point_at s true at ≡ got p (at + 16)
  unfolding point_at
  point_read p r k =
      rw (coordinate_read p.x (range_x p r) (stands_front (coordinate_bytes p.x) (coordinate_bytes p.y) k))
      (rw (coordinate_read p.y (range_y p r) (stands_back (coordinate_bytes p.x) (coordinate_bytes p.y) (ap (λ (m : ℕ). at + m) (coordinate_long p.x)) k))
      (ap (λ (e : ℕ). got p e) end))
    where
      end : at + 8 + 8 ≡ at + 16
      end = omega arith

  -- ---- headers

  module _ (n : ℕ) (h : n < 2 ^ 32) (k : Stands s at (header_bytes n)) where
    order_one : byte s at ≡ 1
    unfolding word_bytes
    order_one = first k (omega arith)

    pub is_little_lem : is_little s at ≡ true
    is_little_lem = eq-eqb (byte s at) 1 order_one

    type_stands : Stands s (at + 1) (word_bytes n)
    type_stands = stands_back (1 ∷ []) (word_bytes n) refl k

    pub type_read : type_at s at ≡ n
    type_read = ap (λ (b : Bool). word_at s b (at + 1)) is_little_lem ∙ word_back n h type_stands

    pub header_read : (low high : ℕ) → low ≤ n → n ≤ high → header_at s at low high ≡ Ok tt
    unfolding header_at
    header_read low high l u =
        rw (
          le-leb (at + 1) (length s) (omega (arith, k.fits, header_long n)),
          le-leb (byte s at) 1 (omega (arith, order_one)),
          le-leb (at + 1 + 4) (length s) (omega (arith, k.fits, header_long n)),
          le-leb low (type_at s at) (omega (arith, type_read)),
          le-leb (type_at s at) high (omega (arith, type_read)),
        )

-- a header, and a count
module _ {s : List ℕ} {at : ℕ} (n m : ℕ) (h : n < 2 ^ 32) (g : m < 2 ^ 32) (k : Stands s at (header_bytes n)) (j : Stands s (at + 5) (word_bytes m)) where
  pub count_read : count_at s at ≡ m
  count_read = ap (λ (b : Bool). word_at s b (at + 5)) (is_little_lem n h k) ∙ word_back m g j

  pub counted_read : (low high : ℕ) → low ≤ n → n ≤ high → counted_at s at low high ≡ Ok tt
  unfolding counted_at
  counted_read low high l u = rw (header_read n h k low high l u, le-leb (at + 5 + 4) (length s) (omega (arith, j.fits, word_long m)))
