-- What is written is read back: the file of points has a part for each of them, and the file of a line a part of two points for each segment, its left end first.
use Prim.Native.Nat.{ℕ, ◌+◌, ◌^◌, ◌<◌, ◌≤◌}
use native.Mathlib.Omega.{arith}
use mathlib.Core.Path.{◌≡◌, refl, sym, ap}
use mathlib.Core.List.{List, [], ◌∷◌, ◌++◌, map}
use lib.Dec.{T}
use lib.ListN.{length, length-append, length-map}
use borrow.Author.Tests.{le-leb}
use Rattle.whole.specs.Count.{◌∈◌, here, there}
use Rattle.whole.proofs.Logic.{and_left, and_right}
use Rattle.plane.specs.declared.Point.{Point}
use Rattle.plane.specs.declared.Segment.{Segment}
use Rattle.plane.specs.Plane.{in_range, segment_in_range, points, line}
use Rattle.scene_written.proofs.Stands.{Stands, stands_front, stands_back, stands_here}
use Rattle.scene_written.proofs.ReadBack.{stands_whole}
use Rattle.wkb_grammar.specs.Fields.{type_at}
use Rattle.wkb_grammar.specs.Grammar.{Read, got, many, Row, part_at, file}
use Rattle.wkb_writing.specs.Wkb.{word_bytes, point_bytes, header_bytes, point_part, segment_part, joined, collection, wkb_of}
use Rattle.wkb_writing.specs.ReadBack.{point_rows, segment_rows}
use Rattle.wkb_writing.proofs.Lengths.{word_long, header_long, point_long, segment_part_long}
use Rattle.wkb_writing.proofs.FieldsBack.{point_read, is_little_lem, type_read, header_read, count_read, counted_read}

-- ---- a part

module _ {s : List ℕ} {at : ℕ} where
  point_part_lem : (p : Point) → T (in_range p) → Stands s at (point_part p) → part_at s 4 at ≡ got (point_rows p) (at + length (point_part p))
  unfolding part_at point_part
  point_part_lem p r k =
      rw (header_read 1 (omega arith) head 1 1 (omega arith) (omega arith), is_little_lem 1 (omega arith) head, point_read p r (stands_back (header_bytes 1) (point_bytes p) (ap (λ (m : ℕ). at + m) (header_long 1)) k))
      (ap (λ (e : ℕ). got (point_rows p) e) (omega (arith, length-append (header_bytes 1) (point_bytes p), header_long 1, point_long p)))
    where
      head : Stands s at (header_bytes 1)
      head = stands_front (header_bytes 1) (point_bytes p) k

  segment_part_lem : (t : Segment) → T (segment_in_range t) → Stands s at (segment_part t) → part_at s 5 at ≡ got (segment_rows t) (at + length (segment_part t))
  unfolding part_at segment_part
  segment_part_lem t r k =
      rw (counted_read 2 2 (omega arith) (omega arith) head count 2 2 (omega arith) (omega arith), count_read 2 2 (omega arith) (omega arith) head count, is_little_lem 2 (omega arith) head)
      (rw (point_read t.left (and_left (in_range t.left) (in_range t.right) r) left)
      (rw (point_read t.right (and_right (in_range t.left) (in_range t.right) r) right) (ap (λ (e : ℕ). got (segment_rows t) e) end)))
    where
      body : List ℕ
      body = word_bytes 2 ++ (point_bytes t.left ++ point_bytes t.right)

      head : Stands s at (header_bytes 2)
      head = stands_front (header_bytes 2) body k

      tail : Stands s (at + 5) body
      tail = stands_back (header_bytes 2) body (ap (λ (m : ℕ). at + m) (header_long 2)) k

      count : Stands s (at + 5) (word_bytes 2)
      count = stands_front (word_bytes 2) (point_bytes t.left ++ point_bytes t.right) tail

      ends : Stands s (at + 9) (point_bytes t.left ++ point_bytes t.right)
      ends = stands_back (word_bytes 2) (point_bytes t.left ++ point_bytes t.right) (omega (arith, word_long 2)) tail

      left : Stands s (at + 9) (point_bytes t.left)
      left = stands_front (point_bytes t.left) (point_bytes t.right) ends

      right : Stands s (at + 9 + 16) (point_bytes t.right)
      right = stands_back (point_bytes t.left) (point_bytes t.right) (ap (λ (m : ℕ). at + 9 + m) (point_long t.left)) ends

      end : at + 9 + 16 + 16 ≡ at + length (segment_part t)
      end = omega (arith, segment_part_long t)

-- ---- parts one after the other

module _ {A B : Type 0} {s : List ℕ} (item : ℕ → Read B) (part : A → List ℕ) (value : A → B) where
  many_back : (l : List A) → ((a : A) → a ∈ l → (at : ℕ) → Stands s at (part a) → item at ≡ got (value a) (at + length (part a)))
      → (at : ℕ) → Stands s at (joined (map part l)) → many item (length (map part l)) at ≡ got (map value l) (at + length (joined (map part l)))
  many_back [] each at k = ap (λ (e : ℕ). got [] e) (none at)
    where
      none : (at : ℕ) → at ≡ at + 0
      none at = omega arith
  many_back (a ∷ l) each at k =
      rw (each a here at (stands_front (part a) (joined (map part l)) k), many_back l (λ b m. each b (there m)) (at + length (part a)) (stands_back (part a) (joined (map part l)) refl k))
      (ap (λ (e : ℕ). got (value a ∷ map value l) e) (omega (arith, length-append (part a) (joined (map part l)))))

-- ---- a file

module _ (type : ℕ) (h : type < 2 ^ 32) (low : 4 ≤ type) (high : type ≤ 6) (parts : List (List ℕ)) (few : length parts < 2 ^ 32) where
  abbrev s : List ℕ
  s = collection type parts

  head : Stands s 0 (header_bytes type)
  head = stands_here (header_bytes type) (word_bytes (length parts) ++ joined parts)

  tail : Stands s 5 (word_bytes (length parts) ++ joined parts)
  tail = stands_back (header_bytes type) (word_bytes (length parts) ++ joined parts) (omega (arith, header_long type)) (stands_whole s)

  count : Stands s 5 (word_bytes (length parts))
  count = stands_front (word_bytes (length parts)) (joined parts) tail

  rest : Stands s 9 (joined parts)
  rest = stands_back (word_bytes (length parts)) (joined parts) (omega (arith, word_long (length parts))) tail

  long : length s ≡ 9 + length (joined parts)
  long = omega (
    arith,
    length-append (header_bytes type) (word_bytes (length parts) ++ joined parts),
    length-append (word_bytes (length parts)) (joined parts),
    header_long type,
    word_long (length parts),
  )

  file_type : type_at (collection type parts) 0 ≡ type
  file_type = type_read type h head

  file_read : (values : List (List Row)) → many (part_at s type) (length parts) 9 ≡ got values (9 + length (joined parts)) → file s ≡ got values (length s)
  unfolding file
  file_read values e =
      rw (counted_read type (length parts) h few head count 4 6 low high, count_read type (length parts) h few head count, file_type, e)
      (rw (le-leb (length s) (9 + length (joined parts)) (omega (arith, long))) (ap (λ (n : ℕ). got values n) (sym long)))

-- points and segments in range, and fewer than a count holds
pub points_file : (l : List Point) → ((p : Point) → p ∈ l → T (in_range p)) → length l < 2 ^ 32 → file (wkb_of (points l)) ≡ got (map point_rows l) (length (wkb_of (points l)))
unfolding wkb_of
points_file l r few =
    file_read 4 (omega arith) (omega arith) (omega arith) (map point_part l) (omega (arith, length-map l point_part)) (map point_rows l)
    (many_back (part_at (collection 4 (map point_part l)) 4) point_part point_rows l (λ p m at k. point_part_lem p (r p m) k) 9
    (rest 4 (omega arith) (omega arith) (omega arith) (map point_part l) (omega (arith, length-map l point_part))))

pub segments_file : (l : List Segment) → ((t : Segment) → t ∈ l → T (segment_in_range t)) → length l < 2 ^ 32 → file (wkb_of (line l)) ≡ got (map segment_rows l) (length (wkb_of (line l)))
unfolding wkb_of
segments_file l r few =
    file_read 5 (omega arith) (omega arith) (omega arith) (map segment_part l) (omega (arith, length-map l segment_part)) (map segment_rows l)
    (many_back (part_at (collection 5 (map segment_part l)) 5) segment_part segment_rows l (λ t m at k. segment_part_lem t (r t m) k) 9
    (rest 5 (omega arith) (omega arith) (omega arith) (map segment_part l) (omega (arith, length-map l segment_part))))

-- and its type
pub points_type : (l : List Point) → length l < 2 ^ 32 → type_at (wkb_of (points l)) 0 ≡ 4
unfolding wkb_of
points_type l few = file_type 4 (omega arith) (omega arith) (omega arith) (map point_part l) (omega (arith, length-map l point_part))

pub segments_type : (l : List Segment) → length l < 2 ^ 32 → type_at (wkb_of (line l)) 0 ≡ 5
unfolding wkb_of
segments_type l few = file_type 5 (omega arith) (omega arith) (omega arith) (map segment_part l) (omega (arith, length-map l segment_part))
