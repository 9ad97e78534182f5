-- Examples of each sentence of Paper 9's reader, computed from the grammar: bytes, with the number and the place of their fault, or two zeros where they are taken.
use Rattle.std.specs.Prelude.{ℕ, zero, suc, ◌-◌, ◌/◌, ◌%◌, ◌≡◌, refl, List, [], ◌∷◌, ◌++◌, map, ℤ, pos, length, take, Float}
use Rattle.std.specs.Float.{nan, float_zero, binary64}
use Rattle.std.specs.Float.Ieee.{of_bits, eq}
use Rattle.plane.specs.declared.Point.{Point}
use Rattle.wkb_coordinate.specs.Coordinate.{coordinate_of}
use Rattle.wkb_grammar.specs.Fields.{word_at, header_at, counted_at, is_open}
use Rattle.wkb_grammar.specs.Grammar.{number_of, place_of, value_of, Read, got, bad, Row, point_at, ring_at, part_at, file}

-- ---- bytes in an order: 0 high byte first, 1 low byte first
unfoldable pub digits : ℕ → ℕ → List ℕ
digits zero n = []
digits (suc k) n = n % 256 ∷ digits k (n / 256)

unfoldable pub turned : List ℕ → List ℕ
turned [] = []
turned (b ∷ s) = turned s ++ (b ∷ [])

unfoldable pub number : ℕ → ℕ → ℕ → List ℕ
unfolding turned digits
number zero k n = turned (digits k n)
number (suc o) k n = digits k n

unfoldable pub word : ℕ → ℕ → List ℕ
unfolding number
word o n = number o 4 n

unfoldable pub header : ℕ → ℕ → List ℕ
unfolding word
header o t = o ∷ word o t

-- coordinates, by the patterns of their floats
unfoldable pub floats : ℕ → List ℕ → List ℕ
unfolding number
floats o [] = []
floats o (x ∷ xs) = number o 8 x ++ floats o xs

unfoldable pub n0 : ℕ
n0 = 0

unfoldable pub n4 : ℕ
n4 = 0x4010000000000000

-- 0.5, -0, a NaN, infinity
unfoldable pub a_half : ℕ
a_half = 0x3fe0000000000000

minus0 : ℕ
minus0 = 0x8000000000000000

not_number : ℕ
not_number = 0x7ff8000000000000

infinite : ℕ
infinite = 0x7ff0000000000000

-- 10,000,000, its negative, 10,000,001, 10,000,000.5, 5e-324
most : ℕ
most = 0x416312d000000000

least : ℕ
least = 0xc16312d000000000

beyond : ℕ
beyond = 0x416312d020000000

between : ℕ
between = 0x416312d010000000

tiniest : ℕ
tiniest = 1

-- one point, one part and one polygon with their file's header, the file's order before the part's
unfoldable pub one_point : ℕ → ℕ → ℕ → ℕ → List ℕ
unfolding header word floats
one_point o p x y = header o 4 ++ word o 1 ++ header p 1 ++ floats p (x ∷ y ∷ [])

one_line : ℕ → ℕ → ℕ → List ℕ → List ℕ
unfolding header word floats
one_line o p n xs = header o 5 ++ word o 1 ++ header p 2 ++ word p n ++ floats p xs

polygon : ℕ → ℕ → ℕ → List ℕ → List ℕ
unfolding header word
polygon o p n rings = header o 6 ++ word o 1 ++ header p 3 ++ word p n ++ rings

unfoldable pub ring : ℕ → ℕ → List ℕ → List ℕ
unfolding word floats
ring p n xs = word p n ++ floats p xs

-- from x, round a square, to y
square : ℕ → ℕ → List ℕ
unfolding n0 n4
square x y = x ∷ n0 ∷ n4 ∷ n0 ∷ n4 ∷ n4 ∷ y ∷ n0 ∷ []

less1 : List ℕ → List ℕ
less1 s = take (length s - 1) s

record Example : Type 0 where
  bytes : List ℕ
  its_number : ℕ
  its_place : ℕ

infix 30 ◌gives◌at◌
◌gives◌at◌ : List ℕ → ℕ → ℕ → Example
b gives n at p = record { bytes = b; its_number = n; its_place = p }

examples : List Example
unfolding ◌gives◌at◌ one_point one_line polygon ring square less1 header word number digits turned floats n0 n4 a_half minus0 not_number infinite most least beyond between tiniest
examples =
    -- fields that are cut, or did not begin
    ([] gives 24 at 0)
    ∷ (1 ∷ [] gives 24 at 1)
    ∷ (1 ∷ 4 ∷ [] gives 24 at 1)
    ∷ (header 1 4 ++ word 1 1 gives 24 at 9)
    ∷ (less1 (one_point 1 1 n0 n0) gives 24 at 22)
    ∷ (less1 (header 0 4 ++ word 0 0) gives 24 at 5)
    ∷ (less1 (polygon 1 1 1 []) gives 24 at 14)
    ∷ (polygon 1 1 1 (0 ∷ []) gives 24 at 18)
    -- no allowed value, flags of other dialects among them, and a count that no bytes can meet
    ∷ (2 ∷ [] gives 24 at 0)
    ∷ (header 1 7 gives 24 at 1)
    ∷ (header 1 1 gives 24 at 1)
    ∷ (header 0 0x20000004 ++ word 0 0 gives 24 at 1)
    ∷ (header 1 1004 ++ word 1 0 gives 24 at 1)
    ∷ (header 0 4 ++ word 0 1 ++ header 0 2 gives 24 at 10)
    ∷ (header 1 5 ++ word 1 1 ++ (2 ∷ []) gives 24 at 9)
    ∷ (header 1 4 ++ word 1 4294967295 gives 24 at 9)
    ∷ (one_line 1 1 4294967295 (n0 ∷ n0 ∷ n4 ∷ []) gives 24 at 42)
    ∷ (polygon 1 1 1 (ring 1 4294967295 (n0 ∷ n0 ∷ [])) gives 24 at 38)
    -- left over
    ∷ (header 0 4 ++ word 0 0 gives 0 at 0)
    ∷ (header 0 4 ++ word 0 0 ++ (0 ∷ []) gives 24 at 9)
    -- nothing in a part or a polygon; a ring of none; a part of one point, before its coordinates
    ∷ (one_line 1 1 0 [] gives 0 at 0)
    ∷ (polygon 1 0 0 [] gives 0 at 0)
    ∷ (polygon 1 1 1 (word 1 0) gives 24 at 18)
    ∷ (one_line 0 1 1 (n0 ∷ n0 ∷ []) gives 24 at 14)
    ∷ (one_line 1 0 1 (a_half ∷ n0 ∷ []) gives 24 at 14)
    ∷ (one_line 1 0 2 (n4 ∷ n4 ∷ n4 ∷ n4 ∷ []) gives 0 at 0)
    -- an empty point of other packages has two NaN
    ∷ (one_point 1 1 not_number not_number gives 25 at 14)
    -- 26 before everything inside its ring; never in a cut one
    ∷ (polygon 1 1 1 (ring 1 4 (square a_half n0)) gives 26 at 18)
    ∷ (polygon 0 1 1 (ring 1 4 (square n0 n4)) gives 26 at 18)
    ∷ (less1 (polygon 1 1 1 (ring 1 4 (square a_half n0))) gives 25 at 22)
    ∷ (less1 (polygon 1 0 1 (ring 0 4 (square n0 n4))) gives 24 at 78)
    -- numbers are compared, NaN equal to none
    ∷ (polygon 1 1 1 (ring 1 4 (square not_number not_number)) gives 26 at 18)
    ∷ (polygon 1 1 1 (ring 1 4 (square infinite infinite)) gives 25 at 22)
    ∷ (polygon 1 1 1 (ring 1 4 (square a_half a_half)) gives 25 at 22)
    ∷ (polygon 1 1 1 (ring 1 4 (square n0 minus0)) gives 0 at 0)
    -- 24 before 26 at one byte, and the earliest byte first
    ∷ (polygon 1 1 1 (ring 1 2 (n0 ∷ n0 ∷ n4 ∷ n4 ∷ [])) gives 24 at 18)
    ∷ (polygon 1 1 2 (ring 1 4 (square n0 n4) ++ ring 1 2 (n0 ∷ n0 ∷ n4 ∷ n4 ∷ [])) gives 26 at 18)
    ∷ (polygon 1 1 2 (ring 1 2 (n0 ∷ n0 ∷ n4 ∷ n4 ∷ []) ++ ring 1 4 (square n0 n4)) gives 24 at 18)
    ∷ (polygon 1 1 2 (ring 1 4 (square n0 n0) ++ ring 1 4 (square n0 n4)) gives 26 at 86)
    ∷ (polygon 1 1 1 (ring 1 4 (square n0 n4) ++ (0 ∷ [])) gives 26 at 18)
    -- whole and in range, x before y, either order at each level
    ∷ (one_point 1 0 most least gives 0 at 0)
    ∷ (one_point 0 1 minus0 most gives 0 at 0)
    ∷ (one_point 0 0 beyond between gives 25 at 14)
    ∷ (one_point 0 1 most between gives 25 at 22)
    ∷ (one_point 1 1 n0 tiniest gives 25 at 22)
    ∷ []

answer : Read (List (List Row)) → List ℕ
answer (got parts end) = 0 ∷ 0 ∷ []
answer (bad f) = number_of f ∷ place_of f ∷ []

reading : List ℕ → Read (List (List Row))
unfolding file part_at ring_at point_at is_open counted_at header_at word_at coordinate_of of_bits eq
reading s = file s

answered : map (λ e. answer (reading e.bytes)) examples ≡ map (λ e. e.its_number ∷ e.its_place ∷ []) examples
unfolding examples reading answer
answered = refl

-- the number that goes back with 25, and what is read where nothing is wrong
given_back : Read (List (List Row)) → Float
given_back (got parts end) = float_zero
given_back (bad f) = value_of f

goes_back : given_back (reading (one_point 1 1 not_number n0)) ≡ nan
unfolding given_back reading one_point header word number digits turned floats n0 not_number
goes_back = refl

goes_back_half : given_back (reading (one_point 1 0 n4 a_half)) ≡ of_bits binary64 a_half
unfolding given_back reading one_point header word number digits turned floats n4 a_half of_bits
goes_back_half = refl

abbrev p : ℤ → ℤ → Point
p x y = record { x = x; y = y }

rows_read : reading (polygon 0 1 2 (ring 1 4 (square n0 minus0) ++ ring 1 4 (square n4 n4))) ≡ got (((p (pos 0) (pos 0) ∷ p (pos 4) (pos 0) ∷ p (pos 4) (pos 4) ∷ p (pos 0) (pos 0) ∷ []) ∷ (p (pos 4) (pos 0) ∷ p (pos 4) (pos 0) ∷ p (pos 4) (pos 4) ∷ p (pos 4) (pos 0) ∷ []) ∷ []) ∷ []) 154
unfolding reading polygon ring square header word number digits turned floats n0 n4 minus0
rows_read = refl
