-- The fields of well-known binary: a byte order (1 byte), a type (4), a count (4), a coordinate (8). A field is cut where it runs past the end, or did not begin; its
-- place is its first byte.
use Rattle.std.specs.Prelude.{Result, Ok, Err, ℕ, ◌+◌, ◌-◌, ◌*◌, Bool, true, false, not, ◌&&◌, List, leb, eqb, length, get_or, from_bits, Float}
use Rattle.std.specs.Float.{binary64}
use Rattle.std.specs.Float.Ieee.{eq}
use Rattle.wkb_grammar.specs.declared.Fault.{Fault}
use Rattle.wkb_grammar.specs.declared.Fault.TheVariants.{Malformed}

-- nothing, or a fault
abbrev pub Check : Type 0
Check = Result (Unit {0}) Fault

-- "24 at the first byte of a field that is cut, has no allowed value or is left over": at a place, unless a test holds there
abbrev pub must : Bool → ℕ → Check
must true at = Ok tt
must false at = Err (Malformed at)

-- "The earliest byte goes first": the first of two that is a fault
abbrev pub then : Check → Check → Check
then (Ok t) later = later
then (Err f) later = Err f

module _ (s : List ℕ) where
  abbrev pub byte : ℕ → ℕ
  byte at = get_or s at 0

  abbrev pub is_there : ℕ → ℕ → Bool
  is_there at size = leb (at + size) (length s)

  -- an order byte: 0 high byte first, 1 low byte first
  abbrev pub is_little : ℕ → Bool
  is_little at = eqb (byte at) 1

  -- four bytes, in a byte order (true: the low one first)
  unfoldable pub word_at : Bool → ℕ → ℕ
  word_at true at = byte at + byte (at + 1) * 0x100 + byte (at + 2) * 0x10000 + byte (at + 3) * 0x1000000
  word_at false at = byte (at + 3) + byte (at + 2) * 0x100 + byte (at + 1) * 0x10000 + byte at * 0x1000000

  -- eight bytes
  abbrev pub pattern_at : Bool → ℕ → ℕ
  pattern_at true at = word_at true at + word_at true (at + 4) * 0x100000000
  pattern_at false at = word_at false (at + 4) + word_at false at * 0x100000000

  abbrev pub float_at : Bool → ℕ → Float
  float_at little at = from_bits binary64 (pattern_at little at)

  -- "either byte order at each level": the type of the header at a place, in its own byte order, and the count that follows it
  abbrev pub type_at : ℕ → ℕ
  type_at at = word_at (is_little at) (at + 1)

  abbrev pub count_at : ℕ → ℕ
  count_at at = word_at (is_little at) (at + 5)

  -- order (1 byte), type (4 bytes): 0 or 1, and a type from low to high
  unfoldable pub header_at : ℕ → ℕ → ℕ → Check
  header_at at low high =
      then (must (is_there at 1 && leb (byte at) 1) at) (must (is_there (at + 1) 4 && (leb low (type_at at) && leb (type_at at) high)) (at + 1))

  -- a header, and then a count
  unfoldable pub counted_at : ℕ → ℕ → ℕ → Check
  counted_at at low high = then (header_at at low high) (must (is_there (at + 5) 4) (at + 5))

  -- two points, "compared as numbers, NaN equal to none"; -0 is 0
  abbrev pub is_same_at : Bool → ℕ → ℕ → Bool
  is_same_at little a b = eq (float_at little a) (float_at little b) && eq (float_at little (a + 8)) (float_at little (b + 8))

  -- "a ring whose last point is not its first .. A ring cut before its last point ends is never 26." The n points begin at a place.
  unfoldable pub is_open : Bool → ℕ → ℕ → Bool
  is_open little n at = is_there at (n * 16) && not (is_same_at little at (at + (n * 16 - 16)))
