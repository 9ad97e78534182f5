-- The one line that answers a scene, document 01's section "The twelve scenes", as the list of its bytes in ASCII; and what it is to write it
-- into a lent buffer.
use Rattle.scene.specs.Read.{number_of}
use Rattle.std.specs.Prelude.{Err, Ok}
use Rattle.cells.specs.Explored.{CellsAnswer}
use Rattle.std.specs.Prelude.{ℕ, zero, suc, ◌+◌, ◌-◌, ◌*◌, ◌/◌, ◌%◌, ◌≤◌, ◌<◌, ◌≡◌, true, false, cond, List, [], ◌∷◌, ◌++◌, map, eqb, ltb, length, get_or, take, drop}
use Rattle.plane_dimensions.specs.declared.Dimension.{Dimension}
use Rattle.plane_dimensions.specs.Dimensions.{sign}
use Rattle.cells.specs.Explored.{CellsValues, cells_values, cells_answer_of}

-- ---- a number in decimal

-- the character of a digit: "0" is 48
abbrev pub digit : ℕ → ℕ
digit d = 48 + d

-- the digits of n, of which at most `more` follow the first
unfoldable pub digits : ℕ → ℕ → List ℕ
digits zero n = digit n ∷ []
digits (suc more) n = elim (ltb n 10) [ true ↦ digit n ∷ [] | false ↦ digits more (n / 10) ++ digit (n % 10) ∷ [] ]

-- as many as n never follow the first digit of n, but for 0, which has one digit
unfoldable pub decimal : ℕ → List ℕ
decimal n = digits n n

-- the number that a list of digits spells, after those that spell a
abbrev pub read_after : ℕ → List ℕ → ℕ
read_after a [] = a
read_after a (c ∷ cs) = read_after (a * 10 + (c - 48)) cs

-- What makes a list the decimal writing of n: it spells n, it is digits and not empty, and "0" leads only where it stands alone.
-- `decimal n` is such a list, and the only one (proofs/Decimal.antt).
pub record Spells (n : ℕ) (l : List ℕ) : Type 0 where
  pub value : read_after 0 l ≡ n
  pub each : (i : ℕ) → i < length l → (48 ≤ get_or l i 0) × (get_or l i 0 ≤ 57)
  pub some : 0 < length l
  pub lead : 1 < length l → 48 < get_or l 0 0

-- ---- the line

abbrev pub space : ℕ
space = 32

abbrev pub line_feed : ℕ
line_feed = 10

-- the words "ok" and "no"
abbrev pub ok_word : List ℕ
ok_word = 111 ∷ 107 ∷ []

abbrev pub no_word : List ℕ
no_word = 110 ∷ 111 ∷ []

-- "Fields are parted by one space .. and a line feed ends the line"
abbrev pub fields : List ℕ → List (List ℕ) → List ℕ
fields first [] = first ++ line_feed ∷ []
fields first (next ∷ rest) = first ++ space ∷ fields next rest

-- "the nine cells row by row", parted "by nothing", each as the sign of its value: by Paper 8 of document 02 "`explore` prints these four signs"
abbrev pub row_by_row : List (List Dimension) → List Dimension
row_by_row [] = []
row_by_row (row ∷ rows) = row ++ row_by_row rows

abbrev pub cell_bytes : List (List Dimension) → List ℕ
cell_bytes cells = map sign (row_by_row cells)

-- "ok, F's type, G's type, F's vector, G's vector (decimal, all flags), the nine cells"
unfoldable pub ok_line : ℕ → ℕ → ℕ → ℕ → List (List Dimension) → List ℕ
ok_line f g v w cells = fields ok_word (decimal f ∷ decimal g ∷ decimal v ∷ decimal w ∷ cell_bytes cells ∷ [])

-- "or no, number, place"
unfoldable pub no_line : ℕ → ℕ → List ℕ
no_line number place = fields no_word (decimal number ∷ decimal place ∷ [])

-- the line of an answer's number and values: number 0 where the scene is taken
unfoldable pub line_of : CellsValues → List ℕ
line_of a = cond (eqb a.number 0) (ok_line a.f a.g a.v a.w a.cells) (no_line a.number a.place)

-- "`explore` reads a scene .. and writes one line": that of the scene's bytes
unfoldable pub line_of_scene : List ℕ → List ℕ
line_of_scene s = line_of (cells_values (cells_answer_of s))

-- a longer input has the line of its first 38,919 bytes: one more than the longest scene has
abbrev pub OnlyFirstBytes : Type 0
OnlyFirstBytes = (s : List ℕ) → line_of_scene s ≡ line_of_scene (take 38919 s)

-- no refusal has the number of a scene that is taken
abbrev pub Numbered : CellsAnswer → Type 0
Numbered (Ok e) = Unit {0}
Numbered (Err r) = 0 < number_of r.reason

-- ---- the lent buffer

-- With room for the line: its length comes back, the buffer begins with it, and every later byte is as it was. Without: 0, and the buffer as it was.
pub record Lent (line before : List ℕ) (r : ℕ) (after : List ℕ) : Type 0 where
  pub with_room_lem : length line ≤ length before → (r ≡ length line) × (after ≡ line ++ drop (length line) before)
  pub without : length before < length line → (r ≡ 0) × (after ≡ before)
