-- Document 01's section "The twelve scenes": scenes a to l as bytes, with the line that each gives, its cells in the four signs of document 02's Paper 8, and the
-- one statement that the definitions give them. The checker computes it, from the bytes to the whole line.
use Rattle.std.specs.Prelude.{ℕ, ◌/◌, ◌%◌, ◌≡◌, refl, List, [], ◌∷◌, ◌++◌, map}
use Prim.Native.Char.{code}
use Prim.Native.String.{String}
use Rattle.whole.specs.Count.{odd}
use Rattle.plane.specs.Plane.{within, before, is_same_point, is_same_segment, ordered, side, dominating, far_end, comes_before, side_at, is_at, is_not_before, is_not_after, on, is_end, counts_below, counts_below_left, is_on_some, inside, interior_above, is_boundary, ends_at, opposite, cross, end_within, touch}
use Rattle.scene.specs.Read.{signed, coordinate, kind_of, shape_of, record_at, elements_from, read_object, read_scene}
use Rattle.scene.specs.Conditions.{segments, is_in_order, out_of_order, partner, unpaired, touching, touching_itself, odd_end, wrong_ia, check_scene_by, check_scene}
use Rattle.flags.specs.Flags.{has_bit}
use Rattle.flags_masks.specs.Wanted.{masks_for, vector_of_f, vector_of_g}
use Rattle.flags.specs.Elements.{points_of, edges}
use Rattle.cells_matrix.specs.Matrix.{matrix_of}
use Rattle.cells.specs.Explored.{cells_answer_of}
use Rattle.answer_line.specs.Line.{digits, decimal, ok_line, no_line, line_of, line_of_scene}

-- ---- records, as document 01 writes them

word : ℕ → List ℕ
word n = n % 256 ∷ n / 256 % 256 ∷ n / 65536 % 256 ∷ n / 16777216 ∷ []

P : ℕ → ℕ → List ℕ
P x y = 80 ∷ word x ++ word y

L : ℕ → ℕ → ℕ → ℕ → ℕ → List ℕ
L a b c d left = 76 ∷ word a ++ word b ++ word c ++ word d ++ (left ∷ [])

R : ℕ → ℕ → ℕ → ℕ → ℕ → ℕ → List ℕ
R a b c d left ia = 82 ∷ word a ++ word b ++ word c ++ word d ++ (left ∷ ia ∷ [])

points : List ℕ → List ℕ
points elements = 84 ∷ 1 ∷ elements ++ (69 ∷ [])

line : List ℕ → List ℕ
line elements = 84 ∷ 2 ∷ elements ++ (69 ∷ [])

region : List ℕ → List ℕ
region elements = 84 ∷ 3 ∷ elements ++ (69 ∷ [])

-- x from a to c, y from b to d
box : ℕ → ℕ → ℕ → ℕ → List ℕ
box a b c d =
    R a b c b 1 1 ++ R a b a d 1 0 ++ R a b a d 0 0 ++ R a d c d 1 0 ++ R a b c b 0 1 ++ R c b c d 1 1 ++ R a d c d 0 0 ++ R c b c d 0 1

-- "A square a..b has x and y from a to b."
square : ℕ → ℕ → List ℕ
square a b = region (box a a b b)

text : String → List ℕ
text String.[] = []
text (String.◌∷◌ c s) = code c ∷ text s

-- ---- the table

pub record Row : Type 0 where
  pub scene : List ℕ
  pub answer : List ℕ

infix 20 ◌gives◌
◌gives◌ : List ℕ → String → Row
s gives t = record { scene = s; answer = text t }

pub table : List Row
unfolding word P L R points line region box square text ◌gives◌
table =
    -- a. (0,0), (2,2); line (0,0)-(4,0), (4,0)-(4,3)
    (points (P 0 0 ++ P 2 2) ++ line (L 0 0 4 0 1 ++ L 0 0 4 0 0 ++ L 4 0 4 3 1 ++ L 4 0 4 3 0) gives "ok 1 2 5 1 F00FFF102\n")
    -- b. (2,2), (4,2), (5,5); square 0..4
    ∷ (points (P 2 2 ++ P 4 2 ++ P 5 5) ++ square 0 4 gives "ok 1 3 7 0 000FFF212\n")
    -- c. square 0..4; square 1..3
    ∷ (square 0 4 ++ square 1 3 gives "ok 3 3 3 12 212FF1FF2\n")
    -- d. square 0..2; square 2..4
    ∷ (square 0 2 ++ square 2 4 gives "ok 3 3 131 3 FF2F01212\n")
    -- e. square 0..2; x 2..4, y 0..2
    ∷ (square 0 2 ++ region (box 2 0 4 2) gives "ok 3 3 195 3 FF2F11212\n")
    -- f. square 0..4 twice
    ∷ (square 0 4 ++ square 0 4 gives "ok 3 3 176 0 2FFF1FFF2\n")
    -- g. no points twice
    ∷ (points [] ++ points [] gives "ok 1 1 0 0 FFFFFFFF2\n")
    -- h. no points; square 0..4
    ∷ (points [] ++ square 0 4 gives "ok 1 3 0 0 FFFFFF212\n")
    -- i. (0,2)-(2,2)-(4,2); (2,0)-(2,2)-(2,4)
    ∷ (line (L 0 2 2 2 1 ++ L 0 2 2 2 0 ++ L 2 2 4 2 1 ++ L 2 2 4 2 0)
    ++ line (L 2 0 2 2 1 ++ L 2 0 2 2 0 ++ L 2 2 2 4 1 ++ L 2 2 2 4 0) gives "ok 2 2 38 5 0F1FF0102\n")
    -- j. (2,2)-(4,2)-(6,2); square 0..4, right side split at (4,2)
    ∷ (line (L 2 2 4 2 1 ++ L 2 2 4 2 0 ++ L 4 2 6 2 1 ++ L 4 2 6 2 0)
    ++ region (R 0 0 4 0 1 1 ++ R 0 0 0 4 1 0 ++ R 0 0 0 4 0 0 ++ R 0 4 4 4 1 0 ++ R 0 0 4 0 0 1
    ++ R 4 0 4 2 1 1 ++ R 4 0 4 2 0 1 ++ R 4 2 4 4 1 1 ++ R 0 4 4 4 0 0 ++ R 4 2 4 4 0 1) gives "ok 2 3 93 1 1010F0212\n")
    -- k. no points; line round (0,0), (4,0), (0,3)
    ∷ (points [] ++ line (L 0 0 4 0 1 ++ L 0 0 0 3 1 ++ L 0 0 0 3 0 ++ L 0 3 4 0 1 ++ L 0 3 4 0 0 ++ L 0 0 4 0 0) gives "ok 1 2 0 0 FFFFFF1F2\n")
    -- l. points (10000001,0); no points
    ∷ (points (P 10000001 0) ++ points [] gives "no 4 2\n")
    ∷ []

-- ---- the statement

-- every scene of the table gives its line
pub twelve_scenes : map (λ r. line_of_scene r.scene) table ≡ map (λ r. r.answer) table
unfolding word P L R points line region box square text ◌gives◌ table line_of_scene cells_answer_of matrix_of has_bit masks_for vector_of_f vector_of_g points_of edges digits decimal ok_line no_line line_of odd within before is_same_point is_same_segment ordered side dominating far_end comes_before side_at is_at is_not_before is_not_after on is_end counts_below counts_below_left is_on_some inside interior_above is_boundary ends_at opposite cross end_within touch signed coordinate kind_of shape_of record_at elements_from read_object read_scene segments is_in_order out_of_order partner unpaired touching touching_itself odd_end wrong_ia check_scene_by check_scene
twelve_scenes = refl
