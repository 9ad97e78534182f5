-- The overlap list of scene e, and the refusals and buffers of the question, computed from the definitions.
use Rattle.std.specs.Prelude.{ℕ, ◌/◌, ◌%◌, ◌≡◌, refl, List, [], ◌∷◌, ◌++◌, map}
use Rattle.whole.specs.Count.{odd}
use Rattle.plane.specs.Plane.{within, before, is_same_point, is_same_segment, ordered, side, dominating, far_end, comes_before, side_at, is_at, is_not_before, is_not_after, on, is_end, counts_below, counts_below_left, is_on_some, inside, interior_above, ends_at, opposite, cross, end_within, touch}
use Rattle.scene.specs.Read.{signed, coordinate, kind_of, shape_of, record_at, elements_from, read_object, read_scene}
use Rattle.scene.specs.Conditions.{segments, is_in_order, out_of_order, partner, unpaired, touching, touching_itself, odd_end, wrong_ia, check_scene_by}
use Rattle.flags.specs.Elements.{edges}
use Rattle.overlap.specs.Bytes.{adjoins, overlap_bytes}
use Rattle.overlap.specs.Rules.{check_list}
use Rattle.overlap.specs.Overlap.{overlap_of, overlap_values, buffer_after}

word : ℕ → List ℕ
word n = n % 256 ∷ n / 256 % 256 ∷ n / 65536 % 256 ∷ n / 16777216 ∷ []

R : ℕ → ℕ → ℕ → ℕ → ℕ → ℕ → List ℕ
R a b c d left ia = 82 ∷ word a ++ word b ++ word c ++ word d ++ (left ∷ ia ∷ [])

object : ℕ → List ℕ → List ℕ
object t elements = 84 ∷ t ∷ elements ++ (69 ∷ [])

-- a region: x from a to c, y from b to d
box : ℕ → ℕ → ℕ → ℕ → List ℕ
box a b c d =
    object 3
    (R a b c b 1 1 ++ R a b a d 1 0 ++ R a b a d 0 0 ++ R a d c d 1 0 ++ R a b c b 0 1 ++ R c b c d 1 1 ++ R a d c d 0 0 ++ R c b c d 0 1)

-- a scene and a lent buffer, with number, place and count, and the buffer after the call
pub record Example : Type 0 where
  pub scene : List ℕ
  pub buffer : List ℕ
  pub values : List ℕ
  pub after : List ℕ

infix 30 ◌lent◌gives◌and◌
◌lent◌gives◌and◌ : List ℕ → List ℕ → List ℕ → List ℕ → Example
s lent b gives v and a = record { scene = s; buffer = b; values = v; after = a }

pub answered : Example → List ℕ
answered e = let r = overlap_values (overlap_of e.scene e.buffer) in r.number ∷ r.place ∷ r.count ∷ buffer_after e.scene e.buffer

pub expected : Example → List ℕ
expected e = e.values ++ e.after

pub examples : List Example
unfolding word R object box ◌lent◌gives◌and◌
examples =
    -- "The overlap list of e is 1 3 3 1 4 3 1": e is the square 0..2 beside x 2..4, y 0..2; the last byte of the buffer stays
    (box 0 0 2 2 ++ box 2 0 4 2 lent 9 ∷ 9 ∷ 9 ∷ 9 ∷ 9 ∷ 9 ∷ 9 ∷ 9 ∷ [] gives 0 ∷ 0 ∷ 7 ∷ [] and (1 ∷ 3 ∷ 3 ∷ 1 ∷ 4 ∷ 3 ∷ 1 ∷ 9 ∷ []))
    -- a buffer of exactly the count is enough; one less is 17
    ∷ (box 0 0 2 2 ++ box 2 0 4 2 lent 9 ∷ 9 ∷ 9 ∷ 9 ∷ 9 ∷ 9 ∷ 9 ∷ [] gives 0 ∷ 0 ∷ 7 ∷ [] and (1 ∷ 3 ∷ 3 ∷ 1 ∷ 4 ∷ 3 ∷ 1 ∷ []))
    ∷ (box 0 0 2 2 ++ box 2 0 4 2 lent 9 ∷ 9 ∷ 9 ∷ 9 ∷ 9 ∷ 9 ∷ [] gives 17 ∷ 0 ∷ 0 ∷ [] and (9 ∷ 9 ∷ 9 ∷ 9 ∷ 9 ∷ 9 ∷ []))
    -- a square in a square: (1/2) and (2/1) for the inner one
    ∷ (box 0 0 4 4 ++ box 1 1 3 3 lent 9 ∷ 9 ∷ 9 ∷ 9 ∷ 9 ∷ 9 ∷ 9 ∷ 9 ∷ [] gives 0 ∷ 0 ∷ 8 ∷ [] and (1 ∷ 3 ∷ 3 ∷ 5 ∷ 7 ∷ 7 ∷ 5 ∷ 1 ∷ []))
    -- twice the same square: (0/2) and (2/0)
    ∷ (box 0 0 4 4 ++ box 0 0 4 4 lent 9 ∷ 9 ∷ 9 ∷ 9 ∷ [] gives 0 ∷ 0 ∷ 4 ∷ [] and (2 ∷ 6 ∷ 6 ∷ 2 ∷ []))
    -- two empty regions
    ∷ (object 3 [] ++ object 3 [] lent [] gives 0 ∷ 0 ∷ 0 ∷ [] and [])
    -- 17: "F a square, G empty region, buffer of 3"
    ∷ (box 0 0 4 4 ++ object 3 [] lent 9 ∷ 9 ∷ 9 ∷ [] gives 17 ∷ 0 ∷ 0 ∷ [] and (9 ∷ 9 ∷ 9 ∷ []))
    -- 16: "84 1 69 84 1 69"; the first type record that is not 3, before 17, and after 10 to 15
    ∷ (object 1 [] ++ object 1 [] lent 9 ∷ [] gives 16 ∷ 0 ∷ 0 ∷ [] and (9 ∷ []))
    ∷ (object 2 [] ++ box 0 0 4 4 lent [] gives 16 ∷ 0 ∷ 0 ∷ [] and [])
    ∷ (object 2 [] ++ object 3 (R 0 0 4 0 1 1) lent [] gives 11 ∷ 5 ∷ 0 ∷ [] and [])
    ∷ []

-- every example is answered as it says
pub lists : map answered examples ≡ map expected examples
unfolding word R object box ◌lent◌gives◌and◌ answered expected examples adjoins overlap_bytes check_list edges odd within before is_same_point is_same_segment ordered side dominating far_end comes_before side_at is_at is_not_before is_not_after on is_end counts_below counts_below_left is_on_some inside interior_above ends_at opposite cross end_within touch signed coordinate kind_of shape_of record_at elements_from read_object read_scene segments is_in_order out_of_order partner unpaired touching touching_itself odd_end wrong_ia check_scene_by
lists = refl
