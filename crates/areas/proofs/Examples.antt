-- The three areas of small scenes, and the refusals, computed from the definitions.
use Rattle.scene.specs.declared.Reason.{Reason}
use Rattle.scene.specs.declared.Reason.TheVariants.{Flawed, NotRegions}
use Rattle.scene.specs.declared.Flaw.TheVariants.{Unpaired}
use Rattle.std.specs.Prelude.{ℕ, ◌-◌, ◌*◌, ◌/◌, ◌%◌, ◌^◌, ◌≡◌, refl, List, [], ◌∷◌, ◌++◌, map, pos}
use Rattle.whole.specs.Count.{odd}
use Rattle.plane.specs.Plane.{limit, within, before, is_same_point, is_same_segment, ordered, side, dominating, far_end, comes_before, side_at, is_at, is_not_before, is_not_after, on, is_end, counts_below, counts_below_left, is_on_some, inside, interior_above, ends_at, opposite, cross, end_within, touch}
use Rattle.scene.specs.Read.{signed, coordinate, kind_of, shape_of, record_at, elements_from, read_object, read_scene}
use Rattle.scene.specs.Conditions.{segments, is_in_order, out_of_order, partner, unpaired, touching, touching_itself, odd_end, wrong_ia, check_scene_by}
use Rattle.flags.specs.Elements.{edges}
use Rattle.overlap.specs.Bytes.{adjoins}
use Rattle.overlap.specs.Rules.{check_regions}
use Rattle.plane.specs.Shoelace.{shoelace, weighed}
use Rattle.areas.specs.Parts.{part_area}
use Rattle.std.specs.Prelude.{Ok, Err}
use Rattle.areas.specs.Areas.{AreasAnswer, areas_of}

word : ℕ → List ℕ
word n = n % 256 ∷ n / 256 % 256 ∷ n / 65536 % 256 ∷ n / 16777216 ∷ []

R : ℕ → ℕ → ℕ → ℕ → ℕ → ℕ → List ℕ
R a b c d left ia = 82 ∷ word a ++ word b ++ word c ++ word d ++ (left ∷ ia ∷ [])

object : ℕ → List ℕ → List ℕ
object t elements = 84 ∷ t ∷ elements ++ (69 ∷ [])

-- a region: x from a to c, y from b to d
box : ℕ → ℕ → ℕ → ℕ → List ℕ
box a b c d =
    object 3
    (R a b c b 1 1 ++ R a b a d 1 0 ++ R a b a d 0 0 ++ R a d c d 1 0 ++ R a b c b 0 1 ++ R c b c d 1 1 ++ R a d c d 0 0 ++ R c b c d 0 1)

-- the square 0..6 with the hole 2..4; and the squares 0..4 and 2..6, split where they cross
ring : List ℕ
ring = object 3 (R 0 0 6 0 1 1 ++ R 0 0 0 6 1 0 ++ R 0 0 0 6 0 0 ++ R 0 6 6 6 1 0 ++ R 2 2 4 2 1 0 ++ R 2 2 2 4 1 1 ++ R 2 2 2 4 0 1 ++ R 2 4 4 4 1 1 ++ R 2 2 4 2 0 0 ++ R 4 2 4 4 1 0 ++ R 2 4 4 4 0 1 ++ R 4 2 4 4 0 0 ++ R 0 0 6 0 0 1 ++ R 6 0 6 6 1 1 ++ R 0 6 6 6 0 0 ++ R 6 0 6 6 0 1)

first : List ℕ
first = object 3 (R 0 0 4 0 1 1 ++ R 0 0 0 4 1 0 ++ R 0 0 0 4 0 0 ++ R 0 4 2 4 1 0 ++ R 0 4 2 4 0 0 ++ R 2 4 4 4 1 0 ++ R 0 0 4 0 0 1 ++ R 4 0 4 2 1 1 ++ R 4 0 4 2 0 1 ++ R 4 2 4 4 1 1 ++ R 2 4 4 4 0 0 ++ R 4 2 4 4 0 1)

second : List ℕ
second = object 3 (R 2 2 4 2 1 1 ++ R 2 2 2 4 1 0 ++ R 2 2 2 4 0 0 ++ R 2 4 2 6 1 0 ++ R 2 4 2 6 0 0 ++ R 2 6 6 6 1 0 ++ R 2 2 4 2 0 1 ++ R 4 2 6 2 1 1 ++ R 4 2 6 2 0 1 ++ R 6 2 6 6 1 1 ++ R 2 6 6 6 0 0 ++ R 6 2 6 6 0 1)

-- all of the range: -limit is written as 2 to the 32 less limit
all : List ℕ
all = box (2 ^ 32 - limit) (2 ^ 32 - limit) limit limit

pub record Example : Type 0 where
  pub scene : List ℕ
  pub answer : AreasAnswer

infix 30 ◌gives◌
◌gives◌ : List ℕ → AreasAnswer → Example
s gives a = record { scene = s; answer = a }

refused : Reason → ℕ → AreasAnswer
refused n p = Err (record { reason = n; place = p })

areas : ℕ → ℕ → ℕ → AreasAnswer
areas a b c = Ok (record { both = pos a; f_only = pos b; g_only = pos c })

pub examples : List Example
unfolding word R object box ring first second all ◌gives◌ refused areas
examples =
    -- two squares with a common side
    (box 0 0 2 2 ++ box 2 0 4 2 gives areas 0 8 8)
    -- a square in a square
    ∷ (box 0 0 4 4 ++ box 1 1 3 3 gives areas 8 24 0)
    ∷ (box 1 1 3 3 ++ box 0 0 4 4 gives areas 8 0 24)
    -- squares that overlap
    ∷ (first ++ second gives areas 8 24 24)
    -- a ring with its filling, and with the whole square
    ∷ (ring ++ box 2 2 4 4 gives areas 0 64 8)
    ∷ (ring ++ box 0 0 6 6 gives areas 64 0 8)
    -- twice the same square; apart; beside an empty region; two empty ones
    ∷ (box 0 0 4 4 ++ box 0 0 4 4 gives areas 32 0 0)
    ∷ (box 0 0 4 4 ++ box 9 9 10 11 gives areas 0 32 4)
    ∷ (box 0 0 4 4 ++ object 3 [] gives areas 0 32 0)
    ∷ (object 3 [] ++ object 3 [] gives areas 0 0 0)
    -- the whole range twice
    ∷ (all ++ all gives areas (8 * (limit * limit)) 0 0)
    -- 16, at the first type record in the bytes that is not 3, after 11
    ∷ (object 1 [] ++ object 1 [] gives refused NotRegions 0)
    ∷ (object 2 [] ++ box 0 0 4 4 gives refused NotRegions 0)
    ∷ (box 0 0 4 4 ++ object 1 [] gives refused NotRegions 155)
    ∷ (object 2 [] ++ object 3 (R 0 0 4 0 1 1) gives refused (Flawed Unpaired) 5)
    ∷ []

-- every example is answered as it says
pub measures : map (λ e. areas_of e.scene) examples ≡ map (λ e. e.answer) examples
unfolding word R object box ring first second all ◌gives◌ refused areas examples adjoins shoelace weighed part_area check_regions edges odd within before is_same_point is_same_segment ordered side dominating far_end comes_before side_at is_at is_not_before is_not_after on is_end counts_below counts_below_left is_on_some inside interior_above ends_at opposite cross end_within touch signed coordinate kind_of shape_of record_at elements_from read_object read_scene segments is_in_order out_of_order partner unpaired touching touching_itself odd_end wrong_ia check_scene_by
measures = refl
