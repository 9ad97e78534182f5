-- The small examples of document 01's table of refusals, with further ones for the order of the conditions, computed from the definitions.
use Rattle.std.specs.Prelude.{ℕ, suc, ◌-◌, ◌/◌, ◌%◌, ◌^◌, ◌≡◌, refl, List, [], ◌∷◌, ◌++◌, map, ℤ, pos, negsuc}
use Rattle.whole.specs.Count.{odd}
use Rattle.plane.specs.Plane.{within, before, is_same_point, is_same_segment, ordered, side, dominating, far_end, comes_before, side_at, is_at, is_not_before, is_not_after, on, is_end, counts_below, counts_below_left, interior_above, ends_at, opposite, cross, end_within, touch}
use Rattle.scene.specs.declared.Shape.TheVariants.{Points}
use Rattle.scene.specs.Read.{signed, coordinate, kind_of, shape_of, record_at, elements_from, read_object, read_scene, read_alone, Values, scene_values, object_values}
use Rattle.scene.specs.Conditions.{segments, is_in_order, out_of_order, partner, unpaired, touching, touching_itself, odd_end, wrong_ia, check_scene_by, check_scene, check_object}

-- ---- records, as document 01 writes them

word : ℕ → List ℕ
word n = n % 256 ∷ n / 256 % 256 ∷ n / 65536 % 256 ∷ n / 16777216 ∷ []

coord : ℤ → List ℕ
coord (pos n) = word n
coord (negsuc n) = word (2 ^ 32 - suc n)

P : ℤ → ℤ → List ℕ
P x y = 80 ∷ coord x ++ coord y

L : ℕ → ℕ → ℕ → ℕ → ℕ → List ℕ
L a b c d left = 76 ∷ word a ++ word b ++ word c ++ word d ++ (left ∷ [])

R : ℕ → ℕ → ℕ → ℕ → ℕ → ℕ → List ℕ
R a b c d left above = 82 ∷ word a ++ word b ++ word c ++ word d ++ (left ∷ above ∷ [])

object : ℕ → List ℕ → List ℕ
object t elements = 84 ∷ t ∷ elements ++ (69 ∷ [])

-- x and y from 0 to 4, with the bottom's ia
square : ℕ → List ℕ
square bottom =
    R 0 0 4 0 1 bottom ++ R 0 0 0 4 1 0 ++ R 0 0 0 4 0 0 ++ R 0 4 4 4 1 0
    ++ R 0 0 4 0 0 bottom ++ R 4 0 4 4 1 1 ++ R 0 4 4 4 0 0 ++ R 4 0 4 4 0 1

-- ---- bytes, with number and place of their refusal, or two zeros where they are taken

record Example : Type 0 where
  bytes : List ℕ
  number : ℕ
  place_of : ℕ

infix 30 ◌gives◌at◌
◌gives◌at◌ : List ℕ → ℕ → ℕ → Example
b gives n at p = record { bytes = b; number = n; place_of = p }

answer : Values → List ℕ
answer v = v.number ∷ v.place ∷ []

expected : Example → List ℕ
expected e = e.number ∷ e.place_of ∷ []

scenes : List Example
unfolding word coord P L R object square ◌gives◌at◌
scenes =
    -- the table
    (84 ∷ 1 ∷ [] gives 1 at 2)
    ∷ (84 ∷ 1 ∷ 76 ∷ [] gives 2 at 2)
    ∷ (84 ∷ 4 ∷ [] gives 3 at 0)
    ∷ (84 ∷ 1 ∷ P (pos 10000001) (pos 0) gives 4 at 2)
    ∷ (84 ∷ 2 ∷ L 3 0 3 0 1 gives 5 at 2)
    ∷ (84 ∷ 1 ∷ 69 ∷ 84 ∷ 1 ∷ 69 ∷ 0 ∷ [] gives 7 at 6)
    ∷ (object 1 (P (pos 1) (pos 1) ++ P (pos 1) (pos 1)) ++ object 1 [] gives 10 at 11)
    ∷ (object 2 (L 0 0 4 0 1) ++ object 2 [] gives 11 at 2)
    ∷ (object 2 (L 0 0 4 0 1 ++ L 2 0 2 3 1 ++ L 2 0 2 3 0 ++ L 0 0 4 0 0) ++ object 2 [] gives 12 at 2)
    ∷ (object 3 (R 0 0 4 0 1 1 ++ R 0 0 4 0 0 1) ++ object 3 [] gives 13 at 2)
    ∷ (object 3 (square 0) ++ object 3 [] gives 14 at 2)
    ∷ (object 2 (L 0 2 4 2 1 ++ L 0 2 4 2 0) ++ object 2 (L 2 0 2 4 1 ++ L 2 0 2 4 0) gives 15 at 2)
    -- taken
    ∷ (object 1 [] ++ object 1 [] gives 0 at 0)
    ∷ (object 1 (P (negsuc 9999999) (pos 0) ++ P (pos 10000000) (negsuc 9999999)) ++ object 3 (square 1) gives 0 at 0)
    ∷ (object 3 (square 1) ++ object 3 (square 1) gives 0 at 0)
    -- document 01's bytes of scene l, out of range there
    ∷ (object 1 (P (pos 1000001) (pos 0)) ++ object 1 [] gives 0 at 0)
    -- no byte, a kind not allowed, a cut body, then the fields
    ∷ ([] gives 1 at 0)
    ∷ (80 ∷ [] gives 2 at 0)
    ∷ (84 ∷ [] gives 1 at 0)
    ∷ (84 ∷ 0 ∷ [] gives 3 at 0)
    ∷ (84 ∷ 1 ∷ 80 ∷ 0 ∷ [] gives 1 at 2)
    ∷ (84 ∷ 1 ∷ 84 ∷ 1 ∷ 69 ∷ [] gives 2 at 2)
    ∷ (object 1 [] gives 1 at 3)
    ∷ (object 2 (L 10000001 0 0 0 2) gives 3 at 2)
    ∷ (object 3 (R 0 0 4 0 1 2) gives 3 at 2)
    ∷ (object 2 (L 10000001 0 0 0 1) gives 4 at 2)
    ∷ (object 2 (L 4 0 0 0 1) gives 5 at 2)
    ∷ (object 1 (P (pos 0) (negsuc 10000000)) gives 4 at 2)
    -- 4: any other coordinate of any kind of record
    ∷ (object 1 (P (negsuc 10000000) (pos 0)) gives 4 at 2)
    ∷ (object 1 (P (pos 0) (pos 10000001)) gives 4 at 2)
    ∷ (object 2 (L 0 10000001 0 0 1) gives 4 at 2)
    ∷ (object 2 (L 0 0 10000001 0 1) gives 4 at 2)
    ∷ (object 2 (L 0 0 0 10000001 1) gives 4 at 2)
    ∷ (object 3 (R 10000001 0 0 0 1 1) gives 4 at 2)
    ∷ (object 3 (R 0 10000001 0 0 1 1) gives 4 at 2)
    ∷ (object 3 (R 0 0 10000001 0 1 1) gives 4 at 2)
    ∷ (object 3 (R 0 0 0 10000001 1 1) gives 4 at 2)
    -- 1 to 7 anywhere come before 10 to 15 anywhere, and 10 in the second object before 11 in the first
    ∷ (object 2 [] ++ object 1 [] ++ (69 ∷ []) gives 7 at 6)
    ∷ (object 2 (L 0 0 4 0 1) ++ object 2 (L 0 0 4 0 1 ++ L 0 0 4 0 1) gives 10 at 41)
    -- 10: collinear halfsegments on the same side at one point; records that differ in ia alone
    ∷ (object 2 (L 0 0 4 0 1 ++ L 0 0 8 0 1) ++ object 2 [] gives 10 at 20)
    ∷ (object 3 (R 0 0 4 0 1 0 ++ R 0 0 4 0 1 1) ++ object 3 [] gives 10 at 21)
    -- 11: halves with unequal ia, at the left one
    ∷ (object 3 (R 0 0 4 0 1 0 ++ R 0 0 4 0 0 1) ++ object 3 [] gives 11 at 2)
    -- 12: segments that cross off the grid
    ∷ (object 2 (L 0 0 1 1 1 ++ L 0 1 1 0 1 ++ L 0 1 1 0 0 ++ L 0 0 1 1 0) ++ object 2 [] gives 12 at 2)
    -- 13: on a right half, where two sides of a triangle end
    ∷ (object 3 (R 0 0 4 0 1 1 ++ R 0 0 4 4 1 0 ++ R 0 0 4 0 0 1 ++ R 0 0 4 4 0 0) ++ object 3 [] gives 13 at 40)
    -- types that descend: what was 8 is taken; for each number the object given first comes first, and for 15 the record is its own
    ∷ (object 2 [] ++ object 1 [] gives 0 at 0)
    ∷ (object 3 (square 1) ++ object 1 (P (pos 2) (pos 0)) gives 0 at 0)
    ∷ (object 2 (L 0 0 4 0 1 ++ L 0 0 4 0 1) ++ object 1 (P (pos 1) (pos 1) ++ P (pos 1) (pos 1)) gives 10 at 20)
    ∷ (object 2 (L 0 0 4 0 1) ++ object 1 (P (pos 1) (pos 1) ++ P (pos 1) (pos 1)) gives 10 at 32)
    ∷ (object 3 (square 1) ++ object 2 (L 2 3 2 5 1 ++ L 2 3 2 5 0) gives 15 at 59)
    ∷ (object 2 (L 2 3 2 5 1 ++ L 2 3 2 5 0) ++ object 3 (square 1) gives 15 at 2)
    -- points against segments are never 15
    ∷ (object 1 (P (pos 2) (pos 0)) ++ object 3 (square 1) gives 0 at 0)
    ∷ []

verdict : List ℕ → List ℕ
unfolding check_scene check_scene_by read_scene read_object elements_from record_at kind_of shape_of coordinate signed segments out_of_order is_in_order unpaired partner touching_itself touching odd_end wrong_ia within before is_same_point is_same_segment ordered side dominating far_end comes_before side_at is_at is_not_before is_not_after on is_end counts_below counts_below_left interior_above ends_at opposite cross end_within touch odd
verdict s = answer (scene_values (check_scene s))

scenes_answered : map (λ e. verdict e.bytes) scenes ≡ map expected scenes
unfolding scenes verdict answer expected
scenes_answered = refl

-- one object's bytes alone
objects : List Example
unfolding word coord P L R object square ◌gives◌at◌
objects =
    (object 3 (square 1) gives 0 at 0)
    ∷ ([] gives 1 at 0)
    ∷ (object 1 [] ++ (84 ∷ []) gives 7 at 3)
    ∷ (object 2 (L 0 0 4 0 1) gives 11 at 2)
    ∷ (object 3 (square 0) gives 14 at 2)
    ∷ []

object_verdict : List ℕ → List ℕ
unfolding verdict check_object read_alone
object_verdict s = answer (object_values (check_object s))

objects_answered : map (λ e. object_verdict e.bytes) objects ≡ map expected objects
unfolding objects object_verdict answer expected
objects_answered = refl

-- where no element may follow any more: 6 for an element, if only its kind byte is there, 2 for a kind not allowed, and the end is good
full : List Example
unfolding ◌gives◌at◌
full =
    (84 ∷ 1 ∷ 80 ∷ [] gives 6 at 2)
    ∷ (84 ∷ 1 ∷ 76 ∷ [] gives 2 at 2)
    ∷ (84 ∷ 1 ∷ [] gives 1 at 2)
    ∷ (84 ∷ 1 ∷ 69 ∷ [] gives 0 at 0)
    ∷ []

full_verdict : List ℕ → List ℕ
unfolding object_verdict
full_verdict s = answer (object_values (elements_from s 0 (record { shape = Points; start = 0; count = 0 })))

full_answered : map (λ e. full_verdict e.bytes) full ≡ map expected full
unfolding full full_verdict answer expected
full_answered = refl
