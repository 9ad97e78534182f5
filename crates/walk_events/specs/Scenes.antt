-- Scenes whose events the checker computes from their bytes: how many they are, and on one scene in which order they come and when a flag is set.
use Rattle.std.specs.Prelude.{Ok, Err, ℕ, ◌/◌, ◌%◌, ◌≡◌, refl, true, false, List, [], ◌∷◌, ◌++◌}
use Rattle.whole.specs.Count.{odd}
use Rattle.plane.specs.Plane.{within, before, is_same_point, is_same_segment, ordered, side, dominating, far_end, comes_before, side_at, is_at, is_not_before, is_not_after, on, is_end, counts_below, counts_below_left, is_on_some, inside, interior_above, is_boundary, ends_at, opposite, cross, end_within, touch}
use Rattle.scene.specs.declared.Shape.TheVariants.{Points, Line}
use Rattle.scene.specs.declared.Scene.{Scene}
use Rattle.scene.specs.Read.{CheckedScene, signed, coordinate, kind_of, shape_of, record_at, elements_from, read_object, read_scene}
use Rattle.scene.specs.Conditions.{segments, is_in_order, out_of_order, partner, unpaired, touching, touching_itself, odd_end, wrong_ia, check_scene_by, check_scene}
use Rattle.flags.specs.Flags.{has_bit}
use Rattle.flags.specs.Elements.{points_of}
use Rattle.walk_events.specs.Events.{f_alone, g_alone, same_event, event_before, events}
use Rattle.walk_events.specs.Portions.{total, found_g}

-- ---- records, as document 01 writes them

abbrev word : ℕ → List ℕ
word n = n % 256 ∷ n / 256 % 256 ∷ n / 65536 % 256 ∷ n / 16777216 ∷ []

abbrev P : ℕ → ℕ → List ℕ
P x y = 80 ∷ word x ++ word y

abbrev L : ℕ → ℕ → ℕ → ℕ → ℕ → List ℕ
L a b c d left = 76 ∷ word a ++ word b ++ word c ++ word d ++ (left ∷ [])

abbrev R : ℕ → ℕ → ℕ → ℕ → ℕ → ℕ → List ℕ
R a b c d left ia = 82 ∷ word a ++ word b ++ word c ++ word d ++ (left ∷ ia ∷ [])

abbrev object : ℕ → List ℕ → List ℕ
object type elements = 84 ∷ type ∷ elements ++ (69 ∷ [])

-- x from a to c, y from b to d
abbrev box : ℕ → ℕ → ℕ → ℕ → List ℕ
box a b c d =
    object 3 (R a b c b 1 1 ++ R a b a d 1 0 ++ R a b a d 0 0 ++ R a d c d 1 0 ++ R a b c b 0 1 ++ R c b c d 1 1 ++ R a d c d 0 0 ++ R c b c d 0 1)

-- ---- how many events

-- the scene is taken, and has n events; of a scene that is refused this says nothing that holds
abbrev pub HasEvents : List ℕ → ℕ → CheckedScene → Type 0
HasEvents s n (Err r) = ⊥
HasEvents s n (Ok sc) = total s sc ≡ n

-- document 01's scenes. a: the point (0,0) is not equal to the left half at it
abbrev a : List ℕ
a = object 1 (P 0 0 ++ P 2 2) ++ object 2 (L 0 0 4 0 1 ++ L 0 0 4 0 0 ++ L 4 0 4 3 1 ++ L 4 0 4 3 0)

-- e: 8 and 8 elements, two of them common, though ia differs
abbrev e : List ℕ
e = box 0 0 2 2 ++ box 2 0 4 2

-- f: all common
abbrev f : List ℕ
f = box 0 0 4 4 ++ box 0 0 4 4

-- g: no points twice
abbrev g : List ℕ
g = object 1 [] ++ object 1 []

pub counted : HasEvents a 6 (check_scene a) × HasEvents e 14 (check_scene e) × HasEvents f 8 (check_scene f) × HasEvents g 0 (check_scene g)
unfolding within before is_same_point is_same_segment ordered side dominating far_end comes_before side_at is_at is_not_before is_not_after on is_end counts_below counts_below_left is_on_some inside interior_above ends_at opposite cross end_within touch signed coordinate kind_of shape_of record_at elements_from read_object read_scene segments is_in_order out_of_order partner unpaired touching touching_itself odd_end wrong_ia check_scene_by check_scene odd events same_event event_before
counted = (refl, refl, refl, refl)

-- ---- P(0,0); L (0,0)-(4,0)

abbrev pub bytes : List ℕ
bytes = object 1 (P 0 0) ++ object 2 (L 0 0 4 0 1 ++ L 0 0 4 0 0)

abbrev pub sc : Scene
sc = record { f = record { shape = Points; start = 0; count = 1 }; g = record { shape = Line; start = 12; count = 2 } }

pub is_scene : check_scene bytes ≡ Ok sc
unfolding within before is_same_point is_same_segment ordered side dominating far_end comes_before side_at is_at is_not_before is_not_after on is_end opposite cross end_within touch signed coordinate kind_of shape_of record_at elements_from read_object read_scene segments is_in_order out_of_order partner unpaired touching touching_itself odd_end wrong_ia check_scene_by check_scene
is_scene = refl

-- left half, point, right half
pub in_order : events bytes sc ≡ g_alone 0 ∷ f_alone 0 ∷ g_alone 1 ∷ []
unfolding events same_event event_before before is_same_point is_same_segment side dominating far_end comes_before signed coordinate
in_order = refl

-- bound_poi_disjoint, at (4,0), is clear until the third event
pub clear_at_two : has_bit (found_g bytes sc 2) 0 ≡ false
unfolding events same_event event_before before is_same_point is_same_segment side dominating far_end comes_before signed coordinate segments points_of is_at is_end is_boundary ends_at has_bit odd
clear_at_two = refl

pub set_at_three : has_bit (found_g bytes sc 3) 0 ≡ true
unfolding events same_event event_before before is_same_point is_same_segment side dominating far_end comes_before signed coordinate segments points_of is_at is_end is_boundary ends_at has_bit odd
set_at_three = refl
