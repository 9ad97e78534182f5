-- How elements of two objects meet at points, by degrees: how many elements of an object have the point. Where a scene is taken, the boundary points of a
-- line and all points of a points object are bound, an end of one object lies on the other where it has a degree there too, and the flags at ends and
-- points follow from the degrees and notes that occur.
use Rattle.std.specs.Prelude.{ℕ, Bool, not, ◌&&◌, List, eqb, ltb, get_or}
use Rattle.whole.specs.Count.{some, count}
use Rattle.plane.specs.declared.Point.{Point}
use Rattle.plane.specs.Plane.{is_same_point, is_boundary}
use Rattle.scene.specs.declared.Layout.{Layout}
use Rattle.scene.specs.declared.Scene.{Scene}
use Rattle.scene.specs.Conditions.{elements}
use Rattle.scene_keys.specs.Keyed.{element_point}
use Rattle.flags_meetings.specs.declared.Meetings.{Meetings}

module _ (s : List ℕ) (l : Layout) where
  -- how many elements have the point
  unfoldable pub degree : Point → ℕ
  degree v = count (λ i. is_same_point (element_point s l i) v) (elements l)

-- A point is bound in an object if the boundary rule holds of its degree there, and inner if some element has it and the rule does not hold
abbrev pub is_inner : ℕ → Bool
is_inner a = ltb 0 a && not (is_boundary a)

-- ---- the tests: of a point of degree a in F and b in G, with the note n of an element of F that has it

abbrev pub Test : Type 0
Test = (a b n : ℕ) → Bool

-- bound in F, and none of G's: outside G, inside G and on it, by the note. Beside a line the first two are both "off it".
abbrev pub bound_outside_test : Test
bound_outside_test a b n = is_boundary a && (eqb b 0 && eqb n 0)

abbrev pub bound_inside_test : Test
bound_inside_test a b n = is_boundary a && (eqb b 0 && eqb n 1)

abbrev pub bound_on_test : Test
bound_on_test a b n = is_boundary a && (eqb b 0 && ltb 1 n)

-- of both, by its kind in F and its kind in G
abbrev pub bound_bound_test : Test
bound_bound_test a b n = is_boundary a && is_boundary b

abbrev pub bound_inner_test : Test
bound_inner_test a b n = is_boundary a && is_inner b

abbrev pub inner_bound_test : Test
inner_bound_test a b n = is_inner a && is_boundary b

abbrev pub inner_inner_test : Test
inner_inner_test a b n = is_inner a && is_inner b

-- bound in G, and none of F's: whatever the note, of an element of G
abbrev pub bound_of_g_test : (a b : ℕ) → Bool
bound_of_g_test a b = eqb a 0 && is_boundary b

-- ---- the meetings of two objects

module _ (s : List ℕ) (sc : Scene) where
  -- some element of F passes, and some element of G
  abbrev pub some_of_f : List ℕ → Test → Bool
  some_of_f notes t = some (λ i. t (degree s sc.f (element_point s sc.f i)) (degree s sc.g (element_point s sc.f i)) (get_or notes i 0)) (elements sc.f)

  abbrev pub some_of_g : ((a b : ℕ) → Bool) → Bool
  some_of_g t = some (λ j. t (degree s sc.f (element_point s sc.g j)) (degree s sc.g (element_point s sc.g j))) (elements sc.g)

  abbrev pub meetings : List ℕ → Meetings
  meetings notes =
      record {
        bound_outside = some_of_f notes bound_outside_test;
        bound_inside = some_of_f notes bound_inside_test;
        bound_on = some_of_f notes bound_on_test;
        bound_bound = some_of_f notes bound_bound_test;
        bound_inner = some_of_f notes bound_inner_test;
        inner_bound = some_of_f notes inner_bound_test;
        inner_inner = some_of_f notes inner_inner_test;
        bound_of_g = some_of_g bound_of_g_test;
      }
