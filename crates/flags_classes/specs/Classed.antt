-- The classes of an object's segments beside the other object: one of the other's, with the interiors on one side or on both, or none of them, with the
-- note that the sweep made of it.
use Rattle.std.specs.Prelude.{ℕ, ◌+◌, Bool, true, false, not, ◌&&◌, ◌||◌, List, eqb, get_or}
use Rattle.whole.specs.Count.{some}
use Rattle.scene.specs.declared.Layout.{Layout}
use Rattle.scene.specs.declared.Scene.{Scene}
use Rattle.scene.specs.Conditions.{elements, half, ia, left_test, segments}
use Rattle.flags.specs.Flags.{has_segment}
use Rattle.flags.specs.Elements.{edges, has_edge}
use Rattle.flags_classes.specs.declared.Classes.{Classes}

-- some left halfsegment of an object passes
abbrev pub some_left : List ℕ → Layout → (ℕ → Bool) → Bool
some_left s l t = some (λ i. left_test s l i && t i) (elements l)

module _ (s : List ℕ) (own other : Layout) where
  -- the segment of the element i is one of the other's; it is one with the other's interior above it, and one with it below
  abbrev pub is_shared : ℕ → Bool
  is_shared i = has_segment (segments s other) (half s own i).segment

  abbrev pub other_above : ℕ → Bool
  other_above i = has_edge (edges s other) (half s own i).segment true

  abbrev pub other_below : ℕ → Bool
  other_below i = has_edge (edges s other) (half s own i).segment false

  -- ---- the tests

  -- none of the other's, with a note of 0 or another: (0/1), (1/0), (1/2), (2/1)
  module _ (note : ℕ → ℕ) where
    abbrev pub above_outside_test : ℕ → Bool
    above_outside_test i = ia s own i && (not (is_shared i) && eqb (note i) 0)

    abbrev pub below_outside_test : ℕ → Bool
    below_outside_test i = not (ia s own i) && (not (is_shared i) && eqb (note i) 0)

    abbrev pub above_inside_test : ℕ → Bool
    above_inside_test i = ia s own i && (not (is_shared i) && not (eqb (note i) 0))

    abbrev pub below_inside_test : ℕ → Bool
    below_inside_test i = not (ia s own i) && (not (is_shared i) && not (eqb (note i) 0))

  -- one of the other's, with both interiors above it, with both below it, and with one on each side: (0/2), (2/0), (1/1)
  abbrev pub both_above_test : ℕ → Bool
  both_above_test i = ia s own i && other_above i

  abbrev pub both_below_test : ℕ → Bool
  both_below_test i = not (ia s own i) && other_below i

  abbrev pub opposite : ℕ → Bool
  opposite i = ia s own i && other_below i || not (ia s own i) && other_above i

  -- ---- the classes of the object

  abbrev pub classes : (ℕ → ℕ) → Classes
  classes note =
      record {
        above_outside = some_left s own (above_outside_test note);
        below_outside = some_left s own (below_outside_test note);
        above_inside = some_left s own (above_inside_test note);
        below_inside = some_left s own (below_inside_test note);
        both_above = some_left s own both_above_test;
        both_below = some_left s own both_below_test;
        opposite = some_left s own opposite;
      }

module _ (s : List ℕ) (sc : Scene) (notes : List ℕ) where
  abbrev pub classes_of_f : Classes
  classes_of_f = classes s sc.f sc.g (λ i. get_or notes i 0)

  abbrev pub classes_of_g : Classes
  classes_of_g = classes s sc.g sc.f (λ j. get_or notes (1024 + j) 0)
