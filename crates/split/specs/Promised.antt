-- What the splitter promises of a pair that it takes: "writes an accepted scene .. The points covered and twice each region's area by the shoelace sum do not alter,
-- and nothing else is cut." (02, Paper 3).
use Rattle.std.specs.Prelude.{ℕ, ◌+◌, ◌≡◌, true, List, length, Ok}
use Rattle.plane.specs.Shoelace.{twice_area}
use Rattle.scene.specs.declared.Layout.{Layout}
use Rattle.scene.specs.declared.Scene.{Scene}
use Rattle.scene.specs.Read.{given_first, given_second}
use Rattle.scene.specs.Conditions.{is_region, segments, object, check_scene}
use Rattle.split_crossing.specs.Cuts.{SameParts, CutExactly}
use Rattle.split.specs.Split.{split_of, added_to, split_object, split_bytes, check_split}

-- of one object, split by the other
pub record SplitRight (s : List ℕ) (own other : Layout) : Type 0 where
  -- every point with fraction coordinates keeps its part: interior, boundary or exterior
  pub same_parts : SameParts (object s own) (split_object s own other)
  pub same_area : is_region own.shape ≡ true → twice_area (split_of s own other) ≡ twice_area (segments s own)
  -- the new ends are the points where a segment crosses or touches one of the other object, or a stretch in common ends, each of them
  pub cut : CutExactly (segments s other) (segments s own)
  -- "the count of added segments"
  pub counted : length (split_of s own other) ≡ length (segments s own) + added_to s own other

pub record SplitPromised (s : List ℕ) (sc : Scene) : Type 0 where
  pub scene : Scene
  pub accepted : check_scene (split_bytes s sc) ≡ Ok scene
  -- every point with fraction coordinates keeps its part in each object of the scene that is written
  pub first_parts : SameParts (object s (given_first sc)) (object (split_bytes s sc) (given_first scene))
  pub second_parts : SameParts (object s (given_second sc)) (object (split_bytes s sc) (given_second scene))
  pub first : SplitRight s (given_first sc) (given_second sc)
  pub second : SplitRight s (given_second sc) (given_first sc)

abbrev pub Promised : List ℕ → ℕ → Type 0
Promised s room = (sc : Scene) → check_split s room ≡ Ok sc → SplitPromised s sc
