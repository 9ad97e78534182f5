-- What a question about two regions turns away after all others, 16, and the overlap list question after that, 17; and what the check of a scene promises
-- of the sweep's notes.
use Rattle.scene.specs.declared.Reason.TheVariants.{NotRegions, ShortBuffer}
use Rattle.std.specs.Prelude.{Ok, Err, ℕ, ◌≡◌, List, [], ◌∷◌, length, leb}
use Rattle.scene.specs.declared.Scene.{Scene}
use Rattle.scene.specs.Read.{CheckedScene, Fault, unless, judge, given_first, given_second}
use Rattle.scene.specs.Conditions.{is_region, Rule, rule, or_else, conditions, scene_rules, check_scene_by}
use Rattle.flags.specs.Elements.{edges}
use Rattle.overlap.specs.Bytes.{overlap_bytes}
use Rattle.sweep_laws.specs.Noted.{Noted}

abbrev pub list_of : List ℕ → Scene → List ℕ
list_of s sc = overlap_bytes (edges s sc.f) (edges s sc.g)

-- 16: "overlap list, a type is not 3"; "for 16 the first such type record" in the bytes
abbrev pub not_regions : List ℕ → Scene → Fault
not_regions s sc =
    or_else (unless (is_region (given_first sc).shape) (given_first sc).start) (unless (is_region (given_second sc).shape) (given_second sc).start)

abbrev pub region_rules : List (Rule Scene)
region_rules = rule NotRegions not_regions ∷ []

-- of a scene that passes all others
abbrev pub judged : List ℕ → Scene → CheckedScene
judged s sc = judge Err (Ok sc) (conditions region_rules s sc)

-- two regions: the scene's own refusals, then 16
unfoldable pub check_regions : List ℕ → CheckedScene
check_regions s = check_scene_by (scene_rules [] region_rules) s

-- 17: "overlap list, buffer shorter than the count"; "For 9 and 17 it is 0"
abbrev pub shorter : ℕ → List ℕ → Scene → Fault
shorter room s sc = unless (leb (length (list_of s sc)) room) 0

abbrev pub list_rules : ℕ → List (Rule Scene)
list_rules room = rule NotRegions not_regions ∷ rule ShortBuffer (shorter room) ∷ []

unfoldable pub check_list : List ℕ → ℕ → CheckedScene
check_list s room = check_scene_by (scene_rules [] (list_rules room)) s

-- the notes are left where the scene is taken
module _ (s : List ℕ) where
  abbrev pub NotedWhere : CheckedScene → List ℕ → Type 0
  NotedWhere checked notes = (sc : Scene) → checked ≡ Ok sc → Noted s sc notes
