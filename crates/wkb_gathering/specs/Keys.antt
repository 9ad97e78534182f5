-- What was read, as keys: the points of parts, and the segments between neighbours in a row, each by the keys of its two ends.
use Rattle.std.specs.Prelude.{ℕ, cond, Option, Some, None, List, [], ◌∷◌, ◌++◌, map, ltb}
use Rattle.std.specs.List.{flat_map}
use Rattle.scene_keys.specs.declared.Ends.{Ends}
use Rattle.scene_keys.specs.Keyed.{key}
use Rattle.wkb_grammar.specs.Grammar.{Row}

-- the points of a part
abbrev pub part_keys : List Row → List ℕ
part_keys = flat_map (map key)

-- the segment between two points, the lower key first; none where they are equal
abbrev pub between_keys : ℕ → ℕ → List Ends
between_keys a b = cond (ltb a b) (record { left = a; right = b } ∷ []) (cond (ltb b a) (record { left = b; right = a } ∷ []) [])

-- after the point before, if there is one
abbrev pub linked : Option ℕ → ℕ → List Ends
linked None b = []
linked (Some a) b = between_keys a b

abbrev pub along_keys : Option ℕ → List ℕ → List Ends
along_keys before [] = []
along_keys before (k ∷ l) = linked before k ++ along_keys (Some k) l

-- the segments of a row, and of a part
abbrev pub row_ends : Row → List Ends
row_ends row = along_keys None (map key row)

abbrev pub part_ends : List Row → List Ends
part_ends = flat_map row_ends
