-- An empty object of a type, as its bytes: "An object is a type record, 0 to 1,024 elements of its kind, and an end."
use Rattle.std.specs.Prelude.{ℕ, List, [], ◌∷◌}
use Rattle.scene.specs.declared.Shape.{Shape}
use Rattle.scene.specs.Read.{shape_number}

abbrev pub empty_of : Shape → List ℕ
empty_of k = 84 ∷ shape_number k ∷ 69 ∷ []
