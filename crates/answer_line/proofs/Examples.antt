-- The lines of the values of document 01's scenes a and l, a few numbers, and the longest line, computed.
use Rattle.std.specs.Prelude.{◌≡◌, refl, ℕ, List, [], ◌∷◌, length}
use Rattle.plane_dimensions.specs.declared.Dimension.{Dimension}
use Rattle.plane_dimensions.specs.declared.Dimension.TheVariants.{Empty, Points, Length, Area}
use Rattle.cells.specs.Explored.{CellsValues}
use Rattle.answer_line.specs.Line.{digits, decimal, ok_line, no_line, line_of}

abbrev values : ℕ → ℕ → ℕ → ℕ → ℕ → ℕ → List (List Dimension) → CellsValues
values number place f g v w cells = record { number = number; place = place; f = f; g = g; v = v; w = w; cells = cells }

-- "ok 1 2 5 1 F00FFF102"
scene_a_lem : line_of (values 0 0 1 2 5 1 ((Empty ∷ Points ∷ Points ∷ []) ∷ (Empty ∷ Empty ∷ Empty ∷ []) ∷ (Length ∷ Points ∷ Area ∷ []) ∷ []))
    ≡ 111 ∷ 107 ∷ 32 ∷ 49 ∷ 32 ∷ 50 ∷ 32 ∷ 53 ∷ 32 ∷ 49 ∷ 32 ∷ 70 ∷ 48 ∷ 48 ∷ 70 ∷ 70 ∷ 70 ∷ 49 ∷ 48 ∷ 50 ∷ 10 ∷ []
unfolding line_of ok_line decimal digits
scene_a_lem = refl

-- "no 4 2"
scene_l : line_of (values 4 2 0 0 0 0 []) ≡ 110 ∷ 111 ∷ 32 ∷ 52 ∷ 32 ∷ 50 ∷ 10 ∷ []
unfolding line_of no_line decimal digits
scene_l = refl

-- "0" and "2040"
zero_digits : decimal 0 ≡ 48 ∷ []
unfolding decimal digits
zero_digits = refl

four_digits : decimal 2040 ≡ 50 ∷ 48 ∷ 52 ∷ 48 ∷ []
unfolding decimal digits
four_digits = refl

-- the longest line of a program's numbers
longest : length (line_of (values 0 0 255 255 65535 65535 ((Area ∷ Area ∷ Area ∷ []) ∷ (Area ∷ Area ∷ Area ∷ []) ∷ (Area ∷ Area ∷ Area ∷ []) ∷ []))) ≡ 33
unfolding line_of ok_line decimal digits
longest = refl
