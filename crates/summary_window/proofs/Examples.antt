-- Examples of the window, each computed by the checker: 1.0 and the float above it, both zeros, and what is not finite.
use Rattle.std.specs.Prelude.{◌≡◌, refl, Bool, true, false, [], ◌∷◌, pos, negsuc, Float}
use Rattle.std.specs.Int.Count.{count_trailing_zeros}
use Rattle.std.specs.Float.{nan, inf, fin}
use Rattle.std.specs.Float.Ieee.{of_int, round, size, span, climb, units, odd, lt, eq, le}
use Rattle.summary.specs.declared.Bounds.{Bounds}
use Rattle.summary_window.specs.declared.Window.{Window}
use Rattle.summary_window.specs.Window.{is_range, is_window, shares_of, meets}

abbrev from : Float → Float → Window
from l g = record { least_x = l; least_y = l; greatest_x = g; greatest_y = g }

abbrev one : Float
one = fin false 1 (pos 0)

abbrev above_one : Float
above_one = fin false 8388609 (negsuc 22)

abbrev ten : Float
ten = fin false 5 (pos 1)

abbrev zero : Bool → Float
zero s = fin s 0 (pos 0)

-- a box that ends at 1
abbrev box : Bounds
box = record { least = record { x = pos 0; y = pos 0 }; greatest = record { x = pos 1; y = pos 1 } }

at_the_edge : (meets (from one ten) box ∷ meets (from above_one ten) box ∷ []) ≡ (true ∷ false ∷ [])
unfolding meets shares_of of_int round size span climb units odd count_trailing_zeros lt eq le
at_the_edge = refl

windows :
    (is_window (from one ten) ∷ is_window (from one one) ∷ is_window (from ten one) ∷ is_window (from (zero false) (zero true)) ∷ is_window (from nan ten) ∷ is_window (from one (inf false)) ∷ is_window (from (inf true) one) ∷ [])
    ≡ (true ∷ true ∷ false ∷ true ∷ false ∷ false ∷ false ∷ [])
unfolding is_window is_range lt eq le
windows = refl
