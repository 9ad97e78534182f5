-- Examples of the estimate, each computed by the checker.
use Rattle.std.specs.Prelude.{◌≡◌, refl, true, false, List, [], ◌∷◌, map, ℤ, pos, negsuc, ◌-ℤ◌}
use Rattle.std.specs.Float.{fin}
use Rattle.std.specs.Float.Ieee.{of_int, round, add, sub, mul, neg, sum, size, span, climb, units, odd, lt}
use Rattle.std.specs.Int.Count.{count_trailing_zeros}
use Rattle.plane.specs.declared.Point.{Point}
use Rattle.plane.specs.Plane.{within, side}
use Rattle.estimate.specs.declared.Side.{Side}
use Rattle.estimate.specs.declared.Side.TheVariants.{Left, Right, Close}
use Rattle.estimate.specs.declared.Estimated.{Estimated}
use Rattle.estimate.specs.Estimate.{all_in_range, float_side, certain, estimated}

abbrev at : ℤ → ℤ → Point
at x y = record { x = x; y = y }

-- the origin to (x,0), and the point (0,1): the side value is x
abbrev along : ℤ → Estimated
along x = estimated (at (pos 0) (pos 0)) (at x (pos 0)) (at (pos 0) (pos 1))

abbrev sides : List Estimated → List Side
sides = map (λ (e : Estimated). e.side)

-- 524,289 is certain, 524,288 is not; so to the right
certain_from :
    sides (along (pos 524289) ∷ along (pos 524288) ∷ along (negsuc 524287) ∷ along (negsuc 524288) ∷ along (pos 1000000) ∷ [])
    ≡ (Left ∷ Close ∷ Close ∷ Right ∷ Left ∷ [])
unfolding estimated all_in_range within float_side certain of_int round add sub mul neg sum size span climb units odd count_trailing_zeros lt
certain_from = refl

-- outside the range
outside : along (pos 1000001) ≡ record { estimate = fin false 0 (pos 0); side = Close }
unfolding estimated all_in_range within
outside = refl

-- a zero that is below zero: the second product is -0 taken from, the first 0 times -5
below_zero : estimated (at (pos 0) (pos 0)) (at (pos 0) (pos 0)) (at (pos 0) (negsuc 4)) ≡ record { estimate = fin true 0 (pos 0); side = Close }
unfolding estimated all_in_range within float_side certain of_int round add sub mul neg sum size span climb units odd count_trailing_zeros lt
below_zero = refl

-- three points whose estimate lies 327,679 from the side value: 7045347 times 2 ^ 19
abbrev a : Point
a = at (negsuc 273770) (negsuc 999999)

abbrev b : Point
b = at (pos 905877) (pos 999997)

abbrev c : Point
c = at (negsuc 999999) (pos 900003)

far : estimated a b c ≡ record { estimate = fin false 7045347 (pos 19); side = Left }
unfolding estimated all_in_range within float_side certain of_int round add sub mul neg sum size span climb units odd count_trailing_zeros lt
far = refl

by_so_much : pos 3693790887936 -ℤ side a b c ≡ pos 327679
unfolding side
by_so_much = refl
