-- The floats at and beside the limit, computed from their bit patterns: 10,000,000 and -0 are taken, 10,000,000.5 and the smallest float are not.
use Rattle.std.specs.Prelude.{◌≡◌, ℕ, true, List, [], ◌∷◌, map, pos, neg_ℤ, refl, Float}
use Rattle.std.specs.Float.{nan, inf, binary64}
use Rattle.std.specs.Float.Ieee.{of_bits}
use Rattle.wkb_coordinate.specs.declared.Coordinate.TheVariants.{Whole, Other}
use Rattle.wkb_coordinate.specs.Coordinate.{coordinate_of}

abbrev float : ℕ → Float
float bits = of_bits binary64 bits

taken : map (λ b. coordinate_of (float b)) (0 ∷ 0x8000000000000000 ∷ 0x3ff0000000000000 ∷ 0x416312d000000000 ∷ 0xc16312d000000000 ∷ []) ≡ Whole (pos 0) ∷ Whole (pos 0) ∷ Whole (pos 1) ∷ Whole (pos 10000000) ∷ Whole (neg_ℤ (pos 10000000)) ∷ []
unfolding coordinate_of of_bits
taken = refl

-- 0.5, 10,000,000.5, 10,000,001, 5e-324
goes_back : List ℕ
goes_back = 0x3fe0000000000000 ∷ 0x416312d010000000 ∷ 0x416312d020000000 ∷ 1 ∷ []

not_taken : map (λ b. coordinate_of (float b)) goes_back ≡ map (λ b. Other (float b)) goes_back
unfolding coordinate_of of_bits goes_back
not_taken = refl

-- a NaN and an infinity
no_number : map (λ b. coordinate_of (float b)) (0x7ff8000000000000 ∷ 0xfff0000000000000 ∷ []) ≡ Other nan ∷ Other (inf true) ∷ []
unfolding coordinate_of of_bits
no_number = refl
