-- Patterns against the matrix of document 01's scene a, and patterns that are turned away, by computation.
use Rattle.scene.specs.declared.Reason.{Reason}
use Rattle.scene.specs.declared.Reason.TheVariants.{NotNine, NoCharacter}
use Rattle.std.specs.Prelude.{Err, Ok}
use Rattle.check_verdict.specs.Refusals.{Verdict}
use Rattle.std.specs.Prelude.{ℕ, ◌≡◌, refl, true, false, List, [], ◌∷◌}
use Rattle.plane_dimensions.specs.declared.Dimension.{Dimension}
use Rattle.plane_dimensions.specs.declared.Dimension.TheVariants.{Empty, Points, Length, Area}
use Rattle.cells_matrix.specs.Matrix.{transposed}
use Rattle.cells_pattern.specs.Pattern.{fits_all}
use Rattle.cells_pattern.specs.Asked.{pattern_verdict}

-- T, F, * and the digits
abbrev y : ℕ
y = 84

abbrev n : ℕ
n = 70

abbrev e : ℕ
e = 42

abbrev zero_sign : ℕ
zero_sign = 48

abbrev one_sign : ℕ
one_sign = 49

abbrev two_sign : ℕ
two_sign = 50

-- "F00FFF102"
abbrev scene_a : List (List Dimension)
scene_a = (Empty ∷ Points ∷ Points ∷ []) ∷ (Empty ∷ Empty ∷ Empty ∷ []) ∷ (Length ∷ Points ∷ Area ∷ []) ∷ []

-- FTTFFFTTT
abbrev rows : List ℕ
rows = n ∷ y ∷ y ∷ n ∷ n ∷ n ∷ y ∷ y ∷ y ∷ []

-- FFTTFTTFT
abbrev columns : List ℕ
columns = n ∷ n ∷ y ∷ y ∷ n ∷ y ∷ y ∷ n ∷ y ∷ []

-- F00FFF102 with a last character, and F01FFF102
abbrev digits : ℕ → List ℕ
digits c = n ∷ zero_sign ∷ zero_sign ∷ n ∷ n ∷ n ∷ one_sign ∷ zero_sign ∷ c ∷ []

own_signs : fits_all (digits two_sign) scene_a ≡ true
unfolding fits_all
own_signs = refl

other_sign : fits_all (n ∷ zero_sign ∷ one_sign ∷ n ∷ n ∷ n ∷ one_sign ∷ zero_sign ∷ two_sign ∷ []) scene_a ≡ false
unfolding fits_all
other_sign = refl

own_rows : fits_all rows scene_a ≡ true
unfolding fits_all
own_rows = refl

not_columns : fits_all columns scene_a ≡ false
unfolding fits_all
not_columns = refl

-- the objects exchanged
exchanged : fits_all columns (transposed scene_a) ≡ true
unfolding fits_all
exchanged = refl

not_rows : fits_all rows (transposed scene_a) ≡ false
unfolding fits_all
not_rows = refl

-- "inside": T*F**F***, which b's are not
inside : fits_all (y ∷ e ∷ n ∷ e ∷ e ∷ n ∷ e ∷ e ∷ e ∷ []) scene_a ≡ false
unfolding fits_all
inside = refl

-- ---- what is turned away

abbrev refused : Reason → ℕ → Verdict
refused reason place = Err (record { reason = reason; place = place })

nine : pattern_verdict rows ≡ (Ok tt)
unfolding pattern_verdict
nine = refl

none : pattern_verdict [] ≡ refused NotNine 0
unfolding pattern_verdict
none = refl

eight : pattern_verdict (n ∷ y ∷ y ∷ n ∷ n ∷ n ∷ y ∷ y ∷ []) ≡ refused NotNine 0
unfolding pattern_verdict
eight = refl

ten : pattern_verdict (n ∷ y ∷ y ∷ n ∷ n ∷ n ∷ y ∷ y ∷ y ∷ 120 ∷ []) ≡ refused NotNine 0
unfolding pattern_verdict
ten = refl

-- F00FFF103, TTTFFFTTx, and fTTFFFTTT
no_sign : pattern_verdict (digits 51) ≡ refused NoCharacter 8
unfolding pattern_verdict
no_sign = refl

last : pattern_verdict (y ∷ y ∷ y ∷ n ∷ n ∷ n ∷ y ∷ y ∷ 120 ∷ []) ≡ refused NoCharacter 8
unfolding pattern_verdict
last = refl

lower_case : pattern_verdict (102 ∷ y ∷ y ∷ n ∷ n ∷ n ∷ y ∷ y ∷ y ∷ []) ≡ refused NoCharacter 0
unfolding pattern_verdict
lower_case = refl
