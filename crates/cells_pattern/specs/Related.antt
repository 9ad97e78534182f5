-- The pattern question over a scene's bytes and a pattern's bytes: what is answered, for every two byte strings, and what the answer means in points.
use Rattle.scene.specs.declared.Reason.TheVariants.{NotNine, NoCharacter}
use Rattle.std.specs.Prelude.{Result, Ok, Err, ℕ, ◌≡◌, ◌↔◌, Bool, false, List, [], ◌∷◌, T}
use Rattle.scene.specs.declared.Scene.{Scene}
use Rattle.scene.specs.declared.Refusal.{Refusal}
use Rattle.scene.specs.Read.{number_of, CheckedScene}
use Rattle.scene.specs.Conditions.{Rule, rule, scene_rules, check_scene_by}
use Rattle.cells_matrix.specs.Matrix.{Part}
use Rattle.cells.specs.Explored.{explored_in, matrix_from, InCell}
use Rattle.cells_pattern.specs.Pattern.{Demands, character_for, fits_all, first_other, not_nine}

-- "It refuses, after the scene's own refusals, with 22 .. and 23"
abbrev pub pattern_rules : List ℕ → List (Rule Scene)
pattern_rules p = rule NotNine (λ s sc. not_nine p) ∷ rule NoCharacter (λ s sc. first_other p 0) ∷ []

unfoldable pub check_relate : List ℕ → List ℕ → CheckedScene
check_relate s p = check_scene_by (scene_rules [] (pattern_rules p)) s

-- ---- the answer

abbrev pub RelateAnswer : Type 0
RelateAnswer = Result Bool Refusal

abbrev pub answered : List ℕ → List ℕ → CheckedScene → RelateAnswer
answered s p (Ok sc) = Ok (fits_all p (matrix_from (explored_in s sc)))
answered s p (Err r) = Err r

unfoldable pub relate_of : List ℕ → List ℕ → RelateAnswer
relate_of s p = answered s p (check_relate s p)

-- "Where an answer is an enum, a definition states this paper's number and values for every one of its cases." What is taken has number 0; of a refusal the
-- answer is no.
pub record RelateValues : Type 0 where
  pub number : ℕ
  pub place : ℕ
  pub holds : Bool

abbrev pub relate_values : RelateAnswer → RelateValues
relate_values (Ok holds) = record { number = 0; place = 0; holds = holds }
relate_values (Err r) = record { number = number_of r.reason; place = r.place; holds = false }

-- ---- what it means

-- Of a scene that is taken with a pattern that is: yes exactly if the cell of each T has a point with fraction coordinates, and that of each sign the sign's value.
-- Rows are those of the object given first, columns of the one given second.
abbrev pub NoPatternWrong : List ℕ → List ℕ → Bool → Type 0
NoPatternWrong s p holds =
    (sc : Scene) → check_relate s p ≡ Ok sc
    → T holds ↔ ((r c : Part) → Demands (character_for p r c) (InCell s sc r c))
