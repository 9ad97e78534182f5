-- The fields of the answer, and what its signs mean.
use Rattle.std.proofs.Common.{◌≡◌, ◌∙◌, refl, sym, ap, subst, ℕ, List}
use Rattle.plane_dimensions.specs.declared.Dimension.{Dimension}
use Rattle.plane_dimensions.specs.Dimensions.{sign}
use Rattle.cells_matrix.specs.Matrix.{Part, interior, boundary, exterior, cell_at}
use Rattle.cells.specs.Explored.{CellsAnswer, cells_answer_of, cells_values, NoDimensionWrong}
use Rattle.karvoiss.specs.declared.KarvoissCells.{KarvoissCells}
use Rattle.karvoiss.specs.Answer.{signs, cells_for_c, sign_of_cell, NoSignWrong}
use Rattle.karvoiss.proofs.karvoiss_cells.Goals as goal

sign_at : (m : List (List Dimension)) (r c : Part) → sign_of_cell (signs m) r c ≡ sign (cell_at m r c)
sign_at m interior interior = refl
sign_at m interior boundary = refl
sign_at m interior exterior = refl
sign_at m boundary interior = refl
sign_at m boundary boundary = refl
sign_at m boundary exterior = refl
sign_at m exterior interior = refl
sign_at m exterior boundary = refl
sign_at m exterior exterior = refl

-- no value is wrong, so no sign is
signs_right : (s : List ℕ) (m : List (List Dimension)) → NoDimensionWrong s m → NoSignWrong s (signs m)
signs_right s m right sc e r c = (cell_at m r c, sign_at m r c, right sc e r c)

in_fields : (s : List ℕ) {M : Type 0} {a : CellsAnswer} {x : KarvoissCells} → (a ≡ cells_answer_of s) × NoDimensionWrong s (cells_values a).cells × M
    → x ≡ cells_for_c a → (x ≡ cells_for_c (cells_answer_of s)) × NoSignWrong s x.cell × M
in_fields s {a = a} e is = (is ∙ ap cells_for_c e.0, subst (λ (x : KarvoissCells). NoSignWrong s x.cell) (sym is) (signs_right s (cells_values a).cells e.1), e.2)

pub returns : goal.returns
returns c = in_fields c.args.scene.now c.explore.ensures c.into.ensures
