-- Each case of the scene's answer and of the pattern's, and what it says.
use Rattle.std.proofs.Common.{◌∙◌, ◌&&◌, ap, length}
use Rattle.std.specs.Prelude.{eqb}
use Rattle.cells.specs.declared.Explored.{Explored}
use Rattle.cells.specs.Explored.{matrix_from}
use Rattle.cells_matrix.specs.Matrix.{exterior, cell_at}
use Rattle.scene.proofs.Outcomes.{handed_on}
use Rattle.flags_masks.specs.declared.Wanted.{Wanted}
use Rattle.flags_vectors.specs.Vectors.{answer_of}
use Rattle.cells_pattern.specs.Pattern.{fits_all}
use Rattle.cells_pattern.proofs.ReadOff.{always_area}
use Rattle.cells_pattern.proofs.Related.{scene_refused, holds, holds_not}
use Rattle.cells_pattern.proofs.question.relate.Goals as goal

pub returns-in_err-answer : goal.returns-in_err-answer
returns-in_err-answer c =
    scene_refused c.args.s.now c.args.p.now (c.answer.ensures ∙ ap (λ cells. answer_of c.args.s.now (Wanted.Cells cells)) c.asked_cells.ensures) c.in_err-answer.field-0.0 c.in_err-answer.was (handed_on c.from_residual.result c.from_residual.ensures.1)

pub fits_all-requires : goal.fits_all-requires
fits_all-requires c =
    let a = c.in_ok-answer.answer in
    ap (λ m. cell_at m exterior exterior) (c.matrix.ensures ∙ ap (λ (e : Explored). matrix_from e) c.explored-explored.ensures) ∙ always_area a.scene a.vectors

pub returns-then-fits_all : goal.returns-then-fits_all
returns-then-fits_all c =
    let p = c.args.p.now in
    let a = c.in_ok-answer.answer in
    let read = c.matrix.ensures ∙ ap (λ (e : Explored). matrix_from e) c.explored-explored.ensures in
    holds c.args.s.now p (c.answer.ensures ∙ ap (λ cells. answer_of c.args.s.now (Wanted.Cells cells)) c.asked_cells.ensures) a.scene a.vectors c.in_ok-answer.was (c.fits_all.ensures ∙ ap (λ m. eqb (length p) 9 && fits_all p m) read) c.if-fits_all.true

pub returns-else-fits_all : goal.returns-else-fits_all
returns-else-fits_all c =
    let p = c.args.p.now in
    let a = c.in_ok-answer.answer in
    let read = c.matrix.ensures ∙ ap (λ (e : Explored). matrix_from e) c.explored-explored.ensures in
    holds_not c.args.s.now p (c.answer.ensures ∙ ap (λ cells. answer_of c.args.s.now (Wanted.Cells cells)) c.asked_cells.ensures) a.scene a.vectors c.in_ok-answer.was (c.fits_all.ensures ∙ ap (λ m. eqb (length p) 9 && fits_all p m) read) c.if-fits_all.false c.misfit.ensures
