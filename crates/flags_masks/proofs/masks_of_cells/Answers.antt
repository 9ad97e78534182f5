-- `flags_masks::masks_of_cells` meets its contract: a cell that is asked gives the flags of its entry in the table, and one that is not gives none.
use Rattle.std.proofs.Common.{arith, ℕ, ◌≡◌, Bool, cond, List, map, get_or, sym, ap, ap₂, ◌∙◌}
use lib.Bits.{or_zero_r}
use Rattle.scene.specs.declared.Scene.{Scene}
use Rattle.scene.specs.Read.{turned}
use Rattle.flags.proofs.Marks.{gathered_one, gathered_all}
use Rattle.flags_masks.specs.declared.FlagMasks.{FlagMasks}
use Rattle.flags_masks.specs.declared.Wanted.{Wanted}
use Rattle.flags_masks.specs.Wanted.{entry_of, place_in, cell_masks_in, cell_masks_of, wanted_for_f, wanted_for_g, masks_for}
use Rattle.std.proofs.Math.ListN.{get_or-map}
use Rattle.flags_masks.proofs.Cells.{of_both, every_cell_is_all}
use Rattle.flags_masks.proofs.masks_of_cells.Goals as goal
use Rattle.flags_masks.proofs.masks_of_cells.Goals.{then-has_bit, else-has_bit}

-- the entry of a cell, as the code reads it
entry_is : (sc : Scene) (at place : ℕ) (row : List FlagMasks) (b : Bool)
    → row ≡ map entry_of (cell_masks_in sc)
    → b ≡ turned sc
    → place ≡ place_in b at
    → get_or row place (entry_of (0, 0)) ≡ entry_of (cell_masks_of sc at)
entry_is sc at place row b e t p = ap₂ (λ r q. get_or r q (entry_of (0, 0))) e (p ∙ ap (λ x. place_in x at) t) ∙ get_or-map entry_of (cell_masks_in sc) (place_in (turned sc) at) (0, 0)

pub loop-at-preserved : goal.loop-at-preserved
loop-at-preserved c =
    let sc = c.args.scene in
    let cells = c.args.cells in
    let at = c.loop-at.at in
    let h = c.loop-at.invariant in
    elim c.if-has_bit.branch [
      | then-has_bit w ↦
          let asked = sym c.has_bit.ensures ∙ w.if-has_bit.true in
          let m = entry_is sc at w.cell_place.result c.cell_masks-row.result c.is_turned-turned.result c.cell_masks-row.ensures c.is_turned-turned.ensures w.cell_place.ensures.0 in
          record {
            f_is = gathered_one (wanted_for_f sc cells) 9 h.f_is c.loop-at-test.true (ap (λ (e : FlagMasks). e.f) m ∙ sym (ap (λ b. cond b (cell_masks_of sc at).0 0) asked)) w.f-is;
            g_is = gathered_one (wanted_for_g sc cells) 9 h.g_is c.loop-at-test.true (ap (λ (e : FlagMasks). e.g) m ∙ sym (ap (λ b. cond b (cell_masks_of sc at).1 0) asked)) w.g-is;
          }
      | else-has_bit w ↦
          let not_asked = sym c.has_bit.ensures ∙ w.if-has_bit.false in
          record {
            f_is = gathered_one (wanted_for_f sc cells) 9 h.f_is c.loop-at-test.true (sym (ap (λ b. cond b (cell_masks_of sc at).0 0) not_asked)) (w.f-is ∙ sym (or_zero_r c.loop-at.f));
            g_is = gathered_one (wanted_for_g sc cells) 9 h.g_is c.loop-at-test.true (sym (ap (λ b. cond b (cell_masks_of sc at).1 0) not_asked)) (w.g-is ∙ sym (or_zero_r c.loop-at.g));
          }
    ]

pub returns-then-cells-eq-EVERY_CELL : goal.returns-then-cells-eq-EVERY_CELL
unfolding masks_for
returns-then-cells-eq-EVERY_CELL c =
    ap₂ of_both c.masks_of.ensures.0 c.masks_of.ensures.1
    ∙ every_cell_is_all c.args.scene
    ∙ ap (λ cells. masks_for (Wanted.Cells cells) c.args.scene) (sym c.if-cells-eq-EVERY_CELL.true)

pub returns : goal.returns
unfolding masks_for
returns c = rw (gathered_all _ 9 c.loop-at.invariant.f_is (omega arith), gathered_all _ 9 c.loop-at.invariant.g_is (omega arith))
