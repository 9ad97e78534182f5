-- `cells_pattern::pattern::asked_cells` meets its contract: a character other than "*" gives its cell's bit, and "*" gives none.
use Rattle.std.proofs.Common.{arith, ℕ, ◌*◌, ◌%◌, ◌<◌, ◌≡◌, ◌^◌, ◌∙◌, not, cond, sym, ap, get_or}
use Rattle.std.proofs.Math.Pow.{pow_mono}
use lib.Bits.{or_zero_r}
use lib.Dec.{eqb, eqb→eq}
use borrow.Author.Tests.{eq-eqb}
use Rattle.whole.proofs.Logic.{refute}
use Rattle.flags.proofs.Marks.{gathered_one, gathered_all}
use Rattle.cells_pattern.specs.Asked.{named_cell, named_cells, asked_cells}
use Rattle.cells_pattern.proofs.pattern.asked_cells.Goals as goal
use Rattle.cells_pattern.proofs.pattern.asked_cells.Goals.{then-p-at-ne42, else-p-at-ne42}

-- a word has room for it
own_bit : (at : ℕ) → at < 9 → (1 * 2 ^ at) % 65536 ≡ 2 ^ at
own_bit at h = omega (arith, pow_mono {i = at} {j = 8} (omega arith))

pub loop-at-preserved : goal.loop-at-preserved
loop-at-preserved c =
    let p = c.args.p.now in
    let at = c.loop-at.at in
    let h = c.loop-at.invariant in
    elim c.if-p-at-ne42.branch [
      | then-p-at-ne42 w ↦ record { named = gathered_one (named_cell p) 9 h.named c.loop-at-test.true (own_bit at c.loop-at-test.true ∙ sym (ap (λ b. cond (not b) (2 ^ at) 0) (refute (eqb (get_or p at 0) 42) (λ t. w.if-p-at-ne42.true (eqb→eq (get_or p at 0) 42 t))))) w.cells-is }
      | else-p-at-ne42 w ↦ record { named = gathered_one (named_cell p) 9 h.named c.loop-at-test.true (sym (ap (λ b. cond (not b) (2 ^ at) 0) (eq-eqb (get_or p at 0) 42 w.if-p-at-ne42.false))) (w.cells-is ∙ sym (or_zero_r c.loop-at.cells)) }
    ]

pub returns : goal.returns
unfolding asked_cells
returns c = gathered_all _ 9 c.loop-at.invariant.named (omega arith) ∙ ap (λ b. cond b (named_cells c.args.p.now) 0) (sym (sym c.may_hold.ensures ∙ c.if-not-may_hold.false))
