-- The cells that a pattern asks: those with any character but "*". EE always has an area: where its character does not fit that, the answer is no whatever the
-- others are, and none is asked.
use Rattle.std.specs.Prelude.{ℕ, ◌^◌, Bool, not, ◌&&◌, cond, List, eqb, length, get_or}
use Rattle.plane_dimensions.specs.declared.Dimension.TheVariants.{Area}
use Rattle.scene.specs.Conditions.{indices}
use Rattle.check_verdict.specs.Refusals.{Verdict, verdict}
use Rattle.flags.proofs.Marks.{gather}
use Rattle.cells_pattern.specs.Pattern.{either, fits, pattern_conditions}

-- the first refusal of a pattern, if any
unfoldable pub pattern_verdict : List ℕ → Verdict
pattern_verdict p = verdict (pattern_conditions p)

abbrev pub asks : ℕ → Bool
asks c = not (eqb c either)

-- a bit for each cell, row by row
abbrev pub named_cell : List ℕ → ℕ → ℕ
named_cell p i = cond (asks (get_or p i 0)) (2 ^ i) 0

abbrev pub named_cells : List ℕ → ℕ
named_cells p = gather (named_cell p) (indices 9 0)

abbrev pub may_hold : List ℕ → Bool
may_hold p = eqb (length p) 9 && fits (get_or p 8 0) Area

-- none where no matrix fits
unfoldable pub asked_cells : List ℕ → ℕ
asked_cells p = cond (may_hold p) (named_cells p) 0
