-- What the loop of `masks_of_cells` keeps: the flags that the cells before `at` are read off are collected.
use Rattle.flags.proofs.Marks.{Gathering}
use Rattle.flags_masks.specs.Wanted.{wanted_for_f, wanted_for_g}
use Rattle.flags_masks.proofs.masks_of_cells.Given as goal

abbrev pub invariant-loop-at : goal.invariant-loop-at
invariant-loop-at l = record {
  f_is : Gathering (wanted_for_f l.fn.scene l.cells) 9 l.f l.at;
  g_is : Gathering (wanted_for_g l.fn.scene l.cells) 9 l.g l.at;
}
