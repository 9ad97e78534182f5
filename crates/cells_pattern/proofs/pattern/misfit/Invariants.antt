-- What the loop of `misfit` keeps: of the bytes so far none is turned away.
use Rattle.std.proofs.Common.{◌≡◌, drop}
use Rattle.cells_pattern.specs.Pattern.{first_other}
use Rattle.cells_pattern.proofs.pattern.misfit.Given as goal

abbrev pub invariant-loop-place : goal.invariant-loop-place
invariant-loop-place l = record { other : first_other (drop l.place l.p) l.place ≡ first_other l.p 0 }
