-- The marks of the events so far are put together.
use Rattle.std.proofs.Common.{◌≡◌}
use Rattle.walk.specs.Walked.{marks_of_f, marks_of_g}
use Rattle.walk.proofs.portion.marks_in.Given as goal

abbrev pub invariant-loop-n : goal.invariant-loop-n
invariant-loop-n l = record {
  of_f : l.f ≡ marks_of_f l.fn.ground l.fn.from l.n;
  of_g : l.g ≡ marks_of_g l.fn.ground l.fn.from l.n;
}
