-- The classes of the scene that is taken.
use Rattle.std.proofs.Common.{sym}
use Rattle.flags_vectors.proofs.question.wanted_classes.Goals as goal

pub returns-then-reads_classes : goal.returns-then-reads_classes
returns-then-reads_classes c = λ reads. rw (sym c.taken.ensures.0, sym c.taken.ensures.1) c.classes_of.ensures.is
