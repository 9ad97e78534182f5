-- The box of an object with no element, and of one with some.
use Rattle.std.proofs.Common.{◌∙◌}
use Rattle.summary_making.proofs.Summarized.{empty_box, filled_box}
use Rattle.summary_making.proofs.bounds_in.Goals as goal

pub returns-then-o-eq0 : goal.returns-then-o-eq0
returns-then-o-eq0 c = empty_box c.args.o.bytes.now c.args.o.layout c.requires c.if-o-eq0.true

pub returns-else-o-eq0 : goal.returns-else-o-eq0
returns-else-o-eq0 c = c.bounds_of.ensures ∙ filled_box c.args.o.bytes.now c.args.o.layout c.requires c.if-o-eq0.false
