-- The fields of the answer, and what is accepted of what was read.
use Rattle.std.proofs.Common.{◌∙◌, ap}
use Rattle.wkb_reading.proofs.AsWritten.{as_written}
use Rattle.karvoiss.specs.Answer.{read_wkb_for_c}
use Rattle.karvoiss.proofs.karvoiss_read_wkb.Goals as goal

pub returns : goal.returns
returns c = (c.into.ensures ∙ ap read_wkb_for_c c.read.ensures.0, c.read.ensures.1, as_written c.args.wkb.now)
