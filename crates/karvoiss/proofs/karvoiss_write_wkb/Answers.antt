-- The fields of the answer, and that what is written is read back.
use Rattle.std.proofs.Common.{◌∙◌, ap}
use Rattle.wkb_round_trip.proofs.Again.{round_trip}
use Rattle.karvoiss.specs.Answer.{write_wkb_for_c}
use Rattle.karvoiss.proofs.karvoiss_write_wkb.Goals as goal

pub returns : goal.returns
returns c = (c.into.ensures ∙ ap write_wkb_for_c c.write.ensures.0, c.write.ensures.1, c.write.ensures.2, round_trip c.args.object.now)
