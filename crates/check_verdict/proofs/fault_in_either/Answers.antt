use Rattle.std.proofs.Common.{sym}
use Rattle.check_verdict.proofs.fault_in_either.Goals as goal

pub returns-in-None : goal.returns-in-None
returns-in-None c =
    let turned = c.exchanged.ensures in
    rw (c.fault_under-in-None.ensures.is, turned.0, turned.1, turned.2, sym c.fault_under.ensures.is, c.in-None.is)
