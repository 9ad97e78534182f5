use Rattle.std.proofs.Common.{◌∙◌}
use Rattle.check_conditions.proofs.Numbered.{by_number}
use Rattle.check_conditions.proofs.fault_under.Goals as goal

pub returns-clause-of_number : goal.returns-clause-of_number
returns-clause-of_number c = let p = c.args.pair in λ n is. c.earliest_under.ensures ∙ by_number p.bytes.now p.own p.other n is
