-- By the file's type.
use Rattle.std.proofs.Common.{arith, ne_eqb}
use Rattle.wkb_gathering.proofs.Parts.{file_there}
use Rattle.wkb_reading.proofs.object.of_file.Goals as goal

pub kind-requires : goal.kind-requires
kind-requires c = omega (arith, file_there c.args.wkb.now c.requires.taken)

pub returns-in-4 : goal.returns-in-4
returns-in-4 c = rw (← c.kind.ensures, c.in-4.is) c.points.ensures

pub returns-in-5 : goal.returns-in-5
returns-in-5 c = rw (← c.kind.ensures, c.in-5.is) c.line.ensures

pub returns-in_default : goal.returns-in_default
returns-in_default c = let q = c.in_default in rw (← c.kind.ensures, ne_eqb c.kind.result 4 (λ e. omega arith), ne_eqb c.kind.result 5 (λ e. omega arith)) c.region.ensures
