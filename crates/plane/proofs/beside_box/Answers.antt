-- Over or under the box, and within its width, the side value is a sum of two products of one sign.
use Rattle.std.proofs.Common.{rules}
use Rattle.plane.proofs.Narrow.{over_box, under_box}
use Rattle.plane.proofs.beside_box.Goals as goal

pub returns-then-c-b : goal.returns-then-c-b
returns-then-c-b s = under_box s.args.a s.args.b s.args.c (search rules) (search rules) (search rules)

pub returns-then-a-c : goal.returns-then-a-c
returns-then-a-c s = over_box s.args.a s.args.b s.args.c (search rules) (search rules) (search rules)
