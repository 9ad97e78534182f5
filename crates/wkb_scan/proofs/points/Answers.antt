use Rattle.std.proofs.Common.{◌∙◌, rules}
use Rattle.wkb_grammar.specs.Grammar.{outcome, point_at}
use Rattle.wkb_scan.proofs.Laws.{many_in_turn}
use Rattle.wkb_scan.proofs.points.Goals as goal

pub returns : goal.returns
returns c =
    let a = c.args in
    c.many.ensures (λ at. outcome (point_at a.s.now a.little at)) (λ at r e. search rules) ∙ many_in_turn (point_at a.s.now a.little) a.n a.from
