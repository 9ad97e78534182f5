use Rattle.std.proofs.Common.{◌∙◌, rules}
use Rattle.wkb_grammar.specs.Grammar.{outcome, part_at}
use Rattle.wkb_scan.proofs.Laws.{many_in_turn}
use Rattle.wkb_scan.proofs.parts.Goals as goal

pub returns : goal.returns
returns c =
    let a = c.args in
    c.many.ensures (λ at. outcome (part_at a.s.now a.kind at)) (λ at r e. search rules) ∙ many_in_turn (part_at a.s.now a.kind) a.n a.from
