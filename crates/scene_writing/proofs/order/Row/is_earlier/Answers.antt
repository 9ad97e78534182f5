use Rattle.std.proofs.Common.{sym, ap₂, ◌∙◌, ltb}
use Rattle.scene_writing.specs.Named.{half_in}
use Rattle.scene_writing.proofs.Earlier.{by_keys, half_good}
use Rattle.scene_writing.proofs.order.Row.is_earlier.Goals as goal

pub returns-then-p-q : goal.returns-then-p-q
returns-then-p-q c =
    let row = c.args.self.ends.now in
    ap₂ ltb c.key-p.ensures c.key-q.ensures
    ∙ by_keys (half_in row c.args.h) (half_in row c.args.other) (half_good row c.args.self.good c.args.h c.requires.h_in).in_range_lem (half_good row c.args.self.good c.args.other c.requires.other_in).in_range_lem
    (λ e. c.if-p-q.true (c.key-p.ensures ∙ e ∙ sym c.key-q.ensures))
