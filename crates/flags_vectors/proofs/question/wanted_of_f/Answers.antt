-- A mask of no bit wants no flag.
use Rattle.std.proofs.Common.{sym, ◌∙◌, ap}
use Rattle.std.specs.Int.Bits.{bit_and, and_zero_r}
use Rattle.flags.specs.Flags.{pack}
use Rattle.flags_table.specs.Table.{flags_of_f_by}
use Rattle.flags_masks.specs.Wanted.{only}
use Rattle.flags_vectors.proofs.question.wanted_of_f.Goals as goal

pub returns-then-mask-eq0 : goal.returns-then-mask-eq0
returns-then-mask-eq0 c =
    let v = pack (flags_of_f_by c.args.scene.f.shape c.args.scene.g.shape c.args.met c.args.classes) in
    sym (ap (bit_and v) c.if-mask-eq0.true ∙ and_zero_r v)

pub returns : goal.returns
returns c = ap (only c.args.mask) c.flags_of_f.ensures
