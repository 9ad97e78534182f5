use Rattle.std.proofs.Common.{◌∙◌, sym, rules}
use Rattle.scene.proofs.Taken.{taken_scene}
use Rattle.check_verdict.specs.Refusals.{scene_fault_under}
use Rattle.check_verdict.proofs.Verdicts.{geometry_flawed}
use Rattle.check_verdict.proofs.plain_verdict.Goals as goal

pub returns : goal.returns
returns c =
    let o = c.args.read in
    let taken = taken_scene o.bytes.now o.scene o.read in
    c.first_refusal.ensures (scene_fault_under o.bytes.now o.scene) (λ n o p. search rules)
    ∙ sym (geometry_flawed o.bytes.now o.scene taken.first_read taken.second_taken.read)
