-- The flags by meetings and classes, and those that are wanted.
use Rattle.std.proofs.Common.{◌∙◌}
use Rattle.flags_vectors.proofs.Answered.{accepted, vector_f, vector_g}
use Rattle.flags_vectors.proofs.question.swept_vectors.Goals as goal

pub returns : goal.returns
returns c =
    let n = c.args.noted in
    let m = c.args.masks in
    let o = accepted n.bytes.now n.scene n.taken in
    let met = c.wanted_meetings-met.ensures in
    let beside = c.wanted_classes-beside.ensures in
    let f = c.wanted_of_f.ensures ∙ vector_f o n.noted m met beside in
    let g = c.wanted_of_g.ensures ∙ vector_g o n.noted m met beside in
    λ i. record { f = f i; g = g i }
