-- A scene that is taken is read and in order.
use Rattle.std.proofs.Common.{◌≡◌, ◌∙◌, ap, ℕ, List}
use Rattle.scene.specs.declared.Layout.{Layout}
use Rattle.scene.specs.declared.Scene.{Scene}
use Rattle.flags_meetings.specs.Met.{meetings}
use Rattle.flags_vectors.proofs.Answered.{accepted}
use Rattle.flags_vectors.proofs.question.wanted_meetings.Goals as goal

-- the meetings of two objects are those of the scene that they are of
of_scene : (notes : List ℕ) {s t : List ℕ} {f g : Layout} {sc : Scene} → s ≡ t → f ≡ sc.f → g ≡ sc.g → meetings s (record { f = f; g = g }) notes ≡ meetings t sc notes
of_scene notes {s} {t} {f} {g} {sc} e p q =
    ap (λ (s : List ℕ). meetings s (record { f = f; g = g }) notes) e
    ∙ ap (λ (f : Layout). meetings t (record { f = f; g = g }) notes) p
    ∙ ap (λ (g : Layout). meetings t (record { f = sc.f; g = g }) notes) q

pub meetings_of-requires : goal.meetings_of-requires
meetings_of-requires c =
    let n = c.args.noted in
    let o = accepted n.bytes.now n.scene n.taken in
    let pair = c.pair.ensures in
    rw (pair.0, pair.1, pair.2, c.read.ensures.0, c.read.ensures.1, c.taken.ensures.0, c.taken.ensures.1) (o.f_sound.order, o.g_sound.order)

pub returns-then-reads_meetings : goal.returns-then-reads_meetings
returns-then-reads_meetings c = λ reads.
    let pair = c.pair.ensures in
    let scene = c.read.ensures.1 ∙ c.taken.ensures.1 in
    c.meetings_of.ensures.is
    ∙ of_scene c.args.noted.notes.now (pair.0 ∙ c.read.ensures.0 ∙ c.taken.ensures.0) (pair.1 ∙ ap (λ (sc : Scene). sc.f) scene) (pair.2 ∙ ap (λ (sc : Scene). sc.g) scene)
