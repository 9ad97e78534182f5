-- `flags_classes::classes_of` meets its contract, step by step: a segment of F, of G or of both.
use Rattle.std.proofs.Common.{arith, ℕ, ◌≡◌, List, [], ap, ap₂, ◌∙◌, Ok}
use Rattle.scene.specs.declared.Scene.{Scene}
use Rattle.scene.specs.Conditions.{check_scene}
use Rattle.check_verdict.proofs.Laws.{SoundScene, sound_scene}
use Rattle.flags_classes.specs.Classed.{classes_of_f, classes_of_g}
use Rattle.flags_classes.specs.Marked.{unshared_marks, shared_marks}
use Rattle.flags_classes.proofs.AsRead.{classes_read_f, classes_read_g}
use Rattle.flags_classes.proofs.Merging.{few}
use Rattle.flags_classes.proofs.Walking.{walking_f, walking_g, walking_both, walked}
use Rattle.flags_classes.proofs.classes_of.Goals as goal

sound : (s : List ℕ) (sc : Scene) → check_scene s ≡ Ok sc → SoundScene s sc
unfolding check_scene
sound s sc e = sound_scene [] [] s sc e

pub of-requires : goal.of-requires
of-requires c =
    let pair = c.loop-step.step-iterator.pair in
    let n = rw c.in-OfF.is at c.in-Some.ensures.steps.0 in
    omega (arith, n.there, few pair.bytes.now pair.own pair.own_read)

pub loop-step-preserved-in-OfF : goal.loop-step-preserved-in-OfF
loop-step-preserved-in-OfF c =
    let z = c.args.taken in
    let read = c.read.ensures in
    let pair = c.pair-pair.ensures in
    let f = c.own-f.ensures in
    let h = c.loop-step.invariant in
    let step = rw c.in-OfF.is at c.in-Some.ensures.steps in
    let n = rw (h.same.0, h.same.1, h.same.2) at step.0 in
    let above = rw (f.0, f.1, pair.0, pair.1, read.0, read.1) at c.ia.ensures in
    record {
      same = rw step.1 h.same;
      walking =
          rw (step.2, step.3) (walking_f (sound z.bytes.now z.scene z.taken) c.args.notes.now h.walking n
          (c.unshared.ensures ∙ ap₂ unshared_marks above c.of.ensures) c.with-of_f.ensures);
    }

pub of-requires-in-OfG : goal.of-requires-in-OfG
of-requires-in-OfG c =
    let pair = c.loop-step.step-iterator.pair in
    let n = rw c.in-OfG.is at c.in-Some.ensures.steps.0 in
    omega (arith, n.there, few pair.bytes.now pair.other pair.other_read)

pub loop-step-preserved-in-OfG : goal.loop-step-preserved-in-OfG
loop-step-preserved-in-OfG c =
    let z = c.args.taken in
    let read = c.read.ensures in
    let pair = c.pair-pair.ensures in
    let g = c.other-g.ensures in
    let h = c.loop-step.invariant in
    let step = rw c.in-OfG.is at c.in-Some.ensures.steps in
    let n = rw (h.same.0, h.same.1, h.same.2) at step.0 in
    let above = rw (g.0, g.1, pair.0, pair.2, read.0, read.1) at c.ia-in-OfG.ensures in
    record {
      same = rw step.1 h.same;
      walking =
          rw (step.2, step.3) (walking_g (sound z.bytes.now z.scene z.taken) c.args.notes.now h.walking n
          (c.unshared-in-OfG.ensures ∙ ap₂ unshared_marks above c.of-in-OfG.ensures) c.with-of_g.ensures);
    }

pub loop-step-preserved : goal.loop-step-preserved
loop-step-preserved c =
    let z = c.args.taken in
    let read = c.read.ensures in
    let pair = c.pair-pair.ensures in
    let f = c.own-f.ensures in
    let g = c.other-g.ensures in
    let h = c.loop-step.invariant in
    let step = rw c.in-OfBoth.is at c.in-Some.ensures.steps in
    let n = rw (h.same.0, h.same.1, h.same.2) at step.0 in
    let above_f = rw (f.0, f.1, pair.0, pair.1, read.0, read.1) at c.ia-above_f.ensures in
    let above_g = rw (g.0, g.1, pair.0, pair.2, read.0, read.1) at c.ia-above_g.ensures in
    record {
      same = rw step.1 h.same;
      walking =
          rw (step.2, step.3) (walking_both (sound z.bytes.now z.scene z.taken) c.args.notes.now h.walking n
          (c.shared.ensures ∙ ap₂ shared_marks above_f above_g) c.with-of_f-in-OfBoth.ensures
          (c.shared-in-OfBoth.ensures ∙ ap₂ shared_marks above_g above_f) c.with-of_g-in-OfBoth.ensures);
    }

pub returns : goal.returns
returns c =
    let z = c.args.taken in
    let h = c.loop-step.invariant in
    let n = rw (h.same.0, h.same.1, h.same.2) at c.in-None.ensures.steps.0 in
    let o = sound z.bytes.now z.scene z.taken in
    let w = walked o c.args.notes.now h.walking n in
    let f = c.into.ensures ∙ w.0 in
    let g = c.into-2.ensures ∙ w.1 in
    record {
      is = (f, g);
      of_bytes = λ bytes e. (
        f ∙ ap (classes_of_f z.bytes.now z.scene) e ∙ classes_read_f z.bytes.now z.scene bytes (few z.bytes.now z.scene.f o.f_sound.read),
        g ∙ ap (classes_of_g z.bytes.now z.scene) e ∙ classes_read_g z.bytes.now z.scene bytes (few z.bytes.now z.scene.g o.g_sound.read),
      );
    }
