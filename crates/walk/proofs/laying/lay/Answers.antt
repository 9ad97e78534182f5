-- Point by point, until no element is left of either object.
use Rattle.std.proofs.Common.{ℕ, ◌<◌, ◌∙◌, sym, ap, ap₂, min, arith}
use Rattle.scene.specs.declared.Scene.{Scene}
use Rattle.scene_keys.specs.Keyed.{next_key}
use Rattle.flags_vectors.proofs.Answered.{accepted}
use Rattle.walk_events.proofs.Standing.{ends}
use Rattle.walk.proofs.Laid.{lays_none, all_laid}
use Rattle.walk.proofs.Points.{point_from, passed_f, passed_g, rises, all_f, all_g}
use Rattle.walk.proofs.laying.lay.Goals as goal

pub loop-k-init : goal.loop-k-init
loop-k-init c =
    let z = c.args.noted in
    let bytes = c.read-read.ensures.0 ∙ c.taken.ensures.0 in
    let scene = c.read-read.ensures.1 ∙ c.taken.ensures.1 in
    let f = c.first-c in
    let g = c.first-d in
    let bytes_f = f.ensures.of.0 ∙ c.object.ensures.0 ∙ bytes in
    let layout_f = f.ensures.of.1 ∙ c.object.ensures.1 ∙ ap (λ (k : Scene). k.f) scene in
    let bytes_g = g.ensures.of.0 ∙ c.object-2.ensures.0 ∙ bytes in
    let layout_g = g.ensures.of.1 ∙ c.object-2.ensures.1 ∙ ap (λ (k : Scene). k.g) scene in
    record {
      bytes_f = bytes_f;
      layout_f = layout_f;
      bytes_g = bytes_g;
      layout_g = layout_g;
      at_f = sym f.ensures.index;
      at_g = sym g.ensures.index;
      few = omega arith;
      least = c.min-k.ensures
          ∙ ap₂ min (f.result.key_is ∙ (λ x. next_key (bytes_f x) (layout_f x) (f.ensures.index x))) (g.result.key_is ∙ (λ x. next_key (bytes_g x) (layout_g x) (g.ensures.index x)));
      f_passed = λ m h. absurd (omega (arith, h));
      g_passed = λ m h. absurd (omega (arith, h));
      laid = lays_none z.bytes.now z.scene z.notes.now c.args.ground.now;
    }

pub loop-k-preserved : goal.loop-k-preserved
loop-k-preserved c =
    let z = c.args.noted in
    let o = accepted z.bytes.now z.scene z.taken in
    let h = c.loop-k.invariant in
    let f = c.pass in
    let g = c.pass-in-loop-k in
    let bytes_f = f.ensures.of.0 ∙ h.bytes_f in
    let layout_f = f.ensures.of.1 ∙ h.layout_f in
    let bytes_g = g.ensures.of.0 ∙ h.bytes_g in
    let layout_g = g.ensures.of.1 ∙ h.layout_g in
    let p = point_from z.bytes.now z.scene {at = c.loop-k.at} {to = record { i = f.new.c.index; j = g.new.c.index }} c.loop-k-test.true h.least
    (rw layout_f at f.new.c.within) (rw layout_g at g.new.c.within)
    (rw (h.bytes_f, h.layout_f, sym h.at_f) at f.ensures.passed) (rw (h.bytes_g, h.layout_g, sym h.at_g) at g.ensures.passed) h.f_passed h.g_passed in
    let to = c.lay_point-at.ensures.to in
    let next = c.min-k-in-loop-k.ensures ∙ ap₂ min (rw (bytes_f, layout_f) at f.new.c.key_is) (rw (bytes_g, layout_g) at g.new.c.key_is) in
    let above : c.loop-k.k < c.min-k-in-loop-k.result = omega (arith, rises o p, next) in
    record {
      bytes_f = bytes_f;
      layout_f = layout_f;
      bytes_g = bytes_g;
      layout_g = layout_g;
      at_f = to.0;
      at_g = to.1;
      few = c.lay_point-at.ensures.few;
      least = next ∙ ap₂ (λ (a b : ℕ). min (next_key z.bytes.now z.scene.f a) (next_key z.bytes.now z.scene.g b)) (sym to.0) (sym to.1);
      f_passed = λ m l. passed_f o p above m (omega (arith, l, to.0));
      g_passed = λ m l. passed_g o p above m (omega (arith, l, to.1));
      laid = c.lay_point-at.ensures.laid c.args.ground.now h.laid;
    }

pub returns-clause-is : goal.returns-clause-is
returns-clause-is c =
    let z = c.args.noted in
    let o = accepted z.bytes.now z.scene z.taken in
    let h = c.loop-k.invariant in
    ends z.bytes.now z.scene h.laid.stands (all_f o (omega (arith, h.least, c.loop-k-test.false))) (all_g o (omega (arith, h.least, c.loop-k-test.false)))

pub returns-clause-ground : goal.returns-clause-ground
returns-clause-ground c =
    let z = c.args.noted in
    let o = accepted z.bytes.now z.scene z.taken in
    let h = c.loop-k.invariant in
    let all = ends z.bytes.now z.scene h.laid.stands (all_f o (omega (arith, h.least, c.loop-k-test.false))) (all_g o (omega (arith, h.least, c.loop-k-test.false))) in
    h.laid.laid ∙ all_laid z.bytes.now z.scene z.notes.now c.args.ground.now all
