-- One event of G more, which comes before all that is left of F.
use Rattle.std.proofs.Common.{ap, arith}
use Rattle.scene_keys.specs.Keyed.{next_key}
use Rattle.flags_vectors.proofs.Answered.{accepted}
use Rattle.walk.specs.declared.laying.Place.{Place}
use Rattle.walk.proofs.ByKeys.{next_g}
use Rattle.walk.proofs.Laid.{lays_one}
use Rattle.walk.proofs.laying.lay_rest_of_g.Goals as goal

pub lay_g-at-requires-clause-room : goal.lay_g-at-requires-clause-room
lay_g-at-requires-clause-room c =
    let h = c.loop-at.invariant in
    omega (arith, c.requires.room.room, c.requires.rest.few, c.requires.rest.other, c.loop-at-test.true, h.few, h.stays, c.loop-at.auto.ground)

pub loop-at-preserved : goal.loop-at-preserved
loop-at-preserved c =
    let z = c.args.noted in
    let o = accepted z.bytes.now z.scene z.taken in
    let h = c.loop-at.invariant in
    let r = c.requires.rest in
    let to = c.lay_g-at.ensures.to in
    let n = ap (λ (p : Place). p.events) to in
    let i = ap (λ (p : Place). p.i) to in
    let j = ap (λ (p : Place). p.j) to in
    let first = r.first c.loop-at.at.j h.on c.loop-at-test.true in
    let other = ap (next_key z.bytes.now z.scene.f) h.stays in
    let e = next_g z.bytes.now z.scene o.f_sound.read o.g_sound.read c.loop-at.at.i c.loop-at.at.j (omega (arith, c.loop-at-test.true, r.few)) (omega (arith, first.0, other)) in
    record {
      on = omega (arith, j, h.on);
      upto = omega (arith, j, c.loop-at-test.true);
      stays = omega (arith, i, h.stays);
      few = omega (arith, n, i, j, h.few);
      lays = λ before w. lays_one z.bytes.now z.scene z.notes.now before (h.lays before w) e to c.lay_g-at.ensures.laid (omega (arith, c.loop-at-test.true, r.few, r.other, h.stays)) (omega (arith, c.loop-at-test.true, r.few, r.other, h.stays));
    }
