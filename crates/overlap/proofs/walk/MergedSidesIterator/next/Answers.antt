-- `overlap::walk::MergedSides::next` meets its contract: what comes next in the walk over the left halfsegments, with its sides by ia and by its note.
use Rattle.std.proofs.Common.{refl, ap}
use Rattle.flags_classes.proofs.Standing.{standing_after}
use Rattle.overlap.proofs.Merging.{list_end}
use Rattle.overlap.proofs.Noted.{noted_f, noted_g, noted_both}
use Rattle.overlap.proofs.walk.MergedSidesIterator.next.Goals as goal

pub invariant_of-self : goal.invariant_of-self
invariant_of-self c =
    let z = c.args.self.now in
    let step = c.next.ensures.steps in
    record {
      bytes = rw step.1 z.bytes;
      own = rw step.1 z.own;
      other = rw step.1 z.other;
      stands = rw (step.2, step.3) (standing_after z.regions.two.0 z.stands c.next.result (rw (z.bytes, z.own, z.other) at step.0));
    }

pub returns-in_err-i-clause-steps : goal.returns-in_err-i-clause-steps
returns-in_err-i-clause-steps c =
    let z = c.args.self.now in
    let none = rw (z.bytes, z.own, z.other) at c.in_err-i.ensures.steps.0 in
    (refl, rw c.from_residual.ensures (list_end z.regions.read.bytes.now z.regions.read.scene.f z.regions.read.scene.g none))

pub returns-in-OfF-clause-steps : goal.returns-in-OfF-clause-steps
returns-in-OfF-clause-steps c =
    let z = c.args.self.now in
    let f = c.own-f.ensures in
    let step = rw c.in-OfF.is at c.in_ok-i.ensures.steps in
    let n = rw (z.bytes, z.own, z.other) at step.0 in
    let h = rw (f.0, f.1, z.bytes, z.own) at c.half.ensures.is in
    let own = rw (f.0, f.1, z.bytes, z.own) at c.own_sides.ensures in
    let sides = noted_f z.regions.two z.regions.noted z.stands c.half.ensures.in_range n (ap (λ h. h.segment) h) own (rw c.of.ensures at c.noted_sides.ensures.is) in
    (refl, rw (step.2, step.3) sides)

pub returns-in-OfG-clause-steps : goal.returns-in-OfG-clause-steps
returns-in-OfG-clause-steps c =
    let z = c.args.self.now in
    let g = c.other-g.ensures in
    let step = rw c.in-OfG.is at c.in_ok-i.ensures.steps in
    let n = rw (z.bytes, z.own, z.other) at step.0 in
    let h = rw (g.0, g.1, z.bytes, z.other) at c.half-in-OfG.ensures.is in
    let own = rw (g.0, g.1, z.bytes, z.other) at c.own_sides-in-OfG.ensures in
    let sides = noted_g z.regions.two z.regions.noted z.stands c.half-in-OfG.ensures.in_range n (ap (λ h. h.segment) h) (rw c.of-in-OfG.ensures at c.noted_sides-in-OfG.ensures.is) own in
    (refl, rw (step.2, step.3) sides)

pub returns-in-OfBoth-clause-steps : goal.returns-in-OfBoth-clause-steps
returns-in-OfBoth-clause-steps c =
    let z = c.args.self.now in
    let f = c.own-f.ensures in
    let g = c.other-g.ensures in
    let step = rw c.in-OfBoth.is at c.in_ok-i.ensures.steps in
    let n = rw (z.bytes, z.own, z.other) at step.0 in
    let h = rw (f.0, f.1, z.bytes, z.own) at c.half-in-OfBoth.ensures.is in
    let of_f = rw (f.0, f.1, z.bytes, z.own) at c.own_sides-in-OfBoth.ensures in
    let of_g = rw (g.0, g.1, z.bytes, z.other) at c.own_sides-in-OfBoth-2.ensures in
    let sides = noted_both z.regions.two z.regions.noted z.stands c.half-in-OfBoth.ensures.in_range n (ap (λ h. h.segment) h) of_f of_g in
    (refl, rw (step.2, step.3) sides)
