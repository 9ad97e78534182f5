-- The event that comes first is laid.
use Rattle.std.proofs.Common.{◌∙◌, sym, arith}
use Rattle.walk.proofs.ByKeys.{next_of}
use Rattle.walk.proofs.Laid.{lays_one}
use Rattle.walk.proofs.laying.lay_next.Goals as goal

pub returns-in-OfF-clause-laid : goal.returns-in-OfF-clause-laid
returns-in-OfF-clause-laid c =
    let z = c.args.noted in
    let h = c.requires.there in
    let e = next_of z.bytes.now z.scene h.0 h.1 (sym c.in-OfF.is ∙ c.next.ensures) in
    λ before w. lays_one z.bytes.now z.scene z.notes.now before w e c.lay_f.ensures.to c.lay_f.ensures.laid (omega (arith, h.0)) (omega (arith, h.1))

pub returns-in-OfG-clause-laid : goal.returns-in-OfG-clause-laid
returns-in-OfG-clause-laid c =
    let z = c.args.noted in
    let h = c.requires.there in
    let e = next_of z.bytes.now z.scene h.0 h.1 (sym c.in-OfG.is ∙ c.next.ensures) in
    λ before w. lays_one z.bytes.now z.scene z.notes.now before w e c.lay_g.ensures.to c.lay_g.ensures.laid (omega (arith, h.0)) (omega (arith, h.1))

pub returns-in-OfBoth-clause-laid : goal.returns-in-OfBoth-clause-laid
returns-in-OfBoth-clause-laid c =
    let z = c.args.noted in
    let h = c.requires.there in
    let e = next_of z.bytes.now z.scene h.0 h.1 (sym c.in-OfBoth.is ∙ c.next.ensures) in
    λ before w. lays_one z.bytes.now z.scene z.notes.now before w e c.lay_both.ensures.to c.lay_both.ensures.laid (omega (arith, h.0)) (omega (arith, h.1))
