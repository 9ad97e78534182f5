-- The element at the partner's place is tested.
use Rattle.std.proofs.Common.{◌≡◌, ◌∙◌, sym, ap, ap₂, not, arith}
use borrow.Author.Tests.{lt-ltb}
use Rattle.plane.specs.declared.Halfsegment.{Halfsegment}
use Rattle.scene.specs.Read.{place}
use Rattle.scene_segments.specs.Walked.{partners}
use Rattle.scene_segments.proofs.Elements.{partner_is}
use Rattle.check_conditions.specs.Partners.{place_for, turned}
use Rattle.check_conditions.proofs.partners.has_partner.Goals as goal

pub returns-then-j-o : goal.returns-then-j-o
returns-then-j-o c =
    let s = c.args.o.bytes.now in
    let l = c.args.o.layout in
    let sought = place_for s l (turned s l c.args.i) in
    let is_place : c.place_for-j.result ≡ sought =
    c.place_for-j.ensures
    ∙ ap (place_for s l) c.other.ensures
    ∙ ap (λ (h : Halfsegment). place_for s l (record { segment = h.segment; is_left = not h.is_left })) c.half-h.ensures.is in
    c.are_partners.ensures
    ∙ ap₂ (partners c.half-h.result c.ia.result) c.half.ensures.is c.ia-then-j-o.ensures
    ∙ partner_is s l c.args.i sought c.half-h.ensures.is c.ia.ensures (ap (place l) is_place)
    ∙ sym (rw (lt-ltb sought l.count (omega (arith, c.if-j-o.true, is_place))))
