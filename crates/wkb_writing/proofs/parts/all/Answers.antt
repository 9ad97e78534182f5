-- One part more is written, for which there is room.
use Rattle.std.proofs.Common.{◌+◌, ◌-◌, ◌++◌, List, ℕ, length, arith, append_assoc, length-append, sym, ap, ◌∙◌}
use Rattle.scene.specs.Read.{place}
use Rattle.wkb_writing.specs.Parts.{element_part, parts_from}
use Rattle.wkb_writing.proofs.OneByOne.{parts_next}
use Rattle.wkb_writing.proofs.parts.all.Goals as goal

pub element-requires : goal.element-requires
element-requires c =
    let s = c.args.o.bytes.now in
    let l = c.args.o.layout in
    let i = c.loop-i.i in
    let next = parts_next s l i c.loop-i-test.true in
    let all = c.loop-i.invariant in
    (c.loop-i-test.true, omega (arith, c.requires, simp length-append at (ap length all), simp length-append at (ap length next)))

pub loop-i-preserved : goal.loop-i-preserved
loop-i-preserved c =
    let s = c.args.o.bytes.now in
    let l = c.args.o.layout in
    let i = c.loop-i.i in
    let more = parts_from s l (l.count - (i + 1)) (i + 1) in
    ap (λ (w : List ℕ). w ++ more) c.element.ensures
    ∙ append_assoc c.loop-i.wkb.items (element_part s l.shape (place l i)) more
    ∙ sym (ap (λ (r : List ℕ). c.loop-i.wkb.items ++ r) (parts_next s l i c.loop-i-test.true))
    ∙ c.loop-i.invariant
