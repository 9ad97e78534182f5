use Rattle.std.proofs.Common.{sym, ap, ◌≡◌, ◌∙◌, ◌++◌, [], ◌∷◌, ◌+◌, arith, length, true, false, length-append}
use Rattle.arrayvec.specs.ArrayVec.{ArrayVec}
use Rattle.split_cuts.specs.declared.Piece.{Piece}
use Rattle.scene.specs.Conditions.{left_test}
use Rattle.scene_segments.proofs.Walk.{between, few_elements}
use Rattle.split_cuts.specs.Listed.{listed, piece_at}
use Rattle.split_cuts.proofs.Listing.{is_left, piece_is, listed_from, listed_all, listed_left, listed_right, no_list}
use Rattle.split_cuts.proofs.Steps.{onward}
use Rattle.split_cuts.proofs.listed.Goals as goal
use Rattle.split_cuts.proofs.listed.Goals.{then-h, else-h}

pub returns-then-not-has_segments : goal.returns-then-not-has_segments
returns-then-not-has_segments c = c.new-list.ensures ∙ sym (no_list c.args.o.bytes.now c.args.o.layout (sym c.has_segments.ensures ∙ c.if-not-has_segments.true))

pub loop-i-init : goal.loop-i-init
loop-i-init c =
    record {
      all = listed_all c.args.o.bytes.now c.args.o.layout ∙ ap (λ l. l ++ listed_from c.args.o.bytes.now c.args.o.layout (between 0 c.args.o.layout.count)) (sym c.new-list.ensures);
      room = omega (arith, ap length c.new-list.ensures);
    }

pub push-requires : goal.push-requires
push-requires c = (omega arith, omega (arith, c.loop-i.invariant.room, few_elements c.args.o.bytes.now c.args.o.layout c.args.o.read))

pub loop-i-preserved : goal.loop-i-preserved
loop-i-preserved c =
    let s = c.args.o.bytes.now in
    let l = c.args.o.layout in
    let i = c.loop-i.i in
    let has = sym c.has_segments.ensures ∙ c.if-not-has_segments.false in
    let inv = c.loop-i.invariant in
    elim c.if-h.branch [
      | then-h w ↦
          let left : left_test s l i ≡ true = is_left s l i true has c.half-h.ensures.is w.if-h.true in
          let more = ap (λ (v : ArrayVec Piece). v.items) w.list-is ∙ w.push.ensures.items ∙ ap (λ p. c.loop-i.list.items ++ (p ∷ [])) (piece_is s l i c.half-h.ensures.is w.ia.ensures) in
          record {
            all = onward (listed s l) c.loop-i.list.items (piece_at s l i ∷ []) (listed_from s l (between (i + 1) l.count))
                (inv.all ∙ ap (λ m. c.loop-i.list.items ++ m) (listed_left s l i c.loop-i-test.true left)) more;
            room = omega (arith, inv.room, ap length more, length-append c.loop-i.list.items (piece_at s l i ∷ []));
          }
      | else-h w ↦
          let right : left_test s l i ≡ false = is_left s l i false has c.half-h.ensures.is w.if-h.false in
          record {
            all = inv.all ∙ ap (λ m. c.loop-i.list.items ++ m) (listed_right s l i c.loop-i-test.true right) ∙ ap (λ (v : ArrayVec Piece). v.items ++ listed_from s l (between (i + 1) l.count)) (sym w.list-is);
            room = omega (arith, inv.room, ap (λ (v : ArrayVec Piece). length v.items) w.list-is);
          }
    ]
