-- An end on the line of the segment tells that they do not cross; opposite side values that none is.
use Rattle.std.proofs.Common.{◌∙◌, sym, ap, ap₂, pos}
use mir.Syntax.{w64}
use mir.Val.{to_z, of_z}
use Rattle.plane.specs.Plane.{opposite}
use Rattle.plane.proofs.Machine.{eq_z_no, left_in_range, right_in_range}
use Rattle.split_crossing.proofs.BySides.{apart_is, held_back}
use Rattle.split_crossing.proofs.Putting.{not_off, both_ends, right_end, crossing_alone}
use Rattle.split_crossing.proofs.Sides.{none_by, apart_by, opposite_some, zero_apart}
use Rattle.split_crossing.proofs.Stepped.put_cuts.Goals as goal

pub returns-then-left-eq0 : goal.returns-then-left-eq0
returns-then-left-eq0 c =
    let o = c.args.self in
    let t = c.args.t in
    let none = sym (held_back o t.left (left_in_range t c.requires.0) c.side_of-left.ensures) ∙ ap (to_z w64) c.if-left-eq0.true in
    let apart = apart_is o.segment t (apart_by o.segment o.next o.count o.steps t (zero_apart _ _ (sym c.side_of-left.ensures ∙ none))) in
    (not_off o.segment t apart, both_ends o.segment t apart _ _ _ c.put_end.ensures c.put_end-then-left-eq0.ensures)

pub returns-then-are_opposite : goal.returns-then-are_opposite
returns-then-are_opposite c =
    let o = c.args.self in
    let t = c.args.t in
    let l = held_back o t.left (left_in_range t c.requires.0) c.side_of-left.ensures in
    let r = held_back o t.right (right_in_range t c.requires.0) c.side_of-right.ensures in
    let some = opposite_some _ _ (sym (c.are_opposite.ensures ∙ ap₂ opposite l r) ∙ c.if-are_opposite.true) in (
      c.put_crossing.ensures.0,
      crossing_alone o.segment t _ _
          (none_by o.segment o.next o.count o.steps t.left c.side_of-left.ensures some.0)
          (none_by o.segment o.next o.count o.steps t.right c.side_of-right.ensures some.1)
          c.put_crossing.ensures.1,
    )

pub returns : goal.returns
returns c =
    let o = c.args.self in
    let t = c.args.t in
    let l = held_back o t.left (left_in_range t c.requires.0) c.side_of-left.ensures in
    let r = held_back o t.right (right_in_range t c.requires.0) c.side_of-right.ensures in
    let none = eq_z_no c.side_of-left.result (pos 0) (λ e. c.if-left-eq0.false (ap (of_z w64) e)) in
    let apart = apart_is o.segment t (apart_by o.segment o.next o.count o.steps t (ap₂ opposite (sym c.side_of-left.ensures) (sym c.side_of-right.ensures) ∙ sym (c.are_opposite.ensures ∙ ap₂ opposite l r) ∙ c.if-are_opposite.false)) in
    (not_off o.segment t apart, right_end o.segment t apart _ _ (none_by o.segment o.next o.count o.steps t.left c.side_of-left.ensures none) c.put_end-2.ensures)
