-- The check of two regions, then 17.
use Rattle.std.proofs.Common.{◌<◌, ◌≤◌, ◌∙◌, sym, length, arith, Ok}
use Rattle.scene.proofs.Outcomes.{handed_on}
use Rattle.overlap.specs.Rules.{list_of, NotedWhere}
use Rattle.overlap.proofs.Checked.{not_noted, no_regions, seventeen, roomy, two_regions, regions_read, list_lent}
use Rattle.overlap.proofs.refusals.check_list.Goals as goal

pub returns-in_err-scene : goal.returns-in_err-scene
returns-in_err-scene c =
    let e = handed_on c.from_residual.result c.from_residual.ensures.1 in
    let is = e ∙ sym (no_regions c.args.s.now c.args.room c.in_err-scene.field-0.0 (sym c.check_regions.ensures.is.0 ∙ c.in_err-scene.was)) in
    record { is = (is, not_noted e); lent = list_lent c.args.room is (not_noted e) }

pub invariant_of-read : goal.invariant_of-read
invariant_of-read c = record { read = regions_read c.args.s.now c.in_ok-scene.scene (sym c.check_regions.ensures.is.0 ∙ c.in_ok-scene.was) }

pub count-requires : goal.count-requires
count-requires c =
    let w = two_regions c.args.s.now c.in_ok-scene.scene (sym c.check_regions.ensures.is.0 ∙ c.in_ok-scene.was) in
    rw (c.pair.ensures.1, c.pair.ensures.2) (w.1, w.2)

pub returns-then-room-count : goal.returns-then-room-count
returns-then-room-count c =
    let s = c.args.s.now in
    let sc = c.in_ok-scene.scene in
    let h : c.args.room < length (list_of s sc) = omega (arith, c.if-room-count.true, rw (c.pair.ensures.0, c.pair.ensures.1, c.pair.ensures.2) at c.count.ensures) in
    let is = c.at.ensures ∙ sym (seventeen s c.args.room sc (sym c.check_regions.ensures.is.0 ∙ c.in_ok-scene.was) h) in
    record { is = (is, not_noted c.at.ensures); lent = list_lent c.args.room is (not_noted c.at.ensures) }

pub returns : goal.returns
returns c =
    let s = c.args.s.now in
    let sc = c.in_ok-scene.scene in
    let h : length (list_of s sc) ≤ c.args.room = omega (arith, c.if-room-count.false, rw (c.pair.ensures.0, c.pair.ensures.1, c.pair.ensures.2) at c.count.ensures) in
    let is = sym (roomy s c.args.room sc (sym c.check_regions.ensures.is.0 ∙ c.in_ok-scene.was) h) in
    let noted : NotedWhere s (Ok sc) c.check_regions.new.notes = λ o e. c.check_regions.ensures.is.1 o (c.in_ok-scene.was ∙ e) in
    record { is = (is, noted); lent = list_lent c.args.room is noted }
