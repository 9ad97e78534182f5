use Rattle.std.proofs.Common.{◌∙◌}
use Rattle.std.proofs.lemmas.Result.{err_from_is_err_and}
use Rattle.plane.specs.Plane.{line}
use Rattle.wkb_rows.specs.Rows.{segments_of}
use Rattle.wkb_gathering.specs.Gathers.{parts_of}
use Rattle.wkb_reading.proofs.Objects.{accepted, not_accepted, good, halves_few, line_bytes, line_alone}
use Rattle.wkb_reading.proofs.object.line.Goals as goal

pub invariant_of-write_line : goal.invariant_of-write_line
invariant_of-write_line c = record { few = c.keys-ends.ensures.few; good = good c.args.wkb.now c.keys-ends.result.now (c.keys-ends.ensures.same ∙ c.in_ok-row.ensures) }

pub check-requires : goal.check-requires
check-requires c =
    line_alone c.args.wkb.now c.keys-ends.result.now (c.keys-ends.ensures.same ∙ c.in_ok-row.ensures) c.keys-ends.ensures.few (rw c.requires.empty at c.write_line.ensures)

pub returns-in_err-check : goal.returns-in_err-check
returns-in_err-check c =
    let s = c.args.wkb.now in
    let p = err_from_is_err_and c.from_residual-in_err-check.result c.from_residual-in_err-check.ensures.1 in
    let e = c.keys-ends.ensures.same ∙ c.in_ok-row.ensures in
    rw (p.1, p.2)
    (not_accepted (line (segments_of (parts_of s))) (halves_few s c.keys-ends.result.now e c.keys-ends.ensures.few)
    (line_bytes s c.keys-ends.result.now e (rw c.requires.empty at c.write_line.ensures)) c.in_err-check.field-0.0 c.in_err-check.ensures.checked)

pub returns : goal.returns
returns c =
    let s = c.args.wkb.now in
    let e = c.keys-ends.ensures.same ∙ c.in_ok-row.ensures in
    rw c.in_ok-check.ensures.same
    (accepted (line (segments_of (parts_of s))) (halves_few s c.keys-ends.result.now e c.keys-ends.ensures.few)
    (line_bytes s c.keys-ends.result.now e (rw c.requires.empty at c.write_line.ensures)) _ c.in_ok-check.ensures.checked)
