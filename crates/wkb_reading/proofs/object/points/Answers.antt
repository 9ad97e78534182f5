use Rattle.std.proofs.Common.{◌∙◌, ap, length, arith}
use Rattle.std.proofs.lemmas.Result.{err_from_is_err_and}
use Rattle.plane.specs.Plane.{points}
use Rattle.wkb_rows.specs.Rows.{points_of}
use Rattle.wkb_gathering.specs.Gathers.{parts_of}
use Rattle.wkb_reading.proofs.Objects.{accepted, not_accepted, keys, points_few, points_bytes, points_alone}
use Rattle.wkb_reading.proofs.object.points.Goals as goal

pub write_points-requires : goal.write_points-requires
write_points-requires c =
    (omega arith, (keys c.args.wkb.now c.keys-keys.result.now (c.keys-keys.ensures.same ∙ c.in_ok-row.ensures), omega (arith, ap length c.requires.empty, c.keys-keys.ensures.few)))

pub check-requires : goal.check-requires
check-requires c =
    points_alone c.args.wkb.now c.keys-keys.result.now (c.keys-keys.ensures.same ∙ c.in_ok-row.ensures) c.keys-keys.ensures.few (rw c.requires.empty at c.write_points.ensures)

pub returns-in_err-check : goal.returns-in_err-check
returns-in_err-check c =
    let s = c.args.wkb.now in
    let p = err_from_is_err_and c.from_residual-in_err-check.result c.from_residual-in_err-check.ensures.1 in
    let e = c.keys-keys.ensures.same ∙ c.in_ok-row.ensures in
    rw (p.1, p.2)
    (not_accepted (points (points_of (parts_of s))) (points_few s c.keys-keys.result.now e c.keys-keys.ensures.few)
    (points_bytes s c.keys-keys.result.now e (rw c.requires.empty at c.write_points.ensures)) c.in_err-check.field-0.0 c.in_err-check.ensures.checked)

pub returns : goal.returns
returns c =
    let s = c.args.wkb.now in
    let e = c.keys-keys.ensures.same ∙ c.in_ok-row.ensures in
    rw c.in_ok-check.ensures.same
    (accepted (points (points_of (parts_of s))) (points_few s c.keys-keys.result.now e c.keys-keys.ensures.few)
    (points_bytes s c.keys-keys.result.now e (rw c.requires.empty at c.write_points.ensures)) _ c.in_ok-check.ensures.checked)
