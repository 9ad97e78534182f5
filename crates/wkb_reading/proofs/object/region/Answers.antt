use Rattle.std.proofs.Common.{◌≡◌, ◌*◌, ◌∙◌, List, Bool, length, map, ap, arith}
use Rattle.std.proofs.lemmas.List.{length-map}
use lib.Seq.{length-take-le}
use Rattle.std.proofs.lemmas.Result.{err_from_is_err_and}
use Rattle.whole.proofs.Logic.{is_true}
use Rattle.plane.specs.Plane.{interior_above, region}
use Rattle.scene.specs.declared.Shape.TheVariants.{Region}
use Rattle.scene.proofs.Taken.{layout}
use Rattle.scene_keys.specs.declared.Ends.{Ends}
use Rattle.scene_keys.specs.Keyed.{keyed_segment}
use Rattle.scene_writing.specs.Rows.{segments_in}
use Rattle.check_alone.proofs.Alone.{short, taken}
use Rattle.wkb_rows.specs.Rows.{segments_of}
use Rattle.wkb_gathering.specs.Gathers.{parts_of}
use Rattle.wkb_reading.proofs.Objects.{accepted, not_accepted, good, halves_few, region_bytes, region_alone, accepted_bytes}
use Rattle.wkb_reading.proofs.object.region.Goals as goal

pub invariant_of-segments : goal.invariant_of-segments
invariant_of-segments c = record { few = c.keys.ensures.few; good = good c.args.wkb.now c.keys.result.now (c.keys.ensures.same ∙ c.in_ok-row.ensures) }

-- one ia for each segment
by_counting : (row : List Ends) (ia : List Bool) → ia ≡ map (interior_above (segments_in row)) (segments_in row) → length ia ≡ length row
by_counting row ia e = ap length e ∙ length-map (segments_in row) (interior_above (segments_in row)) ∙ length-map row keyed_segment

pub is_sound-requires : goal.is_sound-requires
is_sound-requires c =
    let row = c.keys.result.now in
    let few = c.keys.ensures.few in
    let read = region_alone c.args.wkb.now row (c.keys.ensures.same ∙ c.in_ok-row.ensures) few _ (length-take-le (length row) c.guess-guessed.result (omega (arith, few))) (rw c.requires.empty at c.write_region_in.ensures) in
    (omega arith, (read, omega (arith, short c.write_region_in.new.out.items _ read)))

pub returns-then-is_sound : goal.returns-then-is_sound
returns-then-is_sound c =
    let s = c.args.wkb.now in
    let row = c.keys.result.now in
    let e = c.keys.ensures.same ∙ c.in_ok-row.ensures in
    let few = c.keys.ensures.few in
    let many = length-take-le (length row) c.guess-guessed.result (omega (arith, few)) in
    let read = region_alone s row e few _ many (rw c.requires.empty at c.write_region_in.ensures) in
    let sound = taken c.write_region_in.new.out.items _ read (c.is_sound.ensures.decides.sound (is_true c.is_sound.result c.if-is_sound.true)) in
    rw c.if-is_sound.ensures.same
    (accepted (region (segments_of (parts_of s))) (halves_few s row e few)
    (accepted_bytes s row e few _ many (rw c.requires.empty at c.write_region_in.ensures) sound) (layout Region 0 (2 * length row)) sound)

pub check-requires : goal.check-requires
check-requires c =
    let row = c.keys.result.now in
    region_alone c.args.wkb.now row (c.keys.ensures.same ∙ c.in_ok-row.ensures) c.keys.ensures.few _
    (by_counting row _ (c.as_slice-4.ensures.value ∙ c.interiors-ia.ensures)) (rw c.clear.ensures at c.write_region_in-2.ensures)

pub returns-in_err-check : goal.returns-in_err-check
returns-in_err-check c =
    let s = c.args.wkb.now in
    let row = c.keys.result.now in
    let p = err_from_is_err_and c.from_residual-in_err-check.result c.from_residual-in_err-check.ensures.1 in
    let e = c.keys.ensures.same ∙ c.in_ok-row.ensures in
    let i = c.as_slice-4.ensures.value ∙ c.interiors-ia.ensures in
    rw (p.1, p.2)
    (not_accepted (region (segments_of (parts_of s))) (halves_few s row e c.keys.ensures.few)
    (region_bytes s row e c.keys.ensures.few _ (by_counting row _ i) (rw c.clear.ensures at c.write_region_in-2.ensures) i) c.in_err-check.field-0.0 c.in_err-check.ensures.checked)

pub returns : goal.returns
returns c =
    let s = c.args.wkb.now in
    let row = c.keys.result.now in
    let e = c.keys.ensures.same ∙ c.in_ok-row.ensures in
    let i = c.as_slice-4.ensures.value ∙ c.interiors-ia.ensures in
    rw c.in_ok-check.ensures.same
    (accepted (region (segments_of (parts_of s))) (halves_few s row e c.keys.ensures.few)
    (region_bytes s row e c.keys.ensures.few _ (by_counting row _ i) (rw c.clear.ensures at c.write_region_in-2.ensures) i) _ c.in_ok-check.ensures.checked)
