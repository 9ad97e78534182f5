-- What is found of the lists that the code has is what the definitions say of the objects.
use Rattle.std.proofs.Common.{◌∙◌, sym, ap, subst, length, Some}
use Rattle.split_cuts.specs.Listed.{segments_of}
use Rattle.split_cuts.specs.Split.{off_grid, split_pieces, Says}
use Rattle.split.proofs.Cutting.{listed_as, listed_segments, listed_good, over_512, within_512, cut_right, off_is, off_refused, own_refused, other_refused, both_taken}
use Rattle.split.proofs.cut.cut_both.Goals as goal

pub invariant_of-other : goal.invariant_of-other
invariant_of-other c =
    let z = c.args.pair in
    let e = listed_as c.as_slice-2.ensures.value c.listed-other_list.ensures c.other.ensures.0 c.other.ensures.1 in
    record { few = c.as_slice-2.ensures.fits; good = listed_good z.bytes.now z.other c.as_slice-2.result.now z.other_read e }

pub invariant_of-own : goal.invariant_of-own
invariant_of-own c =
    let z = c.args.pair in
    let e = listed_as c.as_slice.ensures.value c.listed-own_list.ensures c.own.ensures.0 c.own.ensures.1 in
    record { few = c.as_slice.ensures.fits; good = listed_good z.bytes.now z.own c.as_slice.result.now z.own_read e }

pub returns-in-Err-OffGrid : goal.returns-in-Err-OffGrid
returns-in-Err-OffGrid c =
    let z = c.args.pair in
    let e = listed_as c.as_slice-2.ensures.value c.listed-other_list.ensures c.other.ensures.0 c.other.ensures.1 in
    let says = subst (λ u. Says u (off_grid c.own-2.result.bytes.now c.own-2.result.layout (segments_of c.as_slice-2.result.now)) (length (split_pieces (segments_of c.as_slice-2.result.now) c.as_slice.result.now))) c.in-Err-OffGrid.field-0-is c.in-Err-OffGrid.ensures in
    rw c.at.ensures (off_refused z.bytes.now z.own z.other (off_is z.bytes.now z.own z.other c.as_slice-2.result.now (sym (says ∙ ap Some (sym c.in-Err-OffGrid.place-is))) c.own-2.ensures.0 c.own-2.ensures.1 (listed_segments z.bytes.now z.other e)))

pub returns-in-Err-TooMany : goal.returns-in-Err-TooMany
returns-in-Err-TooMany c =
    let z = c.args.pair in
    let e = listed_as c.as_slice-2.ensures.value c.listed-other_list.ensures c.other.ensures.0 c.other.ensures.1 in
    let f = listed_as c.as_slice.ensures.value c.listed-own_list.ensures c.own.ensures.0 c.own.ensures.1 in
    let says = subst (λ u. Says u (off_grid c.own-2.result.bytes.now c.own-2.result.layout (segments_of c.as_slice-2.result.now)) (length (split_pieces (segments_of c.as_slice-2.result.now) c.as_slice.result.now))) c.in-Err-TooMany.field-0-is c.in-Err-TooMany.ensures in
    rw c.at-in-Err-TooMany.ensures
    (own_refused z.bytes.now z.own z.other
    (off_is z.bytes.now z.own z.other c.as_slice-2.result.now (sym says.0) c.own-2.ensures.0 c.own-2.ensures.1 (listed_segments z.bytes.now z.other e))
    (over_512 z.bytes.now z.own z.other c.as_slice.result.now c.as_slice-2.result.now f (listed_segments z.bytes.now z.other e) says.1))

pub returns-in_default : goal.returns-in_default
returns-in_default c =
    let z = c.args.pair in
    let e = listed_as c.as_slice-2.ensures.value c.listed-other_list.ensures c.other.ensures.0 c.other.ensures.1 in
    let f = listed_as c.as_slice.ensures.value c.listed-own_list.ensures c.own.ensures.0 c.own.ensures.1 in
    let a = c.in-Ok.ensures in
    let off = off_is z.bytes.now z.own z.other c.as_slice-2.result.now (sym a.0) c.own-2.ensures.0 c.own-2.ensures.1 (listed_segments z.bytes.now z.other e) in
    let few = within_512 z.bytes.now z.own z.other c.as_slice.result.now c.as_slice-2.result.now f (listed_segments z.bytes.now z.other e) c.in-Ok.cut a.1 a.3 in
    rw c.at-in_default.ensures
    (other_refused z.bytes.now z.own z.other off few (over_512 z.bytes.now z.other z.own c.as_slice-2.result.now c.as_slice.result.now e (listed_segments z.bytes.now z.own f) c.in_default.ensures))

pub returns : goal.returns
returns c =
    let z = c.args.pair in
    let e = listed_as c.as_slice-2.ensures.value c.listed-other_list.ensures c.other.ensures.0 c.other.ensures.1 in
    let f = listed_as c.as_slice.ensures.value c.listed-own_list.ensures c.own.ensures.0 c.own.ensures.1 in
    let a = c.in-Ok.ensures in
    let b = c.in-Ok-cut.ensures in
    let off = off_is z.bytes.now z.own z.other c.as_slice-2.result.now (sym a.0) c.own-2.ensures.0 c.own-2.ensures.1 (listed_segments z.bytes.now z.other e) in
    let few = within_512 z.bytes.now z.own z.other c.as_slice.result.now c.as_slice-2.result.now f (listed_segments z.bytes.now z.other e) c.in-Ok.cut a.1 a.3 in
    let few-other = within_512 z.bytes.now z.other z.own c.as_slice-2.result.now c.as_slice.result.now e (listed_segments z.bytes.now z.own f) c.in-Ok-cut.other_cut b.0 b.2 in (
      both_taken z.bytes.now z.own z.other off few few-other,
      cut_right z.bytes.now z.own z.other c.as_slice.result.now c.as_slice-2.result.now f (listed_segments z.bytes.now z.other e) c.in-Ok.cut a.1 a.2,
      cut_right z.bytes.now z.other z.own c.as_slice-2.result.now c.as_slice.result.now e (listed_segments z.bytes.now z.own f) c.in-Ok-cut.other_cut b.0 b.1,
    )
