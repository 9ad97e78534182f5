-- The three steps, each of which may end it.
use Rattle.std.proofs.Common.{◌∙◌, sym}
use Rattle.std.proofs.lemmas.Result.{err_from_is_err_and}
use Rattle.wkb_reading.proofs.Answered.{reached, at_fault, given_up, handed_over}
use Rattle.wkb_grammar.proofs.Taken.{taken_at_end}
use Rattle.wkb_grammar.specs.Grammar.{file}
use Rattle.wkb_reading.proofs.read.Goals as goal

pub returns-in_err-scan : goal.returns-in_err-scan
returns-in_err-scan c =
    let p = err_from_is_err_and c.from_residual.result c.from_residual.ensures.1 in
    rw (p.1, p.2) (at_fault c.args.wkb.now c.args.object.now c.in_err-scan.field-0.0 (sym c.scan.ensures ∙ c.in_err-scan.was))

pub returns-in_err-of_file : goal.returns-in_err-of_file
returns-in_err-of_file c =
    let p = err_from_is_err_and c.from_residual-in_err-of_file.result c.from_residual-in_err-of_file.ensures.1 in
    let q = reached (file c.args.wkb.now) (sym c.scan.ensures ∙ c.in_ok-scan.was) in
    let m = c.of_file.ensures in
    rw (p.1, p.2) (given_up c.args.wkb.now c.args.object.now q.0 _ q.1 c.in_err-of_file.field-0.0 (rw c.in_err-of_file.was at m))

pub returns : goal.returns
returns c =
    let q = reached (file c.args.wkb.now) (sym c.scan.ensures ∙ c.in_ok-scan.was) in
    let m = c.of_file.ensures in
    let value = c.as_slice.ensures.value in
    handed_over c.args.wkb.now c.args.object.now q.0 _ q.1 c.of_file.new.bytes.items (rw c.in_ok-of_file.was at m) c.hand_over.result c.hand_over.new.object
    (rw value at c.hand_over.ensures.0) (rw value at c.hand_over.ensures.1)

pub of_file-requires : goal.of_file-requires
of_file-requires c = record { taken = taken_at_end (file c.args.wkb.now) _ (sym c.scan.ensures ∙ c.in_ok-scan.was); empty = c.new-bytes.ensures }
