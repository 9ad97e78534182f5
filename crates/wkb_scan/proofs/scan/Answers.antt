-- The parts are read, and nothing is left over, or the first of both that is a fault is the file's.
use Rattle.std.proofs.Common.{Result, Ok, ℕ, List, ◌≡◌, ◌∙◌, sym, ap}
use Rattle.std.proofs.lemmas.Result.{err_from_is_err_and}
use Rattle.wkb_grammar.specs.declared.Fault.{Fault}
use Rattle.wkb_grammar.specs.Fields.{type_at, counted_at, count_at}
use Rattle.wkb_grammar.specs.Grammar.{outcome, many, part_at, file}
use Rattle.wkb_scan.specs.InTurn.{onward}
use Rattle.wkb_scan.proofs.Laws.{last, file_is}
use Rattle.wkb_scan.proofs.scan.Goals as goal

comes_to : (s : List ℕ) (kind n : ℕ) (r q : Result ℕ Fault) → counted_at s 0 4 6 ≡ Ok tt → kind ≡ type_at s 0 → n ≡ count_at s 0
    → r ≡ outcome (many (part_at s kind) n 9) → r ≡ q → outcome (file s) ≡ onward q (last s)
comes_to s kind n r q h k m e was = file_is s h ∙ ap (λ r. onward r (last s)) (rw (← k, ← m) (sym e ∙ was))

pub returns-in_err-end : goal.returns-in_err-end
returns-in_err-end c =
    let p = err_from_is_err_and c.from_residual-in_err-end.result c.from_residual-in_err-end.ensures.1 in
    rw (p.1, p.2)
    (sym (comes_to c.args.s.now c.kind.result c.count.result c.parts.result _ (sym c.counted.ensures ∙ c.in_ok-counted.was) c.kind.ensures c.count.ensures c.parts.ensures c.in_err-end.was))

pub returns-in_err-must : goal.returns-in_err-must
returns-in_err-must c =
    let p = err_from_is_err_and c.from_residual-in_err-must.result c.from_residual-in_err-must.ensures.1 in
    rw (p.1, p.2)
    (sym (comes_to c.args.s.now c.kind.result c.count.result c.parts.result _ (sym c.counted.ensures ∙ c.in_ok-counted.was) c.kind.ensures c.count.ensures c.parts.ensures c.in_ok-end.was
    ∙ rw (sym c.must.ensures ∙ c.in_err-must.was)))

pub returns : goal.returns
returns c =
    sym (comes_to c.args.s.now c.kind.result c.count.result c.parts.result _ (sym c.counted.ensures ∙ c.in_ok-counted.was) c.kind.ensures c.count.ensures c.parts.ensures c.in_ok-end.was
    ∙ rw (sym c.must.ensures ∙ c.in_ok-must.was))
