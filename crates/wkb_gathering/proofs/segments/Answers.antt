-- The parts of the file, one after the other, from an empty row.
use Rattle.std.proofs.Common.{◌≡◌, ◌≤◌, ℕ, List, [], T, map, length, ap, ap₂, sym, ◌∙◌, subst, arith}
use lib.ListN.{length-map}
use Rattle.scene_keys.specs.declared.Ends.{Ends}
use Rattle.std.proofs.lemmas.Result.{err_from_is_err_and}
use Rattle.scene_keys.specs.Keyed.{ends_of}
use Rattle.wkb_grammar.specs.Fields.{type_at, count_at}
use Rattle.wkb_grammar.specs.Grammar.{Read, Row, is_taken, many, part_at, file}
use Rattle.wkb_rows.specs.Rows.{segments_of, ends_cmp}
use Rattle.wkb_gathering.specs.Keys.{part_ends}
use Rattle.wkb_gathering.specs.Gathers.{parts_of}
use Rattle.wkb_gathering.proofs.Walking.{Each, each_begins, each_taken, each_goes_on, each_stops, each_ends}
use Rattle.wkb_gathering.proofs.Parts.{file_there, parts_taken}
use Rattle.wkb_gathering.proofs.AsKeys.{segments_row}
use Rattle.wkb_gathering.proofs.segments.Goals as goal

module _ (s : List ℕ) (t : T (is_taken (file s))) (kind n : ℕ) (kind_is : kind ≡ type_at s 0) (counted : n ≡ count_at s 0) where
  all_taken : T (is_taken (many (part_at s kind) n 9))
  all_taken = subst (λ (r : Read (List (List Row))). T (is_taken r)) (ap₂ (λ j m. many (part_at s j) m 9) (sym kind_is) (sym counted)) (parts_taken s t)

  -- once all parts are in
  done : {i at : ℕ} {row : List Ends} → n ≤ i → Each ends_cmp part_ends (part_at s kind) n 9 [] i at row → row ≡ map ends_of (segments_of (parts_of s))
  done h w = sym (ap (λ r. r.row) (each_ends ends_cmp part_ends (part_at s kind) n 9 [] h w)) ∙ segments_row s t n counted kind kind_is

pub kind-kind-requires : goal.kind-kind-requires
kind-kind-requires g c = omega (arith, file_there c.args.s.now c.requires.0)

pub count-n-requires : goal.count-n-requires
count-n-requires g c = file_there c.args.s.now c.requires.0

pub loop-init : goal.loop-init
loop-init g c =
    let s = c.args.s.now in
    subst (λ r. Each ends_cmp part_ends (part_at s c.kind-kind.result) c.count-n.result 9 [] 0 9 r) (sym c.new-row.ensures)
    (each_begins ends_cmp part_ends (part_at s c.kind-kind.result) c.count-n.result 9 [] (all_taken s c.requires.0 c.kind-kind.result c.count-n.result c.kind-kind.ensures c.count-n.ensures))

pub part_into-requires : goal.part_into-requires
part_into-requires g c = (
  omega arith,
  (each_taken ends_cmp part_ends (part_at c.args.s.now c.kind-kind.result) c.count-n.result 9 [] c.loop-test.true c.loop.invariant, λ e. c.requires.1 (sym c.kind-kind.ensures ∙ e)),
)

pub returns-in_err-at : goal.returns-in_err-at
returns-in_err-at g c =
    let s = c.args.s.now in
    let p = err_from_is_err_and c.from_residual.result c.from_residual.ensures.1 in
    rw p.1
    (omega (
      arith,
      each_stops ends_cmp part_ends (part_at s c.kind-kind.result) c.count-n.result 9 [] c.loop-test.true c.loop.invariant g.row.ROOM c.in_err-at.ensures,
      ap length (segments_row s c.requires.0 c.count-n.result c.count-n.ensures c.kind-kind.result c.kind-kind.ensures),
      length-map (segments_of (parts_of s)) ends_of,
    ))

pub loop-preserved : goal.loop-preserved
loop-preserved g c =
    each_goes_on ends_cmp part_ends (part_at c.args.s.now c.kind-kind.result) c.count-n.result 9 [] c.loop-test.true c.loop.invariant c.in_ok-at.at c.part_into.new.row c.in_ok-at.ensures

pub returns : goal.returns
returns g c = done c.args.s.now c.requires.0 c.kind-kind.result c.count-n.result c.kind-kind.ensures c.count-n.ensures c.loop-test.false c.loop.invariant
