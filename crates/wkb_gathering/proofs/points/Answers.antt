-- The points of the file's parts, one after the other, into an empty row.
use Rattle.std.proofs.Common.{◌≡◌, ◌+◌, ◌≤◌, ◌<◌, ℕ, List, [], ◌∷◌, T, map, length, ap, sym, ◌∙◌, subst, arith}
use lib.ListN.{length-map}
use Rattle.std.specs.Ordering.{nat_cmp}
use Rattle.std.proofs.lemmas.Result.{err_from_is_err_and}
use Rattle.scene_keys.specs.Keyed.{key}
use Rattle.scene_written.specs.Arranged.{insert}
use Rattle.wkb_grammar.specs.Fields.{is_little, type_at, count_at}
use Rattle.wkb_grammar.specs.Grammar.{Read, got, Row, is_taken, many, one, point_at, point_part, file}
use Rattle.wkb_rows.specs.Rows.{points_of, is_below}
use Rattle.wkb_gathering.specs.Keys.{part_keys}
use Rattle.wkb_gathering.specs.Gathers.{KeyRead, parts_of, put_all}
use Rattle.wkb_gathering.proofs.Walking.{Each, each_begins, each_taken, each_goes_on, each_stops, each_ends}
use Rattle.wkb_gathering.proofs.Parts.{file_there, parts_taken, of_points, point_there, point_part_is, its_point}
use Rattle.wkb_gathering.proofs.AsKeys.{points_row}
use Rattle.wkb_gathering.proofs.points.Goals as goal

module _ (s : List ℕ) (t : T (is_taken (file s))) (is_points : type_at s 0 ≡ 4) (n : ℕ) (counted : n ≡ count_at s 0) where
  all_taken : T (is_taken (many (point_part s) n 9))
  all_taken = subst (λ (r : Read (List (List Row))). T (is_taken r)) (of_points s (count_at s 0) 9 is_points ∙ ap (λ m. many (point_part s) m 9) (sym counted)) (parts_taken s t)

  -- once all parts are in
  done : {i at : ℕ} {row : List ℕ} → n ≤ i → Each nat_cmp part_keys (point_part s) n 9 [] i at row → row ≡ map key (points_of (parts_of s))
  done h w = sym (ap (λ r. r.row) (each_ends nat_cmp part_keys (point_part s) n 9 [] h w)) ∙ points_row s t n counted is_points

  -- a part is one key
  module _ {i at : ℕ} {row : List ℕ} (h : i < n) (w : Each nat_cmp part_keys (point_part s) n 9 [] i at row) where
    taken : T (is_taken (point_part s at))
    taken = each_taken nat_cmp part_keys (point_part s) n 9 [] h w

    there : at + 5 ≤ length s
    there = point_there s at taken

    point_taken : T (is_taken (point_at s (is_little s at) (at + 5)))
    point_taken = its_point s at taken

    module _ (k : ℕ) (r : KeyRead s (is_little s at) (at + 5) k) where
      read : point_part s at ≡ got ((r.point ∷ []) ∷ []) (at + 21)
      read = point_part_is s at taken ∙ ap (λ q. one (one q)) r.is ∙ ap (got ((r.point ∷ []) ∷ [])) further
        where
          further : at + 5 + 16 ≡ at + 21
          further = omega arith

      put : put_all nat_cmp part_keys (point_part s at) row ≡ record { row = insert (is_below nat_cmp) k row; place = at + 21 }
      put = ap (λ q. put_all nat_cmp part_keys q row) read ∙ ap (λ j. record { row = insert (is_below nat_cmp) j row; place = at + 21 }) (sym r.keyed)

      one_more : (next : List ℕ) → next ≡ insert (is_below nat_cmp) k row → Each nat_cmp part_keys (point_part s) n 9 [] (i + 1) (at + 21) next
      one_more next e = each_goes_on nat_cmp part_keys (point_part s) n 9 [] h w (at + 21) next (sym (ap (λ r. r.place) put), e ∙ sym (ap (λ r. r.row) put))

      no_room : (room : ℕ) → room < length (insert (is_below nat_cmp) k row) → room < length (points_of (parts_of s))
      no_room room e =
          omega (
            arith,
            each_stops nat_cmp part_keys (point_part s) n 9 [] h w room (subst (λ r. room < length r.row) (sym put) e),
            ap length (points_row s t n counted is_points),
            length-map (points_of (parts_of s)) key,
          )

pub count-n-requires : goal.count-n-requires
count-n-requires g c = file_there c.args.s.now c.requires.0

pub loop-init : goal.loop-init
loop-init g c =
    let s = c.args.s.now in
    subst (λ r. Each nat_cmp part_keys (point_part s) c.count-n.result 9 [] 0 9 r) (sym c.new-row.ensures)
    (each_begins nat_cmp part_keys (point_part s) c.count-n.result 9 [] (all_taken s c.requires.0 c.requires.1 c.count-n.result c.count-n.ensures))

pub is_little-requires : goal.is_little-requires
is_little-requires g c = omega (arith, there c.args.s.now c.requires.0 c.requires.1 c.count-n.result c.count-n.ensures c.loop-test.true c.loop.invariant)

pub overflow_add-at : goal.overflow_add-at
overflow_add-at g c = omega (arith, there c.args.s.now c.requires.0 c.requires.1 c.count-n.result c.count-n.ensures c.loop-test.true c.loop.invariant)

pub key-requires : goal.key-requires
key-requires g c = rw c.is_little.ensures (point_taken c.args.s.now c.requires.0 c.requires.1 c.count-n.result c.count-n.ensures c.loop-test.true c.loop.invariant)

pub returns-in_err-put : goal.returns-in_err-put
returns-in_err-put g c =
    let s = c.args.s.now in
    let p = err_from_is_err_and c.from_residual.result c.from_residual.ensures.1 in
    let r = subst (λ l. KeyRead s l (c.loop.at + 5) c.key.result) c.is_little.ensures c.key.ensures in
    rw p.1 (no_room s c.requires.0 c.requires.1 c.count-n.result c.count-n.ensures c.loop-test.true c.loop.invariant c.key.result r g.row.ROOM c.in_err-put.ensures.full)

pub loop-preserved : goal.loop-preserved
loop-preserved g c =
    let s = c.args.s.now in
    let r = subst (λ l. KeyRead s l (c.loop.at + 5) c.key.result) c.is_little.ensures c.key.ensures in
    one_more s c.requires.0 c.requires.1 c.count-n.result c.count-n.ensures c.loop-test.true c.loop.invariant c.key.result r c.put.new.self c.in_ok-put.ensures.put

pub returns : goal.returns
returns g c = done c.args.s.now c.requires.0 c.requires.1 c.count-n.result c.count-n.ensures c.loop-test.false c.loop.invariant
