-- Where a part was taken, its count is there, and its points or rings were taken.
use Rattle.std.proofs.Common.{◌≡◌, ◌+◌, ℕ, List, Bool, T, ap, ap₂, sym, ◌∙◌, subst, arith}
use Rattle.wkb_grammar.specs.Fields.{is_little, count_at}
use Rattle.wkb_grammar.specs.Grammar.{Read, Row, is_taken, many, point_at, ring_at, part_at, line_part, polygon_part}
use Rattle.wkb_rows.specs.Rows.{ends_cmp}
use Rattle.wkb_gathering.specs.Keys.{row_ends, part_ends}
use Rattle.wkb_gathering.specs.Gathers.{put_all, Puts}
use Rattle.wkb_gathering.proofs.Walking.{put_one}
use Rattle.wkb_gathering.proofs.Parts.{part_there, kind_line, kind_polygon, line_points, its_rings, line_is, line_taken, polygon_is, rings_taken}
use Rattle.wkb_gathering.proofs.part_into.Goals as goal

pub is_little-little-requires : goal.is_little-little-requires
is_little-little-requires g c = omega (arith, part_there c.args.s.now c.args.kind c.args.at c.requires.1 c.requires.0)

pub count-n-requires : goal.count-n-requires
count-n-requires g c = part_there c.args.s.now c.args.kind c.args.at c.requires.1 c.requires.0

pub overflow_add-at : goal.overflow_add-at
overflow_add-at g c = omega (arith, part_there c.args.s.now c.args.kind c.args.at c.requires.1 c.requires.0)

pub overflow_add-at-else-kind-eq5 : goal.overflow_add-at-else-kind-eq5
overflow_add-at-else-kind-eq5 g c = omega (arith, part_there c.args.s.now c.args.kind c.args.at c.requires.1 c.requires.0)

module _ (s : List ℕ) (kind at : ℕ) (t : T (is_taken (part_at s kind at))) (not_points : kind ≡ 4 → ⊥) (little : Bool) (n : ℕ) (as_read : little ≡ is_little s at) (counted : n ≡ count_at s at) where
  module _ (is_line : kind ≡ 5) where
    line_t : T (is_taken (line_part s at))
    line_t = subst (λ (r : Read (List Row)). T (is_taken r)) (kind_line s at kind not_points is_line) t

    its_points : many (point_at s little) n (at + 9) ≡ line_points s at
    its_points = ap₂ (λ l m. many (point_at s l) m (at + 9)) as_read counted

    points_t : T (is_taken (many (point_at s little) n (at + 9)))
    points_t = subst (λ (r : Read Row). T (is_taken r)) (sym its_points) (line_taken s at line_t)

    put_line : (row : List _) → put_all ends_cmp row_ends (many (point_at s little) n (at + 9)) row ≡ put_all ends_cmp part_ends (part_at s kind at) row
    put_line row =
        ap (λ r. put_all ends_cmp row_ends r row) its_points
        ∙ sym (put_one ends_cmp row_ends (line_points s at) row)
        ∙ ap (λ r. put_all ends_cmp part_ends r row) (sym (line_is s at line_t) ∙ sym (kind_line s at kind not_points is_line))

  module _ (no_line : kind ≡ 5 → ⊥) where
    polygon_t : T (is_taken (polygon_part s at))
    polygon_t = subst (λ (r : Read (List Row)). T (is_taken r)) (kind_polygon s at kind not_points no_line) t

    all_rings : many (ring_at s little) n (at + 9) ≡ its_rings s at
    all_rings = ap₂ (λ l m. many (ring_at s l) m (at + 9)) as_read counted

    rings_t : T (is_taken (many (ring_at s little) n (at + 9)))
    rings_t = subst (λ (r : Read (List Row)). T (is_taken r)) (sym all_rings) (rings_taken s at polygon_t)

    put_polygon : (row : List _) → put_all ends_cmp part_ends (many (ring_at s little) n (at + 9)) row ≡ put_all ends_cmp part_ends (part_at s kind at) row
    put_polygon row = ap (λ r. put_all ends_cmp part_ends r row) (all_rings ∙ sym (polygon_is s at polygon_t) ∙ sym (kind_polygon s at kind not_points no_line))

pub row_into-requires : goal.row_into-requires
row_into-requires g c = (
  omega arith,
  points_t c.args.s.now c.args.kind c.args.at c.requires.0 c.requires.1 c.is_little-little.result c.count-n.result c.is_little-little.ensures c.count-n.ensures c.if-kind-eq5.true,
)

pub rings_into-requires : goal.rings_into-requires
rings_into-requires g c = (
  omega arith,
  rings_t c.args.s.now c.args.kind c.args.at c.requires.0 c.requires.1 c.is_little-little.result c.count-n.result c.is_little-little.ensures c.count-n.ensures c.if-kind-eq5.false,
)

pub returns-then-kind-eq5 : goal.returns-then-kind-eq5
returns-then-kind-eq5 g c =
    subst (λ r. Puts g.row.ROOM r c.row_into.result c.row_into.new.row)
    (put_line c.args.s.now c.args.kind c.args.at c.requires.0 c.requires.1 c.is_little-little.result c.count-n.result c.is_little-little.ensures c.count-n.ensures c.if-kind-eq5.true c.args.row.now) c.row_into.ensures

pub returns-else-kind-eq5 : goal.returns-else-kind-eq5
returns-else-kind-eq5 g c =
    subst (λ r. Puts g.row.ROOM r c.rings_into.result c.rings_into.new.row)
    (put_polygon c.args.s.now c.args.kind c.args.at c.requires.0 c.requires.1 c.is_little-little.result c.count-n.result c.is_little-little.ensures c.count-n.ensures c.if-kind-eq5.false c.args.row.now) c.rings_into.ensures
