use Rattle.std.proofs.Common.{◌≡◌, sym, ap, true, ℕ, ◌+◌, ◌-◌, ◌<◌, ◌≤◌, length, List, arith, rules}
use Rattle.scene.specs.declared.Layout.{Layout}
use Rattle.scene.specs.Read.{size, place, IsObject}
use Rattle.scene.specs.Conditions.{has_segments}
use Rattle.scene_segments.specs.Walked.{Readable}
use Rattle.scene_segments.proofs.Elements.{fits, half_good, order_of_points, order_of_halves}
use Rattle.scene_segments.proofs.Walk.{object_fits}
use Rattle.check_conditions.proofs.order.is_ordered.Goals as goal

readable : (s : List ℕ) (l : Layout) → IsObject s l → has_segments l.shape ≡ true → (i : ℕ) → i < l.count → Readable s (place l i)
readable s l is has i h = let good = half_good s l is i h has in (good.there, good.in_range_lem)

pub ascends-requires : goal.ascends-requires
ascends-requires c =
    let s = c.args.o.bytes.now in
    let l = c.args.o.layout in
    let e : 9 ≡ size l.shape = ap size (sym c.in-Points.is) in (
      omega (arith, object_fits s l c.args.o.read, c.well_formed),
      e,
      λ i after h.
          let one : place l (i - 1) + 9 ≤ length s = omega (arith, fits s l c.args.o.read (i - 1) (omega arith), e) in
          let two : place l i + 9 ≤ length s = omega (arith, fits s l c.args.o.read i h, e) in
          search rules,
    )

pub ascends-requires-in-Line : goal.ascends-requires-in-Line
ascends-requires-in-Line c =
    let s = c.args.o.bytes.now in
    let l = c.args.o.layout in
    let has : has_segments l.shape ≡ true = ap has_segments c.in-Line.is in (
      omega (arith, object_fits s l c.args.o.read, c.well_formed),
      ap size (sym c.in-Line.is),
      λ i after h.
          let one = readable s l c.args.o.read has (i - 1) (omega arith) in
          let two = readable s l c.args.o.read has i h in
          search rules,
    )

pub ascends-requires-in-Region : goal.ascends-requires-in-Region
ascends-requires-in-Region c =
    let s = c.args.o.bytes.now in
    let l = c.args.o.layout in
    let has : has_segments l.shape ≡ true = ap has_segments c.in-Region.is in (
      omega (arith, object_fits s l c.args.o.read, c.well_formed),
      ap size (sym c.in-Region.is),
      λ i after h.
          let one = readable s l c.args.o.read has (i - 1) (omega arith) in
          let two = readable s l c.args.o.read has i h in
          search rules,
    )

pub returns-in-Points : goal.returns-in-Points
returns-in-Points c =
    let s = c.args.o.bytes.now in
    let l = c.args.o.layout in
    c.ascends.ensures s (λ i after h r k. let e = order_of_points s l (i - 1) i (ap has_segments c.in-Points.is) in search rules)

pub returns-in-Line : goal.returns-in-Line
returns-in-Line c =
    let s = c.args.o.bytes.now in
    let l = c.args.o.layout in
    c.ascends-in-Line.ensures s (λ i after h r k. let e = order_of_halves s l (i - 1) i (ap has_segments c.in-Line.is) in search rules)

pub returns-in-Region : goal.returns-in-Region
returns-in-Region c =
    let s = c.args.o.bytes.now in
    let l = c.args.o.layout in
    c.ascends-in-Region.ensures s (λ i after h r k. let e = order_of_halves s l (i - 1) i (ap has_segments c.in-Region.is) in search rules)
