-- `areas::sums::add` meets its contract: each part has the term by the sides where both regions adjoin the segment, or one alone.
use Rattle.std.proofs.Common.{◌≤◌, ◌^◌, ◌≡◌, not, sym, subst, ◌∙◌}
use mathlib.Core.Bool.{and_comm}
use lib.Dec.{T}
use lib.IntN.{ℤ, nat_abs}
use mir.Syntax.{w64}
use mir.Val.{to_z, of_z}
use Rattle.plane.specs.declared.Segment.{Segment}
use Rattle.plane.specs.Plane.{segment_in_range}
use Rattle.plane.specs.Shoelace.{shoelace}
use Rattle.areas.specs.Parts.{Part, in_both, in_f_only, in_g_only}
use Rattle.areas.specs.declared.sums.Sums.{Sums}
use Rattle.areas.specs.Areas.{sum_of, Small}
use Rattle.areas.proofs.Adding.{back, back_as, value_small, sum_added}
use Rattle.areas.proofs.sums.add.Goals as goal

handed : (x : Sums) (p : Part) (t : Segment) → T (segment_in_range t) → Small x → {v : ℤ} → v ≡ shoelace t
    → (nat_abs (to_z w64 (of_z w64 (sum_of x p))) ≤ 2 ^ 61) × (nat_abs (to_z w64 (of_z w64 v)) ≤ 2 ^ 61)
handed x p t range small e =
    (subst (λ (z : ℤ). nat_abs z ≤ 2 ^ 61) (sym (back (sum_of x p) (small p))) (small p), subst (λ (z : ℤ). nat_abs z ≤ 2 ^ 61) (sym (back_as e (value_small t range))) (value_small t range))

pub added-requires : goal.added-requires
added-requires c = handed c.args.sums in_both c.args.next.segment c.requires.0 c.requires.1 c.shoelace-v.ensures

pub added-requires-2 : goal.added-requires-2
added-requires-2 c = handed c.args.sums in_f_only c.args.next.segment c.requires.0 c.requires.1 c.shoelace-v.ensures

pub added-requires-3 : goal.added-requires-3
added-requires-3 c = handed c.args.sums in_g_only c.args.next.segment c.requires.0 c.requires.1 c.shoelace-v.ensures

pub returns : goal.returns
returns c in_both =
    let z = c.args in
    let sides = c.and.ensures in
    sum_added z.next.segment c.requires.0 (sum_of z.sums in_both) (c.requires.1 in_both) c.shoelace-v.ensures sides.1 sides.0 c.added.ensures
returns c in_f_only =
    let z = c.args in
    let sides = c.without.ensures in
    sum_added z.next.segment c.requires.0 (sum_of z.sums in_f_only) (c.requires.1 in_f_only) c.shoelace-v.ensures sides.1 sides.0 c.added-2.ensures
returns c in_g_only =
    let z = c.args in
    let sides = c.without-2.ensures in
    let above = sides.1 ∙ and_comm z.next.of_g.above (not z.next.of_f.above) in
    let below = sides.0 ∙ and_comm z.next.of_g.below (not z.next.of_f.below) in
    sum_added z.next.segment c.requires.0 (sum_of z.sums in_g_only) (c.requires.1 in_g_only) c.shoelace-v.ensures above below c.added-3.ensures
