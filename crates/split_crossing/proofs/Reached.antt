-- Where a segment in steps crosses t, by the size of its left end's side value and the change of it with each step.
use Prim.Native.Nat.{ℕ, ◌/◌, ◌%◌, ◌<◌, ◌≤◌}
use mathlib.Core.Path.{◌≡◌, sym, ap₂, ◌∙◌, subst}
use mathlib.Core.Bool.{true}
use lib.Dec.{T}
use Rattle.whole.proofs.Logic.{is_true}
use Rattle.plane.specs.declared.Segment.{Segment}
use Rattle.plane.specs.Plane.{cross}
use Rattle.split_crossing.specs.declared.Crossing.TheVariants.{OffGrid, At}
use Rattle.split_crossing.specs.declared.Stepped.{Stepped}
use Rattle.split_crossing.specs.Crossing.{size_left, crossing_of}
use Rattle.split_crossing.specs.Steps.{reached}
use Rattle.split_crossing.proofs.Stepping.{change, change_above, few_steps, crossing_there, crossing_nowhere}

module _ (o : Stepped) (t : Segment) (x : true ≡ cross o.segment t) (before by : ℕ) (e : before ≡ size_left o.segment t) (f : by ≡ change o.segment o.next o.count o.steps t) where
  crossed : T (cross o.segment t)
  crossed = is_true (cross o.segment t) (sym x)

  pub above : 0 < by
  above = subst (λ n. 0 < n) (sym f) (change_above o.segment o.next o.count o.steps t crossed)

  pub few : before / by ≤ o.count
  few = subst (λ n. n ≤ o.count) (sym (ap₂ (λ a b. a / b) e f)) (few_steps o.segment o.next o.count o.steps t crossed)

  pub there : before % by ≡ 0 → At (reached o.segment o.next (before / by)) ≡ crossing_of o.segment t
  there g = ap₂ (λ a b. At (reached o.segment o.next (a / b))) e f ∙ crossing_there o.segment o.next o.count o.steps t crossed (sym (ap₂ (λ a b. a % b) e f) ∙ g)

  pub nowhere : (before % by ≡ 0 → ⊥) → OffGrid ≡ crossing_of o.segment t
  nowhere n = crossing_nowhere o.segment o.next o.count o.steps t crossed (λ z. n (ap₂ (λ a b. a % b) e f ∙ z))
