-- The search by halving has come to these two ends; the measure is the number of elements between them.
use Rattle.std.proofs.Common.{◌-◌, ◌≤◌, ℕ, Bool, List}
use Rattle.plane.specs.declared.Halfsegment.{Halfsegment}
use Rattle.plane.specs.Plane.{comes_before}
use Rattle.scene.specs.declared.Layout.{Layout}
use Rattle.scene.specs.Conditions.{half}
use Rattle.check_conditions.specs.Partners.{place_for}
use Rattle.check_conditions.proofs.Halving.{Halving}
use Rattle.check_conditions.proofs.partners.place_for.Given as goal

abbrev pub test : List ℕ → Layout → Halfsegment → ℕ → Bool
test s l h j = comes_before (half s l j) h

abbrev pub invariant-loop-low : goal.invariant-loop-low
invariant-loop-low l =
    record {
      ascend : l.low ≤ l.high;
      within : l.high ≤ l.o.layout.count;
      halving : Halving (test l.o.bytes.now l.o.layout l.h) (place_for l.o.bytes.now l.o.layout l.h) l.low l.high;
    }

abbrev pub decreases-loop-low : goal.decreases-loop-low
decreases-loop-low l = l.high - l.low
