-- One element more has been passed.
use Rattle.std.proofs.Common.{◌+◌, ◌*◌, ◌<◌, ◌≤◌, subst, ℕ, List, length, false, arith}
use borrow.Author.Count.{below_more}
use Rattle.scene.specs.declared.Shape.{Shape}
use Rattle.scene.specs.declared.Kind.TheVariants.{Element}
use Rattle.scene.specs.Read.{size, most, stands_in}
use Rattle.scene.proofs.Passed.{passed}
use Rattle.scene_reading.specs.Faultless.{IsElement}
use Rattle.scene_reading.proofs.faultless.count_of.Invariants.{SoFar}
use Rattle.scene_reading.proofs.faultless.count_of.Goals as goal

-- an element is whole
beyond : (s : List ℕ) (k : Shape) (at : ℕ) → IsElement s k at → at + size k ≤ length s
beyond s k at e = omega (arith, (passed s at (stands_in k) false (Element k) e).whole)

module _ {s : List ℕ} {k : Shape} {start i : ℕ} (f : SoFar s k start i) where
  one_more : i < most → IsElement s k (start + i * size k) → SoFar s k start (i + 1)
  one_more h e =
      record { few = omega arith; there = omega (arith, beyond s k (start + i * size k) e); each = below_more (λ j. IsElement s k (start + j * size k)) i f.each e }

pub loop-i-preserved : goal.loop-i-preserved
loop-i-preserved c =
    let v = c.loop-i.invariant in
    record {
      step_is = v.step_is;
      here = omega (arith, v.step_is, v.here);
      passed = one_more v.passed c.loop-i-test.true (subst (IsElement c.args.s.now c.args.k) v.here (c.if-not-is_faultless.ensures.0 tt));
    }
