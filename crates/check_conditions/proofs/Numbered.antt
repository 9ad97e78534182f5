-- A flaw that a number stands for is looked for as the number is.
use Rattle.std.proofs.Common.{◌≡◌, ◌∙◌, refl, ap, ℕ, Bool, true, false, List, ◌+◌, ◌&&◌}
use Rattle.std.specs.Prelude.{cond, eqb, not}
use Rattle.scene.specs.declared.Layout.{Layout}
use Rattle.scene.specs.declared.Flaw.{Flaw}
use Rattle.scene.specs.declared.Flaw.TheVariants.{Misplaced, Unpaired, Touching, OddEnd, WrongIa, TouchingAcross}
use Rattle.scene.specs.Read.{flaw_of}
use Rattle.scene.specs.Conditions.{elements, earliest, has_segments, is_misplaced}
use Rattle.check_conditions.specs.Partners.{has_partner}
use Rattle.check_conditions.specs.Odd.{begins_oddly, is_mismarked}
use Rattle.check_conditions.specs.Faults.{touches_any, is_at_fault, is_at_fault_by, fault_under, fault_by}

module _ (s : List ℕ) (l other : Layout) where
  one : (n i : ℕ) → is_at_fault s l other (flaw_of n) i ≡ is_at_fault_by s l other n i
  unfolding flaw_of
  one n i = go (eqb n 10) (eqb n 11) (eqb n 12) (eqb n 13) (eqb n 14)
    where
      go : (a b c d e : Bool) → is_at_fault s l other (cond a Misplaced (cond b Unpaired (cond c Touching (cond d OddEnd (cond e WrongIa TouchingAcross))))) i
          ≡ cond a (is_misplaced s l i) (cond b (has_segments l.shape && not (has_partner s l i)) (cond c (touches_any s l l (i + 1) i) (cond d (begins_oddly s l i) (cond e (is_mismarked s l i) (touches_any s l other 0 i)))))
      go true b c d e = refl
      go false true c d e = refl
      go false false true d e = refl
      go false false false true e = refl
      go false false false false true = refl
      go false false false false false = refl

  pub by_number : (n : ℕ) {flaw : Flaw} → flaw ≡ flaw_of n → fault_under s l other flaw ≡ fault_by s l other n
  by_number n is = ap (fault_under s l other) is ∙ ap (λ test. earliest l test (elements l)) (λ k i. one n i k)
