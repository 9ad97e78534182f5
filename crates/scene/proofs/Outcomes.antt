-- Answers that may be a refusal: nothing is both taken and refused, and what refuses a check of conditions refuses all that follows it.
use native.Mathlib.Omega.{arith}
use mathlib.Core.Path.{◌≡◌, refl, sym, ap}
use mathlib.Core.List.{List, [], ◌∷◌}
use Prim.Native.Nat.{ℕ}
use Rattle.std.specs.Prelude.{Some, None, Result, Ok, Err, IsErrAnd}
use Rattle.scene.specs.declared.Refusal.{Refusal}
use Rattle.scene.specs.Read.{Fault, Condition, decide, judge}

module _ {A : Type 0} where
  pub never_taken : {r : Refusal} {a : A} → ◌≡◌ {A = Result A Refusal} (Err r) (Ok a) → ⊥
  never_taken e = let z : ◌≡◌ {A = ℕ} 0 1 = cc in omega arith

  pub same_taken : {a b : A} → ◌≡◌ {A = Result A Refusal} (Ok a) (Ok b) → a ≡ b
  same_taken e = cc

  pub same_refusal : {r t : Refusal} → ◌≡◌ {A = Result A Refusal} (Err r) (Err t) → r ≡ t
  same_refusal e = cc

  -- what `?` hands on of a refusal is that refusal
  pub handed_on : (r : Result A Refusal) {e : Refusal} → IsErrAnd r (λ y. y ≡ e) → r ≡ Err e
  handed_on (Ok a) h = absurd h
  handed_on (Err y) h = ap Err h

-- conditions alone, and before an answer
abbrev pub passed : List Condition → Result (Unit {0}) Refusal
passed cs = judge Err (Ok tt) cs

module _ {A : Type 0} (x : Result A Refusal) where
  pub all_passed : (cs : List Condition) → passed cs ≡ Ok tt → judge Err x cs ≡ x
  all_passed [] e = refl
  all_passed (c ∷ cs) e = go c.fault (all_passed cs) e
    where
      go : (f : Fault) → (passed cs ≡ Ok tt → judge Err x cs ≡ x) → decide Err c.reason f (passed cs) ≡ Ok tt → decide Err c.reason f (judge Err x cs) ≡ x
      go (Some p) rest e = absurd (never_taken e)
      go None rest e = rest e

  pub not_passed : (cs : List Condition) {r : Refusal} → passed cs ≡ Err r → judge Err x cs ≡ Err r
  not_passed [] e = absurd (never_taken (sym e))
  not_passed (c ∷ cs) {r} e = go c.fault (not_passed cs) e
    where
      go : (f : Fault) → (passed cs ≡ Err r → judge Err x cs ≡ Err r) → decide Err c.reason f (passed cs) ≡ Err r → decide Err c.reason f (judge Err x cs) ≡ Err r
      go (Some p) rest e = ap Err (same_refusal e)
      go None rest e = rest e
