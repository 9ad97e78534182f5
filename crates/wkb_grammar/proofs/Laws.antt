-- What the fields and the grammar come to where a test is known.
use Rattle.std.proofs.Common.{Result, Ok, Err, ℕ, ◌+◌, ◌≤◌, ◌≡◌, Bool, true, false, ◌&&◌, List, leb, length, refl, ap, ◌∙◌, arith, leb-true}
use Rattle.wkb_grammar.specs.declared.Fault.{Fault}
use Rattle.wkb_grammar.specs.Fields.{Check, must, then, is_there, type_at, header_at, counted_at}
use Rattle.wkb_grammar.specs.Grammar.{Read, got, bad, outcome, followed_by}

-- ---- a test that holds, and two checks that find nothing
pub must_holds : (b : Bool) (at : ℕ) → must b at ≡ Ok tt → b ≡ true
must_holds true at e = refl
must_holds false at e = cc

pub then_fine : (a b : Check) → then a b ≡ Ok tt → (a ≡ Ok tt) × (b ≡ Ok tt)
then_fine (Ok tt) b e = (refl, e)
then_fine (Err f) b e = cc

left_of : (a b : Bool) → (a && b) ≡ true → a ≡ true
left_of true b e = refl
left_of false b e = e

module _ (s : List ℕ) (at low high : ℕ) where
  pub header_there : header_at s at low high ≡ Ok tt → at + 5 ≤ length s
  unfolding header_at
  header_there e =
      omega (arith, leb-true (at + 1 + 4) (length s) (left_of (is_there s (at + 1) 4) allowed (must_holds (is_there s (at + 1) 4 && allowed) (at + 1) (then_fine _ _ e).1)))
    where
      allowed : Bool
      allowed = leb low (type_at s at) && leb (type_at s at) high

  pub counted_there : counted_at s at low high ≡ Ok tt → at + 9 ≤ length s
  unfolding counted_at
  counted_there e = omega (arith, leb-true (at + 5 + 4) (length s) (must_holds (is_there s (at + 5) 4) (at + 5) (then_fine _ _ e).1))

-- ---- reading one thing after another, without the values
module _ {A B : Type 0} where
  pub followed_stop : (r : Read A) (k : A → ℕ → Read B) (f : Fault) → outcome r ≡ Err f → outcome (followed_by r k) ≡ Err f
  followed_stop (got a at) k f e = cc
  followed_stop (bad g) k f e = e

  pub followed_next : (r : Read A) (k : A → ℕ → Read B) (o : ℕ → Result ℕ Fault) (at : ℕ) → ((a : A) (n : ℕ) → outcome (k a n) ≡ o n) → outcome r ≡ Ok at → outcome (followed_by r k) ≡ o at
  followed_next (got a n) k o at each e = let same : n ≡ at = cc in each a n ∙ ap o same
  followed_next (bad g) k o at each e = cc

  -- what follows alters nothing but the value
  pub followed_same : (r : Read A) (k : A → B) → outcome (followed_by r (λ a at. got (k a) at)) ≡ outcome r
  followed_same (got a n) k = refl
  followed_same (bad g) k = refl
