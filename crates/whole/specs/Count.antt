-- Tests and counts: equality of whole numbers, an odd number, and "some", "every", "how many" and a sum over a list.
-- Each is a test that computes; `∈` is the membership that "some" and "every" are about.
use Rattle.std.specs.Prelude.{ℕ, ◌+◌, ◌%◌, Bool, true, false, ◌&&◌, ◌||◌, List, [], ◌∷◌, eqb, ℤ, pos, negsuc, ◌+ℤ◌}

abbrev pub eq_z : ℤ → ℤ → Bool
eq_z (pos a) (pos b) = eqb a b
eq_z (pos a) (negsuc b) = false
eq_z (negsuc a) (pos b) = false
eq_z (negsuc a) (negsuc b) = eqb a b

unfoldable pub odd : ℕ → Bool
odd n = eqb (n % 2) 1

abbrev pub bit : Bool → ℕ
bit true = 1
bit false = 0

infix 45 ◌∈◌
pub data ◌∈◌ {A : Type 0} (a : A) : List A → Type 0 where
  here : {l : List A} → a ∈ (a ∷ l)
  there : {b : A} {l : List A} → a ∈ l → a ∈ (b ∷ l)

module _ {A : Type 0} where
  abbrev pub some : (A → Bool) → List A → Bool
  some f [] = false
  some f (a ∷ l) = f a || some f l

  abbrev pub every : (A → Bool) → List A → Bool
  every f [] = true
  every f (a ∷ l) = f a && every f l

  abbrev pub count : (A → Bool) → List A → ℕ
  count f [] = 0
  count f (a ∷ l) = bit (f a) + count f l

  abbrev pub total : (A → ℤ) → List A → ℤ
  total f [] = pos 0
  total f (a ∷ l) = f a +ℤ total f l
