-- The entries of the status, from low to high: those beside a place among them, and what a change at a place makes of them.
use Rattle.std.specs.Prelude.{ℕ, suc, ◌<◌, ◌≡◌, List, ◌∷◌, ◌++◌, length, get_or, take, drop}

-- the entry at the place k, if there is one, is such
abbrev pub AtPlace : List ℕ → ℕ → (ℕ → Type 0) → Type 0
AtPlace entries k P = k < length entries → P (get_or entries k 0)

-- and so is the one just below it
abbrev pub BelowPlace : List ℕ → ℕ → (ℕ → Type 0) → Type 0
BelowPlace entries k P = (i : ℕ) → suc i ≡ k → P (get_or entries i 0)

module _ {A : Type 0} where
  abbrev pub inserted : ℕ → A → List A → List A
  inserted k a l = take k l ++ a ∷ drop k l

  abbrev pub removed : ℕ → List A → List A
  removed k l = take k l ++ drop (suc k) l
