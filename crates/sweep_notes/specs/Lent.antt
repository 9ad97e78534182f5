-- The sweep's notes in memory that a caller lends: a byte for each of them, from the first byte on.
use Rattle.std.specs.Prelude.{ℕ, ◌≡◌, ◌≤◌, List, ◌++◌, drop, length}

-- what `Notes::lay` makes of lent bytes: the notes, and behind them what was lent as it was
pub record Laid (notes old new : List ℕ) : Type 0 where
  pub all : length notes ≡ 2048
  pub is : new ≡ notes ++ drop 2048 old

-- what is promised of lent bytes with room for the notes, once these are laid into them: they keep their length, and what is named holds of them
abbrev pub OnceLaid : List ℕ → (List ℕ → Type 0) → Type 0
OnceLaid notes Promised = (old new : List ℕ) → 2048 ≤ length old → Laid notes old new → (length new ≡ length old) × Promised new
