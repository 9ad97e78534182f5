-- Reading one item after another: one turn of it, and that it is the grammar's `many` without the values.
use Rattle.std.proofs.Common.{leb, length, Bool, true, false, [], Ok, ℕ, zero, suc, ◌-◌, ◌+◌, ◌<◌, ◌≡◌, List, ◌∷◌, refl, sym, ap, ◌∙◌, arith}
use Rattle.wkb_grammar.specs.Fields.{must, type_at, counted_at, count_at}
use Rattle.wkb_grammar.specs.Grammar.{Read, Row, got, bad, outcome, followed_by, after, many, part_at, ended, file}
use Rattle.wkb_grammar.proofs.Laws.{followed_same}
use Rattle.wkb_scan.specs.InTurn.{Reading, onward, in_turn}

-- ---- one turn
pub turn : (read : Reading) (n i at : ℕ) → i < n → in_turn read (n - i) at ≡ onward (read at) (in_turn read (n - (i + 1)))
turn read n i at h = ap (λ (k : ℕ). in_turn read k at) (suc_left n i h)
  where
    suc_left : (n i : ℕ) → i < n → n - i ≡ suc (n - (i + 1))
    suc_left n i h = omega arith

-- ---- the same with the values left out
module _ {A B : Type 0} where
  pub outcome_onward : (r : Read A) (k : A → ℕ → Read B) (read : Reading) → ((a : A) (at : ℕ) → outcome (k a at) ≡ read at) → outcome (followed_by r k) ≡ onward (outcome r) read
  outcome_onward (got a at) k read each = each a at
  outcome_onward (bad f) k read each = refl

pub many_in_turn : {A : Type 0} (item : ℕ → Read A) (n at : ℕ) → in_turn (λ p. outcome (item p)) n at ≡ outcome (many item n at)
many_in_turn item zero at = refl
many_in_turn item (suc n) at =
    sym (outcome_onward (item at) _ (in_turn (λ p. outcome (item p)) n) (λ a next. followed_same (many item n next) (λ rest. a ∷ rest) ∙ sym (many_in_turn item n next)))

-- ---- the file: its parts, and then nothing may be left over
module _ (s : List ℕ) where
  abbrev pub last : Reading
  last end = outcome (ended s [] end)

  last_is : (parts : List (List Row)) (end : ℕ) → outcome (ended s parts end) ≡ last end
  last_is parts end = go (leb (length s) end) []
    where
      go : (b : Bool) (others : List (List Row)) → outcome (after (must b end) (got parts end)) ≡ outcome (after (must b end) (got others end))
      go true others = refl
      go false others = refl

  pub file_is : counted_at s 0 4 6 ≡ Ok tt → outcome (file s) ≡ onward (outcome (many (part_at s (type_at s 0)) (count_at s 0) 9)) last
  unfolding file
  file_is e = rw e (outcome_onward (many (part_at s (type_at s 0)) (count_at s 0) 9) (ended s) last last_is)
