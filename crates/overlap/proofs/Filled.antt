-- The list of bytes as a loop writes it into a buffer.
use Prim.Native.Nat.{ℕ, suc, ◌+◌, ◌<◌, ◌≤◌}
use native.Mathlib.Numerals.{add-one}
use native.Mathlib.Omega.{arith}
use mathlib.Core.Path.{◌≡◌, refl, sym, ap, ap₂, ◌∙◌}
use mathlib.Core.List.{List, [], ◌∷◌, ◌++◌, append_assoc, append-nil}
use lib.ListN.{length, drop, set, get_or, length-append, length-drop}
use lib.Seq.{drop-cons, set-append_seam}

-- the first n bytes of the list are written, the rest is left, and the buffer is as it was from there on
pub record Filled (all lent : List ℕ) (n : ℕ) (rest buffer : List ℕ) : Type 0 where
  pub passed : List ℕ
  pub size : length passed ≡ n
  pub splits : all ≡ passed ++ rest
  pub holds : buffer ≡ passed ++ drop n lent

pub filled_none : (all lent : List ℕ) {rest : List ℕ} → all ≡ rest → Filled all lent 0 rest lent
filled_none all lent e = record { passed = []; size = refl; splits = e; holds = refl }

module _ {all lent : List ℕ} {n : ℕ} {rest buffer : List ℕ} (p : Filled all lent n rest buffer) where
  pub filled_count : length all ≡ n + length rest
  filled_count = ap length p.splits ∙ length-append p.passed rest ∙ ap (λ (k : ℕ). k + length rest) p.size

  pub filled_length : n ≤ length lent → length buffer ≡ length lent
  filled_length h = omega (arith, ap length p.holds ∙ length-append p.passed (drop n lent), p.size, length-drop n lent)

pub filled_more : {all lent : List ℕ} {n : ℕ} {b : ℕ} {rest buffer : List ℕ} → n < length lent → Filled all lent n (b ∷ rest) buffer → Filled all lent (n + 1) rest (set buffer n b)
filled_more {all} {lent} {n} {b} {rest} {buffer} h p = record {
  passed = p.passed ++ (b ∷ []);
  size = omega (arith, length-append p.passed (b ∷ []), p.size);
  splits = p.splits ∙ sym (append_assoc p.passed (b ∷ []) rest);
  holds =
      ap (λ (l : List ℕ). set l n b) (p.holds ∙ ap (λ (l : List ℕ). p.passed ++ l) (drop-cons lent n 0 h))
      ∙ ap (λ (k : ℕ). set (p.passed ++ (get_or lent n 0 ∷ drop (suc n) lent)) k b) (sym p.size)
      ∙ set-append_seam p.passed (get_or lent n 0) (drop (suc n) lent) b
      ∙ rw (add-one n) (sym (append_assoc p.passed (b ∷ []) (drop (suc n) lent)));
}

pub filled_all : {all lent : List ℕ} {n : ℕ} {buffer : List ℕ} → Filled all lent n [] buffer → (n ≡ length all) × (buffer ≡ all ++ drop (length all) lent)
filled_all {all} {lent} {n} p = (count, p.holds ∙ ap₂ ◌++◌ (sym (p.splits ∙ append-nil p.passed)) (ap (λ (k : ℕ). drop k lent) count))
  where
    count : n ≡ length all
    count = omega (arith, filled_count p)
