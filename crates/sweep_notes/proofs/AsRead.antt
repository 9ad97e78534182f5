-- The tests of a note are of the number as it is read, and beyond the end of a list it is read as 0, as ever.
use Rattle.std.proofs.Common.{ℕ, zero, suc, ◌<◌, ◌≡◌, ◌∙◌, refl, sym, ap, Bool, true, false, List, get_or, take, arith}
use borrow.Author.Tests.{lt-ltb, ne_eqb}
use Rattle.std.specs.Prelude.{map, eqb, ltb, cond}
use Rattle.std.proofs.Math.ListN.{get_or-map}
use Rattle.std.proofs.lemmas.List.{get_or-take}
use Rattle.whole.specs.Count.{bit}
use Rattle.sweep_notes.specs.Numbers.{as_read}

not_zero : (n : ℕ) → eqb (suc (suc n)) 0 ≡ false
not_zero n = ne_eqb (suc (suc n)) 0 (λ e. omega (arith, e))

not_one : (n : ℕ) → eqb (suc (suc n)) 1 ≡ false
not_one n = ne_eqb (suc (suc n)) 1 (λ e. omega (arith, e))

-- a number above 1 is read as 2
above_one : (n : ℕ) → as_read (suc (suc n)) ≡ 2
above_one n = rw (not_zero n, not_one n) refl

pub even_read : (n : ℕ) → eqb (as_read n) 0 ≡ eqb n 0
even_read zero = refl
even_read (suc zero) = refl
even_read (suc (suc n)) = ap (λ m. eqb m 0) (above_one n) ∙ sym (not_zero n)

pub odd_read : (n : ℕ) → eqb (as_read n) 1 ≡ eqb n 1
odd_read zero = refl
odd_read (suc zero) = refl
odd_read (suc (suc n)) = ap (λ m. eqb m 1) (above_one n) ∙ sym (not_one n)

pub on_read : (n : ℕ) → ltb 1 (as_read n) ≡ ltb 1 n
on_read zero = refl
on_read (suc zero) = refl
on_read (suc (suc n)) = ap (ltb 1) (above_one n) ∙ sym (lt-ltb 1 (suc (suc n)) (omega arith))

-- the note of each of the first 2,048
pub note_read : (bytes : List ℕ) (k : ℕ) → k < 2048 → get_or (map as_read (take 2048 bytes)) k 0 ≡ as_read (get_or bytes k 0)
note_read bytes k h = get_or-map as_read (take 2048 bytes) k 0 ∙ ap as_read (get_or-take 2048 bytes k 0 h)

-- ---- what the sweep notes is read as it is

pub bit_read : (b : Bool) → as_read (bit b) ≡ bit b
bit_read true = refl
bit_read false = refl

pub on_or_bit_read : (on b : Bool) → as_read (cond on 2 (bit b)) ≡ cond on 2 (bit b)
on_or_bit_read true b = refl
on_or_bit_read false b = bit_read b
