-- The four bytes of a coordinate: they are read as it, and each coordinate that is read from bytes has them.
use Prim.Native.Nat.{ℕ, suc, ◌+◌, ◌*◌, ◌-◌, ◌/◌, ◌%◌, ◌^◌, ◌≤◌, ◌<◌}
use native.Mathlib.Omega.{arith}
use native.Mathlib.Decide.{dec_lt}
use native.Mathlib.Nat.{div-div-eq-div-mul, div-one, div-add-mod', mod-eq_of_lt}
use mathlib.Core.Path.{◌≡◌, sym, ap, ◌∙◌}
use mathlib.Core.Bool.{cond}
use mathlib.Core.List.{List}
use lib.IntN.{ℤ, pos, negsuc, nat_abs, ◌-ℤ◌}
use borrow.Author.Tests.{lt-ltb, le-ltb}
use Rattle.whole.proofs.Balance.{P, N, balance_eq, sub_balanceℤ, pos_P, pos_N}
use Rattle.plane.specs.Plane.{limit}
use Rattle.scene.specs.Read.{byte, signed, word, coordinate}
use Rattle.scene_written.specs.Bytes.{unsigned, digit}

-- ---- they are read as it

in_word : (z : ℤ) → nat_abs z ≤ limit → unsigned z < 2 ^ 32
in_word (pos n) h = omega arith
in_word (negsuc n) h = omega arith

four : (n : ℕ) → n < 2 ^ 32 → n / 1 % 256 + 256 * (n / 256 % 256) + 65536 * (n / 65536 % 256) + 16777216 * (n / 16777216 % 256) ≡ n
four n h =
    joined n (n / 256) (n / 65536) (n / 16777216) (n / 1 % 256) (n / 256 % 256) (n / 65536 % 256) (n / 16777216 % 256)
    (ap (λ m. n / 256 * 256 + m % 256) (div-one n) ∙ div-add-mod' n 256)
    (ap (λ m. m * 256 + n / 256 % 256) (sym (div-div-eq-div-mul n 256 256)) ∙ div-add-mod' (n / 256) 256)
    (ap (λ m. m * 256 + n / 65536 % 256) (sym (div-div-eq-div-mul n 65536 256)) ∙ div-add-mod' (n / 65536) 256)
    (mod-eq_of_lt (top n h))
  where
    joined : (n q r t a b c d : ℕ) → q * 256 + a ≡ n → r * 256 + b ≡ q → t * 256 + c ≡ r → d ≡ t → a + 256 * b + 65536 * c + 16777216 * d ≡ n
    joined n q r t a b c d e f g h = omega arith

    top : (n : ℕ) → n < 2 ^ 32 → n / 16777216 < 256
    top n h = omega arith

signed_back : (z : ℤ) → nat_abs z ≤ limit → signed (unsigned z) ≡ z
unfolding signed P N
signed_back (pos n) h = ap (λ b. cond b (pos n) (pos n -ℤ pos (2 ^ 32))) (lt-ltb n (2 ^ 31) (omega arith))
signed_back (negsuc n) h =
    ap (λ b. cond b (pos m) (pos m -ℤ pos (2 ^ 32))) (le-ltb m (2 ^ 31) (omega arith))
    ∙ balance_eq (pos m -ℤ pos (2 ^ 32)) (negsuc n) (omega (arith, sub_balanceℤ (pos m) (pos (2 ^ 32)), pos_P m, pos_N m, pos_P (2 ^ 32), pos_N (2 ^ 32)))
  where
    m : ℕ
    m = 2 ^ 32 - suc n

pub digits_read : (z : ℤ) → nat_abs z ≤ limit → signed (digit z 1 + 256 * digit z 256 + 65536 * digit z 65536 + 16777216 * digit z 16777216) ≡ z
unfolding digit
digits_read z h = ap signed (four (unsigned z) (in_word z h)) ∙ signed_back z h

pub digit_small : (z : ℤ) (unit : ℕ) → digit z unit < 256
unfolding digit
digit_small z unit = remainder (unsigned z / unit)
  where
    remainder : (n : ℕ) → n % 256 < 256
    remainder n = omega arith

-- ---- what is read has them

unsigned_back : (n : ℕ) → n < 2 ^ 32 → unsigned (signed n) ≡ n
unfolding signed
unsigned_back n h = go (dec_lt n (2 ^ 31))
  where
    go : Dec (n < 2 ^ 31) → unsigned (signed n) ≡ n
    go (yes k) = rw (lt-ltb n (2 ^ 31) k)
    go (no k) = rw (le-ltb n (2 ^ 31) (omega arith), lt-ltb n (2 ^ 32) h) (omega arith)

parted : (n a b c d : ℕ) → n ≡ a + 256 * b + 65536 * c + 16777216 * d → a < 256 → b < 256 → c < 256 → d < 256
    → (n / 1 % 256 ≡ a) × (n / 256 % 256 ≡ b) × (n / 65536 % 256 ≡ c) × (n / 16777216 % 256 ≡ d)
parted n a b c d e p q r t = (omega arith, omega arith, omega arith, omega arith)

-- the four bytes at an offset, of a string of bytes
pub digits_again : (s : List ℕ) → ((i : ℕ) → byte s i < 256) → (at : ℕ)
    → (digit (coordinate s at) 1 ≡ byte s at) × (digit (coordinate s at) 256 ≡ byte s (at + 1)) × (digit (coordinate s at) 65536 ≡ byte s (at + 2)) × (digit (coordinate s at) 16777216 ≡ byte s (at + 3))
unfolding coordinate digit
digits_again s bytes at =
    parted (unsigned (signed (word s at))) (byte s at) (byte s (at + 1)) (byte s (at + 2)) (byte s (at + 3))
    (unsigned_back (word s at) (omega (arith, bytes at, bytes (at + 1), bytes (at + 2), bytes (at + 3)))) (bytes at) (bytes (at + 1)) (bytes (at + 2)) (bytes (at + 3))
