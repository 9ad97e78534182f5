-- Laws of a number's decimal writing: how it grows by a digit, that it spells the number, that std writes the same, how long it is.
use Prim.Native.Nat.{ℕ, zero, suc, ◌+◌, ◌-◌, ◌*◌, ◌/◌, ◌%◌, ◌^◌, ◌≤◌, ◌<◌}
use mathlib.Core.Path.{◌≡◌, refl, sym, ap, ◌∙◌}
use mathlib.Core.Bool.{Bool, true, false}
use mathlib.Core.List.{List, [], ◌∷◌, ◌++◌}
use native.Mathlib.Omega.{arith}
use lib.Dec.{ltb}
use lib.ListN.{length, get_or, length-append, get_or-append}
use lib.Seq.{get_or-append_seam}
use borrow.Author.Tests.{ltb-true, ltb-false, lt-ltb, le-ltb}
use Rattle.std.specs.Fmt as Fmt
use Rattle.std.proofs.lemmas.Fmt.{decimal_by_steps, length-decimal-le}
use Rattle.answer_line.specs.Line.{digit, digits, decimal, read_after, Spells}

-- ---- one digit, or one digit more

digits_one : (k n : ℕ) → n < 10 → digits k n ≡ digit n ∷ []
unfolding digits
digits_one zero n h = refl
digits_one (suc k) n h = rw (lt-ltb n 10 h, digits)

digits_more : (k n : ℕ) → 10 ≤ n → digits (suc k) n ≡ digits k (n / 10) ++ digit (n % 10) ∷ []
unfolding digits
digits_more k n h = rw (le-ltb n 10 h, digits)

-- a proof by cases, below ten or with a digit more
below_ten : {P : Type 0} (n : ℕ) → (n < 10 → P) → (10 ≤ n → P) → P
below_ten {P} n one more = go (ltb n 10) refl
  where
    go : (b : Bool) → ltb n 10 ≡ b → P
    go true e = one (ltb-true n 10 e)
    go false e = more (ltb-false n 10 e)

-- how many digits are allowed for does not matter, if they are enough
enough : (j k n : ℕ) → n ≤ j → n ≤ k → digits j n ≡ digits k n
enough zero k n hj hk = digits_one zero n (omega arith) ∙ sym (digits_one k n (omega arith))
enough (suc j) zero n hj hk = digits_one (suc j) n (omega arith) ∙ sym (digits_one zero n (omega arith))
enough (suc j) (suc k) n hj hk =
    below_ten
    n
    (λ h. digits_one (suc j) n h ∙ sym (digits_one (suc k) n h))
    (λ h.
    digits_more j n h
    ∙ ap (λ (l : List ℕ). l ++ digit (n % 10) ∷ []) (enough j k (n / 10) (omega arith) (omega arith))
    ∙ sym (digits_more k n h))

pub decimal_one : (n : ℕ) → n < 10 → decimal n ≡ digit n ∷ []
unfolding decimal
decimal_one n h = digits_one n n h

pub decimal_more : (n : ℕ) → 10 ≤ n → decimal n ≡ decimal (n / 10) ++ digit (n % 10) ∷ []
unfolding decimal
decimal_more zero h = absurd (omega arith)
decimal_more (suc n) h =
    digits_more n (suc n) h
    ∙ ap (λ (l : List ℕ). l ++ digit (suc n % 10) ∷ []) (enough n (suc n / 10) (suc n / 10) (omega arith) (omega arith))

-- what holds below ten, and of a number if of all its digits but the last, holds of every number
pub by_digits : (P : ℕ → Type 0) → ((n : ℕ) → n < 10 → P n) → ((n : ℕ) → 10 ≤ n → P (n / 10) → P n) → (n : ℕ) → P n
by_digits P one more n = go n n (omega arith)
  where
    go : (k m : ℕ) → m ≤ k → P m
    go zero m h = one m (omega arith)
    go (suc k) m h = below_ten m (one m) (λ h₁₀. more m h₁₀ (go k (m / 10) (omega arith)))

-- ---- it spells the number

read_append : (a : ℕ) (l m : List ℕ) → read_after a (l ++ m) ≡ read_after (read_after a l) m
read_append a [] m = refl
read_append a (c ∷ l) m = read_append (a * 10 + (c - 48)) l m

abbrev IsDigit : ℕ → Type 0
IsDigit c = (48 ≤ c) × (c ≤ 57)

each_more : (l : List ℕ) (c : ℕ) → ((i : ℕ) → i < length l → IsDigit (get_or l i 0)) → IsDigit c
    → (i : ℕ) → i < length (l ++ c ∷ []) → IsDigit (get_or (l ++ c ∷ []) i 0)
each_more [] c h d zero _ = d
each_more [] c h d (suc i) e = absurd (omega arith)
each_more (x ∷ l) c h d zero _ = h 0 (omega arith)
each_more (x ∷ l) c h d (suc i) e = each_more l c (λ j k. h (suc j) (omega arith)) d i (omega arith)

spells_one : (n : ℕ) → n < 10 → Spells n (digit n ∷ [])
spells_one n h = record {
  value = omega arith;
  each = each_more [] (digit n) (λ i e. absurd (omega arith)) (omega arith);
  some = omega arith;
  lead = λ e. absurd (omega arith);
}

read_least : (a : ℕ) (l : List ℕ) → a ≤ read_after a l
read_least a [] = omega arith
read_least a (c ∷ l) = omega (arith, read_least (a * 10 + (c - 48)) l)

-- what spells a number from 1 on begins with no "0"
leads : (n : ℕ) (l : List ℕ) → 0 < n → Spells n l → 48 < get_or l 0 0
leads n [] h s = absurd (omega (arith, s.some))
leads n (c ∷ []) h s = omega (arith, s.value)
leads n (c ∷ d ∷ l) h s = s.lead (omega arith)

lead_more : (l : List ℕ) (c : ℕ) → 48 < get_or l 0 0 → 48 < get_or (l ++ c ∷ []) 0 0
lead_more [] c h = absurd (omega arith)
lead_more (x ∷ l) c h = h

read_more : (l : List ℕ) (c : ℕ) → read_after 0 (l ++ c ∷ []) ≡ read_after 0 l * 10 + (c - 48)
read_more l c = read_append 0 l (c ∷ [])

spells_more : (n : ℕ) → 10 ≤ n → (l : List ℕ) → Spells (n / 10) l → Spells n (l ++ digit (n % 10) ∷ [])
spells_more n h l s = record {
  value = omega (arith, read_more l (digit (n % 10)), s.value);
  each = each_more l (digit (n % 10)) s.each (omega arith);
  some = omega (arith, length-append l (digit (n % 10) ∷ []));
  lead = λ e. lead_more l (digit (n % 10)) (leads (n / 10) l (omega arith) s);
}

pub decimal_spells : (n : ℕ) → Spells n (decimal n)
decimal_spells =
    by_digits
    (λ n. Spells n (decimal n))
    (λ n h. rw (decimal_one n h) (spells_one n h))
    (λ n h s. rw (decimal_more n h) (spells_more n h (decimal (n / 10)) s))

-- ---- and nothing else does

-- a list that is not empty ends in some byte
last : (x : ℕ) (l : List ℕ) → (front : List ℕ) × (c : ℕ) × (x ∷ l ≡ front ++ c ∷ [])
last x [] = ([], x, refl)
last x (y ∷ l) = let (front, c, e) = last y l in (x ∷ front, c, ap (λ (m : List ℕ). x ∷ m) e)

module _ (n : ℕ) (front : List ℕ) (c : ℕ) (s : Spells n (front ++ c ∷ [])) where
  last_is_digit : IsDigit c
  last_is_digit = rw get_or-append_seam at (s.each (length front) (omega (arith, length-append front (c ∷ []))))

  value_by_last : n ≡ read_after 0 front * 10 + (c - 48)
  value_by_last = sym s.value ∙ read_more front c

module _ (n y : ℕ) (ys : List ℕ) (c : ℕ) (s : Spells n ((y ∷ ys) ++ c ∷ [])) where
  front_leads : 48 < y
  front_leads = s.lead (omega (arith, length-append ys (c ∷ [])))

  from_ten : 10 ≤ n
  from_ten = omega (arith, front_leads, value_by_last n (y ∷ ys) c s, read_least (0 * 10 + (y - 48)) ys)

  front_spells : Spells (n / 10) (y ∷ ys)
  front_spells = record {
    value = omega (arith, value_by_last n (y ∷ ys) c s, last_is_digit n (y ∷ ys) c s);
    each = λ i h. rw (get_or-append (y ∷ ys) (c ∷ []) 0 i h) at (s.each i (omega (arith, length-append (y ∷ ys) (c ∷ []))));
    some = omega arith;
    lead = λ _. front_leads;
  }

ends_so : (n : ℕ) → (10 ≤ n → (m : List ℕ) → Spells (n / 10) m → m ≡ decimal (n / 10))
    → (front : List ℕ) (c : ℕ) → Spells n (front ++ c ∷ []) → front ++ c ∷ [] ≡ decimal n
ends_so n shorter [] c s =
    let d = last_is_digit n [] c s in
    let v = value_by_last n [] c s in
    ap (λ (k : ℕ). k ∷ []) (omega arith) ∙ sym (decimal_one n (omega arith))
ends_so n shorter (y ∷ ys) c s =
    let h = from_ten n y ys c s in
    let f = front_spells n y ys c s in
    let d = last_is_digit n (y ∷ ys) c s in
    let v = value_by_last n (y ∷ ys) c s in
    ap (λ (m : List ℕ). m ++ c ∷ []) (shorter h (y ∷ ys) f)
    ∙ ap (λ (k : ℕ). decimal (n / 10) ++ k ∷ []) (omega (arith, f.value))
    ∙ sym (decimal_more n h)

only : (n : ℕ) → (10 ≤ n → (m : List ℕ) → Spells (n / 10) m → m ≡ decimal (n / 10)) → (l : List ℕ) → Spells n l → l ≡ decimal n
only n shorter [] s = absurd (omega (arith, s.some))
only n shorter (x ∷ l) s = let (front, c, e) = last x l in e ∙ ends_so n shorter front c (rw e at s)

pub decimal_only : (n : ℕ) (l : List ℕ) → Spells n l → l ≡ decimal n
decimal_only =
    by_digits
    (λ n. (l : List ℕ) → Spells n l → l ≡ decimal n)
    (λ n h. only n (λ h₁₀. absurd (omega arith)))
    (λ n h shorter. only n (λ _. shorter))

-- ---- it is what std writes

pub same_decimal : (n : ℕ) → n < 2 ^ 64 → Fmt.decimal n ≡ decimal n
same_decimal =
    decimal_by_steps
    (λ n l. l ≡ decimal n)
    (λ n h. sym (decimal_one n h))
    (λ n l h e. ap (λ (m : List ℕ). m ++ digit (n % 10) ∷ []) e ∙ sym (decimal_more n h))

-- ---- how long it is

decimal_length : (k n : ℕ) → 0 < k → n < 10 ^ k → n < 2 ^ 64 → length (decimal n) ≤ k
decimal_length k n some fits h = rw (same_decimal n h) at (length-decimal-le k n some fits h)

-- the most digits of a byte, of 16 bits and of 64 bits
pub length_u8 : (n : ℕ) → n < 2 ^ 8 → length (decimal n) ≤ 3
length_u8 n h = decimal_length 3 n (omega arith) (omega arith) (omega arith)

pub length_u16 : (n : ℕ) → n < 2 ^ 16 → length (decimal n) ≤ 5
length_u16 n h = decimal_length 5 n (omega arith) (omega arith) (omega arith)

pub length_u64 : (n : ℕ) → n < 2 ^ 64 → length (decimal n) ≤ 20
length_u64 n h = decimal_length 20 n (omega arith) (omega arith) h

pub ruleset lengths = (length_u8, length_u16, length_u64)
