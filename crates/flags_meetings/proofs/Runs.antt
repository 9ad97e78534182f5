-- Keys in order, taken run by run: a run of one key is all that have it, and later keys are above it. Hence how many have a key, and what the marks of a
-- run's elements come to.
use Prim.Native.Nat.{ℕ, zero, suc, ◌+◌, ◌-◌, ◌<◌, ◌≤◌}
use native.Mathlib.Nat.{eq-or-lt_of_le}
use native.Mathlib.Omega.{arith}
use mathlib.Core.Path.{◌≡◌, refl, sym, ap, ap₂, subst, ◌∙◌}
use mathlib.Core.Logic.{⊎_elim}
use mathlib.Core.Bool.{Bool, true, false}
use mathlib.Core.List.{List, [], ◌∷◌, ◌++◌}
use lib.Bits.{bit_or, or_zero_r, or_self}
use lib.Dec.{eqb}
use borrow.Author.Tests.{eq-eqb, ne_eqb}
use Rattle.whole.specs.Count.{bit, count, ◌∈◌, here, there}
use Rattle.whole.proofs.Counted.{count_append, count_none}
use Rattle.scene.specs.Conditions.{indices}
use Rattle.scene_segments.proofs.Indices.{indices_in}
use Rattle.scene_segments.proofs.Walk.{between, all_between, between_next, between_none}
use Rattle.flags.proofs.Marks.{or_assoc, gather, gather_append}
use Rattle.scene_keys.specs.Keyed.{top, next}
use Rattle.scene_keys.proofs.Keys.{next_in, next_end}
use Rattle.flags_meetings.specs.Keyed.{Passed}

-- ---- numbers from i up to n, in two parts

indices_append : (a b i : ℕ) → indices (a + b) i ≡ indices a i ++ indices b (i + a)
indices_append zero b i = rw (none b, same i)
  where
    none : (b : ℕ) → 0 + b ≡ b
    none b = omega arith

    same : (i : ℕ) → i + 0 ≡ i
    same i = omega arith
indices_append (suc a) b i = rw (more, further) (ap (λ l. i ∷ l) (indices_append a b (suc i)))
  where
    more : suc a + b ≡ suc (a + b)
    more = omega arith

    further : i + suc a ≡ suc i + a
    further = omega arith

between_parts : (i j n : ℕ) → i ≤ j → j ≤ n → between i n ≡ between i j ++ between j n
between_parts i j n h k = rw sum (indices_append (j - i) (n - j) i) ∙ ap (λ m. between i j ++ indices (n - j) m) first
  where
    sum : n - i ≡ (j - i) + (n - j)
    sum = omega arith

    first : i + (j - i) ≡ j
    first = omega arith

in_between : (i j m : ℕ) → m ∈ between i j → (i ≤ m) × (m < j)
in_between i j m w = let r = indices_in (j - i) i m w in (r.0, omega (arith, r.0, r.1))

count_between_none : (f : ℕ → Bool) (i j : ℕ) → ((m : ℕ) → i ≤ m → m < j → f m ≡ false) → count f (between i j) ≡ 0
count_between_none f i j h = count_none f (between i j) (λ m w. let r = in_between i j m w in h m r.0 r.1)

count_between_all : (f : ℕ → Bool) (i j : ℕ) → ((m : ℕ) → i ≤ m → m < j → f m ≡ true) → count f (between i j) ≡ j - i
count_between_all f i j h = go (j - i) i (λ m a b. h m a (omega arith))
  where
    go : (n i : ℕ) → ((m : ℕ) → i ≤ m → m < i + n → f m ≡ true) → count f (indices n i) ≡ n
    go zero i h = refl
    go (suc n) i h = omega (arith, ap bit (h i (omega arith) (omega arith)), go n (suc i) (λ m a b. h m (omega arith) (omega arith)))

-- ---- keys in order

pub record InOrder (n : ℕ) (u : ℕ → ℕ) : Type 0 where
  pub rises : (i j : ℕ) → i ≤ j → j < n → u i ≤ u j
  pub below : (i : ℕ) → i < n → u i < top

-- a run of the key k, which no key from its beginning on is below
module _ {n : ℕ} {u : ℕ → ℕ} (o : InOrder n u) {k i j : ℕ} (low : k < top) (least : k ≤ next n u i) (few : j ≤ n) (p : Passed n u k i j) where
  pub run_same : (m : ℕ) → i ≤ m → m < j → u m ≡ k
  run_same m a b = sym (next_in n u m (omega arith)) ∙ p.same m a b

  reaches : k ≤ next n u j
  reaches = ⊎_elim (λ e. subst (λ m. k ≤ next n u m) e least) further (eq-or-lt_of_le p.on)
    where
      further : i < j → k ≤ next n u j
      further l = ⊎_elim (λ e. omega (arith, next_end n u j (omega arith))) (λ g. omega (arith, next_in n u j g, o.rises (j - 1) j (omega arith) g, run_same (j - 1) (omega arith) (omega arith))) (eq-or-lt_of_le few)

  pub run_next : k < next n u j
  run_next = ⊎_elim (λ e. absurd (p.other (sym e))) (λ l. l) (eq-or-lt_of_le reaches)

  run_later : (m : ℕ) → j ≤ m → m < n → k < u m
  run_later m a b = omega (arith, run_next, next_in n u j (omega arith), o.rises j m a b)

  pub run_count : ((m : ℕ) → m < i → u m < k) → count (λ m. eqb (u m) k) (indices n 0) ≡ j - i
  run_count earlier =
      ap (count has) (all_between n ∙ between_parts 0 i n (omega arith) (omega (arith, p.on)) ∙ ap (λ l. between 0 i ++ l) (between_parts i j n p.on few))
      ∙ count_append has (between 0 i) (between i j ++ between j n)
      ∙ omega (arith, count_append has (between i j) (between j n), count_between_none has 0 i (λ m a b. ne_eqb (u m) k (λ e. omega (arith, earlier m b))), count_between_all has i j (λ m a b. eq-eqb (u m) k (run_same m a b)), count_between_none has j n (λ m a b. ne_eqb (u m) k (λ e. omega (arith, run_later m a b))))
    where
      has : ℕ → Bool
      has m = eqb (u m) k

-- ---- the marks of a run

pub gather_parts : (f : ℕ → ℕ) (i j n : ℕ) → i ≤ j → j ≤ n → gather f (between i n) ≡ bit_or (gather f (between i j)) (gather f (between j n))
gather_parts f i j n h k = ap (gather f) (between_parts i j n h k) ∙ gather_append f (between i j) (between j n)

-- by other marks that each element has too
pub gather_same : (f g : ℕ → ℕ) (i j : ℕ) → ((m : ℕ) → i ≤ m → m < j → f m ≡ g m) → gather f (between i j) ≡ gather g (between i j)
gather_same f g i j h = go (between i j) (λ m w. let r = in_between i j m w in h m r.0 r.1)
  where
    go : (l : List ℕ) → ((m : ℕ) → m ∈ l → f m ≡ g m) → gather f l ≡ gather g l
    go [] h = refl
    go (m ∷ l) h = ap₂ bit_or (h m here) (go l (λ n w. h n (there w)))

-- where all are alike
pub gather_run : (f : ℕ → ℕ) (x i j : ℕ) → i ≤ j → (i ≡ j → 0 ≡ x) → ((m : ℕ) → i ≤ m → m < j → f m ≡ x) → gather f (between i j) ≡ x
gather_run f x i j h none e = ⊎_elim (λ q. ap (gather f) (between_none i j (omega arith)) ∙ none q) some_there (eq-or-lt_of_le h)
  where
    go : (n k : ℕ) → ((m : ℕ) → k ≤ m → m < k + n → f m ≡ x) → bit_or x (gather f (indices n k)) ≡ x
    go zero k h = or_zero_r x
    go (suc n) k h =
        ap (λ y. bit_or x (bit_or y (gather f (indices n (suc k))))) (h k (omega arith) (omega arith))
        ∙ sym (or_assoc x x (gather f (indices n (suc k))))
        ∙ ap (λ y. bit_or y (gather f (indices n (suc k)))) (or_self x)
        ∙ go n (suc k) (λ m a b. h m (omega arith) (omega arith))

    some_there : i < j → gather f (between i j) ≡ x
    some_there l =
        ap (gather f) (between_next i j l)
        ∙ ap (λ y. bit_or y (gather f (between (i + 1) j))) (e i (omega arith) l)
        ∙ go (j - (i + 1)) (i + 1) (λ m a b. e m (omega arith) (omega arith))
