-- Marks, collected element by element: the marks of an element are the bits of a number, and those of several are the "or" of their numbers. What is
-- collected and what the rest gives are all; and a mark is set where some element has it.
use Prim.Native.Nat.{ℕ, zero, suc, ◌+◌, ◌-◌, ◌<◌, ◌≤◌}
use native.Mathlib.Omega.{arith}
use mathlib.Core.Path.{◌≡◌, refl, sym, ap, subst, ◌∙◌}
use mathlib.Core.Bool.{◌||◌}
use mathlib.Core.Bool as bool
use mathlib.Core.List.{List, [], ◌∷◌, ◌++◌}
use lib.Bits.{bit_or, or_zero_r}
use Rattle.whole.specs.Count.{some}
use Rattle.scene.specs.Conditions.{indices}
use Rattle.scene_segments.proofs.Walk.{between, all_between, between_next, between_none}
use Rattle.flags.specs.Flags.{has_bit}
use Rattle.flags.proofs.Bits.{no_bit, or_bit, same_number}

-- ---- marks together

pub or_assoc : (a b c : ℕ) → bit_or (bit_or a b) c ≡ bit_or a (bit_or b c)
or_assoc a b c = same_number (bit_or (bit_or a b) c) (bit_or a (bit_or b c)) (λ k. simp or_bit (bool.or_assoc (has_bit a k) (has_bit b k) (has_bit c k)))

-- the marks of all elements of a list
abbrev pub gather : (ℕ → ℕ) → List ℕ → ℕ
gather f [] = 0
gather f (i ∷ l) = bit_or (f i) (gather f l)

-- a mark of theirs
pub gather_bit : (f : ℕ → ℕ) (l : List ℕ) (k : ℕ) → has_bit (gather f l) k ≡ some (λ i. has_bit (f i) k) l
gather_bit f [] k = no_bit k
gather_bit f (i ∷ l) k = or_bit (f i) (gather f l) k ∙ ap (λ b. has_bit (f i) k || b) (gather_bit f l k)

pub gather_append : (f : ℕ → ℕ) (l m : List ℕ) → gather f (l ++ m) ≡ bit_or (gather f l) (gather f m)
gather_append f [] m = refl
gather_append f (i ∷ l) m = ap (bit_or (f i)) (gather_append f l m) ∙ sym (or_assoc (f i) (gather f l) (gather f m))

-- ---- a walk over the elements, from the element i on

module _ (f : ℕ → ℕ) (n : ℕ) where
  -- what is collected so far, and what the rest gives, are all
  pub record Gathering (sofar i : ℕ) : Type 0 where
    pub few : i ≤ n
    pub all : bit_or sofar (gather f (between i n)) ≡ gather f (indices n 0)

  pub gathering : Gathering 0 0
  gathering = record { few = omega arith; all = ap (gather f) (sym (all_between n)) }

  module _ {sofar i : ℕ} (q : Gathering sofar i) where
    pub gathered_one : i < n → {x y : ℕ} → x ≡ f i → y ≡ bit_or sofar x → Gathering y (i + 1)
    gathered_one h e g = record {
      few = omega arith;
      all = ap (λ y. bit_or y (gather f (between (i + 1) n))) (g ∙ ap (bit_or sofar) e) ∙ or_assoc sofar (f i) (gather f (between (i + 1) n)) ∙ ap (λ l. bit_or sofar (gather f l)) (sym (between_next i n h)) ∙ q.all;
    }

    pub gathered_all : n ≤ i → sofar ≡ gather f (indices n 0)
    gathered_all h = sym (or_zero_r sofar) ∙ ap (λ l. bit_or sofar (gather f l)) (sym (between_none i n h)) ∙ q.all

  -- over elements that have no marks
  pub gathered_none : {sofar i k : ℕ} → Gathering sofar i → i ≤ k → k ≤ n → ((m : ℕ) → i ≤ m → m < k → f m ≡ 0) → Gathering sofar k
  gathered_none {sofar} {i} {k} q h l e = subst (Gathering sofar) (omega arith) (go (k - i) (omega arith))
    where
      go : (d : ℕ) → i + d ≤ k → Gathering sofar (i + d)
      go zero g = subst (Gathering sofar) (omega arith) q
      go (suc d) g =
          subst (Gathering sofar) (omega arith)
          (gathered_one (go d (omega arith)) (omega arith) (sym (e (i + d) (omega arith) (omega arith))) (sym (or_zero_r sofar)))
