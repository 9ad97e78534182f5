-- Parity as exclusive or over a list, tied to an odd count; pairs counted by rows and by columns; and the lemma on even multisets: where every value occurs an
-- even number of times in a list, any test holds for evenly many of its elements. In a list that rises in a strict order each element occurs once.
use Prim.Native.Nat.{ℕ, ◌+◌, ◌%◌}
use native.Mathlib.Omega.{arith}
use mathlib.Core.Path.{◌≡◌, refl, sym, ap, ap₂, ◌∙◌, subst}
use mathlib.Core.Logic.{◌⊎◌, inl, inr, ⊎_elim}
use mathlib.Core.Bool.{Bool, true, false, not, ◌&&◌, ◌||◌}
use mathlib.Core.List.{List, [], ◌∷◌, ◌++◌}
use lib.Dec.{T, eqb}
use borrow.Author.Tests.{eq-eqb, ne_eqb, eqb-true, eqb-false}
use Rattle.whole.specs.Count.{◌∈◌, here, there, some, count, bit, odd}
use Rattle.whole.proofs.Logic.{true_is, refute, some_make, in_nil, in_cons, Sorted, sorted_nil, sorted_cons}

infixl 32 ◌⊻◌
abbrev pub ◌⊻◌ : Bool → Bool → Bool
true ⊻ b = not b
false ⊻ b = b

-- ---- laws of exclusive or

pub xor_same : (a : Bool) → a ⊻ a ≡ false
xor_same true = refl
xor_same false = refl

pub xor_false : (a : Bool) → a ⊻ false ≡ a
xor_false true = refl
xor_false false = refl

pub xor_comm : (a b : Bool) → a ⊻ b ≡ b ⊻ a
xor_comm true true = refl
xor_comm true false = refl
xor_comm false true = refl
xor_comm false false = refl

pub xor_assoc : (a b c : Bool) → a ⊻ b ⊻ c ≡ a ⊻ (b ⊻ c)
xor_assoc true true true = refl
xor_assoc true true false = refl
xor_assoc true false c = refl
xor_assoc false b c = refl

pub xor_swap : (a b c d : Bool) → (a ⊻ b) ⊻ (c ⊻ d) ≡ (a ⊻ c) ⊻ (b ⊻ d)
xor_swap a b c d =
    xor_assoc a b (c ⊻ d)
    ∙ ap (λ x. a ⊻ x) (sym (xor_assoc b c d) ∙ ap (λ x. x ⊻ d) (xor_comm b c) ∙ xor_assoc c b d)
    ∙ sym (xor_assoc a c (b ⊻ d))

-- a ⊻ b is no: a is b
pub xor_none : (a b : Bool) → a ⊻ b ≡ false → a ≡ b
xor_none true true e = refl
xor_none true false e = e
xor_none false b e = sym e

-- where not both hold, "or" is exclusive
pub or_xor : (a b : Bool) → (T a → T b → ⊥) → a || b ≡ a ⊻ b
or_xor true true f = absurd (f tt tt)
or_xor true false f = refl
or_xor false b f = refl

-- b moves to the other side
pub xor_move : (a b c : Bool) → a ⊻ b ≡ c → a ≡ b ⊻ c
xor_move a b c e =
    sym (xor_false a) ∙ ap (λ x. a ⊻ x) (sym (xor_same b)) ∙ sym (xor_assoc a b b) ∙ ap (λ x. x ⊻ b) e ∙ xor_comm c b

module _ {A : Type 0} where
  unfoldable pub parity : (A → Bool) → List A → Bool
  parity f [] = false
  parity f (a ∷ l) = f a ⊻ parity f l

  pub parity_nil : (f : A → Bool) → parity f [] ≡ false
  unfolding parity
  parity_nil f = refl

  pub parity_cons : (f : A → Bool) (a : A) (l : List A) → parity f (a ∷ l) ≡ f a ⊻ parity f l
  unfolding parity
  parity_cons f a l = refl

  pub parity_same : (f g : A → Bool) (l : List A) → ((a : A) → a ∈ l → f a ≡ g a) → parity f l ≡ parity g l
  unfolding parity
  parity_same f g [] h = refl
  parity_same f g (a ∷ l) h = ap₂ (λ x y. x ⊻ y) (h a here) (parity_same f g l (λ b m. h b (there m)))

  pub parity_xor : (f g : A → Bool) (l : List A) → parity (λ a. f a ⊻ g a) l ≡ parity f l ⊻ parity g l
  unfolding parity
  parity_xor f g [] = refl
  parity_xor f g (a ∷ l) =
      ap (λ x. (f a ⊻ g a) ⊻ x) (parity_xor f g l) ∙ xor_swap (f a) (g a) (parity f l) (parity g l)

  pub parity_none : (f : A → Bool) (l : List A) → ((a : A) → a ∈ l → f a ≡ false) → parity f l ≡ false
  unfolding parity
  parity_none f [] h = refl
  parity_none f (a ∷ l) h = ap₂ (λ x y. x ⊻ y) (h a here) (parity_none f l (λ b m. h b (there m)))

  pub parity_append : (f : A → Bool) (l m : List A) → parity f (l ++ m) ≡ parity f l ⊻ parity f m
  unfolding parity
  parity_append f [] m = refl
  parity_append f (a ∷ l) m = ap (λ x. f a ⊻ x) (parity_append f l m) ∙ sym (xor_assoc (f a) (parity f l) (parity f m))

  pub parity_and : (f : A → Bool) (b : Bool) (l : List A) → parity (λ a. f a && b) l ≡ parity f l && b
  unfolding parity
  parity_and f b [] = refl
  parity_and f b (a ∷ l) = ap (λ x. (f a && b) ⊻ x) (parity_and f b l) ∙ go (f a) b (parity f l)
    where
      go : (x b y : Bool) → (x && b) ⊻ (y && b) ≡ (x ⊻ y) && b
      go true true true = refl
      go true true false = refl
      go true false true = refl
      go true false false = refl
      go false b y = refl

  -- an odd count is the exclusive or
  pub odd_count : (f : A → Bool) (l : List A) → odd (count f l) ≡ parity f l
  unfolding parity odd
  odd_count f [] = refl
  odd_count f (a ∷ l) = go (f a) (count f l) ∙ ap (λ x. f a ⊻ x) (odd_count f l)
    where
      step : (n : ℕ) → (n % 2 ≡ 1) ⊎ (n % 2 ≡ 1 → ⊥) → eqb ((1 + n) % 2) 1 ≡ not (eqb (n % 2) 1)
      step n (inl e) = ne_eqb ((1 + n) % 2) 1 (λ h. omega arith) ∙ sym (ap not (eq-eqb (n % 2) 1 e))
      step n (inr e) = eq-eqb ((1 + n) % 2) 1 (rest n e) ∙ sym (ap not (ne_eqb (n % 2) 1 e))
        where
          rest : (n : ℕ) → (n % 2 ≡ 1 → ⊥) → (1 + n) % 2 ≡ 1
          rest n e = omega arith

      none : (n : ℕ) → 0 + n ≡ n
      none n = omega arith

      cases : (n : ℕ) → (n % 2 ≡ 1) ⊎ (n % 2 ≡ 1 → ⊥)
      cases n = elim (eqb (n % 2) 1) as (λ b. (b ≡ true → n % 2 ≡ 1) → (b ≡ false → n % 2 ≡ 1 → ⊥) → (n % 2 ≡ 1) ⊎ (n % 2 ≡ 1 → ⊥))
          [ true ↦ λ f g. inl (f refl) | false ↦ λ f g. inr (g refl) ] (eqb-true (n % 2) 1) (eqb-false (n % 2) 1)

      go : (b : Bool) (n : ℕ) → odd (bit b + n) ≡ b ⊻ odd n
      go true n = step n (cases n)
      go false n = ap odd (none n)

-- pairs counted by rows and by columns
module _ {A B : Type 0} (r : A → B → Bool) where
  pub parity_swap : (l : List A) (m : List B) → parity (λ b. parity (λ a. r a b) l) m ≡ parity (λ a. parity (r a) m) l
  unfolding parity
  parity_swap [] m = parity_none (λ b. false) m (λ b k. refl)
  parity_swap (a ∷ l) m = parity_xor (r a) (λ b. parity (λ c. r c b) l) m ∙ ap (λ x. parity (r a) m ⊻ x) (parity_swap l m)

-- ---- even multisets

module _ {A : Type 0} (eq : A → A → Bool) (eq_is : (a b : A) → T (eq a b) → a ≡ b) (eq_refl : (a : A) → T (eq a a)) (l : List A) where
  -- a test may as well be no at a value that occurs evenly often
  drop_one : (f : A → Bool) (a : A) → parity (eq a) l ≡ false → parity f l ≡ parity (λ x. f x && not (eq a x)) l
  drop_one f a e =
      parity_same f (λ x. (eq a x && f a) ⊻ (f x && not (eq a x))) l (λ x m. split x (eq a x) (eq_is a x))
      ∙ parity_xor (λ x. eq a x && f a) (λ x. f x && not (eq a x)) l
      ∙ ap (λ b. b ⊻ parity (λ x. f x && not (eq a x)) l) (parity_and (eq a) (f a) l ∙ ap (λ b. b && f a) e)
    where
      settle : (p q : Bool) → p ≡ q → q ≡ p ⊻ (q && false)
      settle p true e = sym e ∙ sym (xor_false p)
      settle p false e = sym e ∙ sym (xor_false p)

      keep : (p : Bool) → p ≡ p && true
      keep true = refl
      keep false = refl

      split : (x : A) (b : Bool) → (T b → a ≡ x) → f x ≡ (b && f a) ⊻ (f x && not b)
      split x true h = settle (f a) (f x) (ap f (h tt))
      split x false h = keep (f x)

  drop_all : (m : List A) → ((a : A) → a ∈ m → parity (eq a) l ≡ false) → (f : A → Bool)
      → parity f l ≡ parity (λ x. f x && not (some (λ a. eq a x) m)) l
  drop_all [] h f = parity_same f (λ x. f x && true) l (λ x m. keep (f x))
    where
      keep : (p : Bool) → p ≡ p && true
      keep true = refl
      keep false = refl
  drop_all (a ∷ m) h f =
      drop_one f a (h a here)
      ∙ drop_all m (λ b k. h b (there k)) (λ x. f x && not (eq a x))
      ∙ parity_same (λ x. f x && not (eq a x) && not (some (λ b. eq b x) m)) (λ x. f x && not (eq a x || some (λ b. eq b x) m)) l
      (λ x k. join (f x) (eq a x) (some (λ b. eq b x) m))
    where
      join : (p q r : Bool) → p && not q && not r ≡ p && not (q || r)
      join true true r = refl
      join true false r = refl
      join false q r = refl

  pub even_all : ((a : A) → a ∈ l → parity (eq a) l ≡ false) → (f : A → Bool) → parity f l ≡ false
  even_all h f =
      drop_all l h f ∙ parity_none (λ x. f x && not (some (λ a. eq a x) l)) l (λ x m. gone x (true_is (some (λ a. eq a x) l) (some_make (λ a. eq a x) m (eq_refl x))))
    where
      off : (p : Bool) → p && false ≡ false
      off true = refl
      off false = refl

      gone : (x : A) → some (λ a. eq a x) l ≡ true → f x && not (some (λ a. eq a x) l) ≡ false
      gone x e = ap (λ b. f x && not b) e ∙ off (f x)

-- ---- lists in strict order: each element occurs once

module _ {A : Type 0} (eq : A → A → Bool) (eq_is : (a b : A) → T (eq a b) → a ≡ b) (eq_refl : (a : A) → T (eq a a)) (R : A → A → Type 0) where
  pub sorted_once : {l : List A} → Sorted R l → ((a : A) → a ∈ l → R a a → ⊥) → (a : A) → a ∈ l → parity (eq a) l ≡ true
  sorted_once sorted_nil irr a m = absurd (in_nil m)
  sorted_once (sorted_cons {a = b} {l = l} first rest) irr a m =
      parity_cons (eq a) b l ∙ ⊎_elim same (λ k. later k (sorted_once rest (λ c n. irr c (there n)) a k)) (in_cons m)
    where
      same : a ≡ b → eq a b ⊻ parity (eq a) l ≡ true
      same e =
          ap₂ (λ x y. x ⊻ y) (true_is (eq a b) (subst (λ c. T (eq a c)) e (eq_refl a)))
          (parity_none (eq a) l (λ c k. refute (eq a c) (λ t. irr b here (subst (R b) (sym (eq_is a c t) ∙ e) (first c k)))))

      later : a ∈ l → parity (eq a) l ≡ true → eq a b ⊻ parity (eq a) l ≡ true
      later k = ap₂ (λ x y. x ⊻ y) (refute (eq a b) (λ t. irr b here (subst (R b) (eq_is a b t) (first a k))))
