-- Tests as propositions: `T b` taken apart and put together at each Boolean operation, and "some" and "every" of a list with their witnesses.
-- And lists whose elements rise in a strict order: from neighbours to any two.
use Prim.Native.Nat.{ℕ, zero, suc, ◌<◌, ◌≤◌}
use native.Mathlib.Decide.{dec_lt}
use native.Mathlib.Nat.{not-suc-le-zero, le_of_suc-le-suc, eq-or-lt_of_le}
use native.Mathlib.Omega.{arith}
use mathlib.Core.Path.{◌≡◌, refl, sym, subst}
use mathlib.Core.Logic.{◌⊎◌, inl, inr, ⊎_elim}
use mathlib.Core.Bool.{Bool, true, false, not, ◌&&◌, ◌||◌, beq}
use mathlib.Core.List.{List, [], ◌∷◌, ◌++◌, map}
use lib.Dec.{T, T_not, not_T}
use lib.ListN.{length, get_or}
use Rattle.whole.specs.Count.{◌∈◌, here, there, some, every}

pub and_left : (a b : Bool) → T (a && b) → T a
and_left true b t = tt
and_left false b t = t

pub and_right : (a b : Bool) → T (a && b) → T b
and_right true b t = t
and_right false b t = absurd t

pub and_make : (a b : Bool) → T a → T b → T (a && b)
and_make true b s t = t
and_make false b s t = s

pub or_cases : (a b : Bool) → T (a || b) → T a ⊎ T b
or_cases true b t = inl tt
or_cases false b t = inr t

pub or_left : (a b : Bool) → T a → T (a || b)
or_left true b t = tt
or_left false b t = absurd t

pub or_right : (a b : Bool) → T b → T (a || b)
or_right true b t = tt
or_right false b t = t

pub less_or_not : (m n : ℕ) → (m < n) ⊎ (n ≤ m)
less_or_not m n = go (dec_lt m n)
  where
    go : Dec (m < n) → (m < n) ⊎ (n ≤ m)
    go (yes h) = inl h
    go (no h) = inr (omega arith)

pub decide : (b : Bool) → T b ⊎ T (not b)
decide true = inl tt
decide false = inr tt

pub true_is : (b : Bool) → T b → b ≡ true
true_is true t = refl
true_is false t = absurd t

pub false_is : (b : Bool) → T (not b) → b ≡ false
false_is true t = absurd t
false_is false t = refl

pub is_true : (b : Bool) → b ≡ true → T b
is_true b e = subst T (sym e) tt

pub is_false : (b : Bool) → b ≡ false → T (not b)
is_false b e = subst (λ c. T (not c)) (sym e) tt

pub refute : (b : Bool) → (T b → ⊥) → b ≡ false
refute b f = false_is b (not_T b f)

-- two tests that imply each other are equal
pub same_test : (a b : Bool) → (T a → T b) → (T b → T a) → a ≡ b
same_test true b f g = sym (true_is b (f tt))
same_test false b f g = sym (refute b g)

-- a second test that follows from the first, or contradicts it
pub and_follows : (a b : Bool) → (T a → T b) → a && b ≡ a
and_follows true b f = true_is b (f tt)
and_follows false b f = refl

pub and_never : (a b : Bool) → (T a → T b → ⊥) → a && b ≡ false
and_never true b f = refute b (f tt)
and_never false b f = refl

-- equal tests
pub beq_same : (a b : Bool) → beq a b ≡ true → a ≡ b
beq_same true true e = refl
beq_same true false e = sym e
beq_same false true e = e
beq_same false false e = refl

pub beq_other : (a b : Bool) → beq a b ≡ false → a ≡ not b
beq_other true true e = e
beq_other true false e = refl
beq_other false true e = refl
beq_other false false e = sym e

pub beq_refl : (a : Bool) → beq a a ≡ true
beq_refl true = refl
beq_refl false = refl

-- ---- lists

module _ {A : Type 0} where
  pub in_nil : {a : A} → a ∈ [] → ⊥
  in_nil m = elim m [ ]

  pub in_cons : {a b : A} {l : List A} → a ∈ (b ∷ l) → (a ≡ b) ⊎ (a ∈ l)
  in_cons here = inl refl
  in_cons (there m) = inr m

  pub some_find : (f : A → Bool) (l : List A) → T (some f l) → (a : A) × (a ∈ l) × T (f a)
  some_find f [] t = absurd t
  some_find f (a ∷ l) t = ⊎_elim (λ h. (a, here, h)) (λ h. let w = some_find f l h in (w.0, there w.1, w.2)) (or_cases (f a) (some f l) t)

  pub some_make : (f : A → Bool) {a : A} {l : List A} → a ∈ l → T (f a) → T (some f l)
  some_make f {a = a} (here {l = l}) t = or_left (f a) (some f l) t
  some_make f (there {b = b} {l = l} m) t = or_right (f b) (some f l) (some_make f m t)

  pub every_at : (f : A → Bool) {a : A} {l : List A} → T (every f l) → a ∈ l → T (f a)
  every_at f {a = a} t (here {l = l}) = and_left (f a) (every f l) t
  every_at f t (there {b = b} {l = l} m) = every_at f (and_right (f b) (every f l) t) m

  pub every_make : (f : A → Bool) (l : List A) → ((a : A) → a ∈ l → T (f a)) → T (every f l)
  every_make f [] h = tt
  every_make f (a ∷ l) h = and_make (f a) (every f l) (h a here) (every_make f l (λ b m. h b (there m)))

  pub in_left : {a : A} {l : List A} (m : List A) → a ∈ l → a ∈ (l ++ m)
  in_left m here = here
  in_left m (there h) = there (in_left m h)

  pub in_right : {a : A} (l : List A) {m : List A} → a ∈ m → a ∈ (l ++ m)
  in_right [] h = h
  in_right (b ∷ l) h = there (in_right l h)

  pub in_append : {a : A} (l : List A) {m : List A} → a ∈ (l ++ m) → (a ∈ l) ⊎ (a ∈ m)
  in_append [] h = inr h
  in_append (b ∷ l) here = inl here
  in_append (b ∷ l) (there h) = ⊎_elim (λ k. inl (there k)) inr (in_append l h)

  -- what no element passes, none does
  pub none_of : (f : A → Bool) {l : List A} → some f l ≡ false → {a : A} → a ∈ l → f a ≡ false
  none_of f {l} e {a} m = refute (f a) (λ t. T_not (some f l) (is_false (some f l) e) (some_make f m t))

  -- membership by index
  pub in_at : (l : List A) (d : A) (i : ℕ) → i < length l → get_or l i d ∈ l
  in_at [] d i h = absurd (not-suc-le-zero h)
  in_at (a ∷ l) d zero h = here
  in_at (a ∷ l) d (suc i) h = there (in_at l d i (le_of_suc-le-suc h))

  pub in_index : {a : A} (d : A) {l : List A} → a ∈ l → (i : ℕ) × (i < length l) × (get_or l i d ≡ a)
  in_index d here = (0, omega arith, refl)
  in_index d (there m) = let w = in_index d m in (suc w.0, omega arith, w.2)

-- ---- the image of a list

module _ {A B : Type 0} (f : A → B) where
  pub in_map : {a : A} {l : List A} → a ∈ l → f a ∈ map f l
  in_map here = here
  in_map (there m) = there (in_map m)

  pub map_in : {b : B} (l : List A) → b ∈ map f l → (a : A) × (a ∈ l) × (f a ≡ b)
  map_in [] m = absurd (in_nil m)
  map_in (a ∷ l) m = ⊎_elim (λ e. (a, here, sym e)) (λ k. let w = map_in l k in (w.0, there w.1, w.2)) (in_cons m)

-- ---- lists in strict order

-- each element is so related to every later one
pub data Sorted {A : Type 0} (R : A → A → Type 0) : List A → Type 0 where
  sorted_nil : Sorted R []
  sorted_cons : {a : A} {l : List A} → ((b : A) → b ∈ l → R a b) → Sorted R l → Sorted R (a ∷ l)

-- the image of a list in order is in order
pub sorted_map : {A B : Type 0} (f : A → B) {Q : A → A → Type 0} {R : B → B → Type 0} {l : List A} → Sorted Q l
    → ((a b : A) → a ∈ l → b ∈ l → Q a b → R (f a) (f b)) → Sorted R (map f l)
sorted_map f sorted_nil h = sorted_nil
sorted_map f {R = R} (sorted_cons {a = a} {l = l} first rest) h =
    sorted_cons (λ b m. let w = map_in f l m in subst (R (f a)) w.2 (h a w.0 here (there w.1) (first w.0 w.1)))
    (sorted_map f rest (λ b c m k. h b c (there m) (there k)))

-- from neighbours to all, where R is transitive on what P holds of
module _ {A : Type 0} (P : A → Type 0) (R : A → A → Type 0) (trans : (a b c : A) → P a → P b → P c → R a b → R b c → R a c) where
  pub rising : (f : ℕ → A) (n : ℕ) → ((i : ℕ) → i < n → P (f i)) → ((i : ℕ) → suc i < n → R (f i) (f (suc i)))
      → (i j : ℕ) → i < j → j < n → R (f i) (f j)
  rising f n good next i zero h k = absurd (not-suc-le-zero h)
  rising f n good next i (suc j) h k =
      ⊎_elim (λ e. subst (λ m. R (f m) (f (suc j))) (sym e) (next j k)) (λ g. step g (rising f n good next i j g (omega arith))) (eq-or-lt_of_le (le_of_suc-le-suc h))
    where
      step : i < j → R (f i) (f j) → R (f i) (f (suc j))
      step g r = trans (f i) (f j) (f (suc j)) (good i (omega arith)) (good j (omega arith)) (good (suc j) k) r (next j k)
