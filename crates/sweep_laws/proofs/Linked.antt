-- Lists whose neighbours are related: what holds of one element holds of all above it, or below it, where it goes on from one to the next; and
-- one element more, or less, asks only about its own neighbours.
use Prim.Native.Nat.{ℕ, zero, suc, ◌<◌, ◌≤◌}
use native.Mathlib.Nat.{not-suc-le-zero, le_of_suc-le-suc}
use native.Mathlib.Omega.{arith}
use mathlib.Core.Path.{◌≡◌, refl, ap}
use mathlib.Core.List.{List, [], ◌∷◌, map}
use lib.ListN.{length, get_or, take, drop}
use Rattle.whole.specs.Count.{◌∈◌, here, there}
use Rattle.whole.proofs.Logic.{Sorted, sorted_cons, in_nil}
use Rattle.sweep_laws.specs.Status.{inserted, removed}

module _ {A : Type 0} where
  -- of the first element, if there is one
  abbrev pub First : (A → Type 0) → List A → Type 0
  First P [] = Unit {0}
  First P (a ∷ l) = P a

  pub data Linked (R : A → A → Type 0) : List A → Type 0 where
    linked_nil : Linked R []
    linked_cons : {a : A} {l : List A} → First (R a) l → Linked R l → Linked R (a ∷ l)

-- a list that is linked, and in order as the image of a map
module _ {A B : Type 0} (f : A → B) {Q S : A → A → Type 0} {R : B → B → Type 0} where
  pub linked_sorted : (l : List A) → Linked Q l → Sorted R (map f l) → ((a b : A) → a ∈ l → b ∈ l → Q a b → R (f a) (f b) → S a b) → Linked S l
  linked_sorted [] linked_nil o g = linked_nil
  linked_sorted (a ∷ l) (linked_cons next rest) (sorted_cons first further) g =
      linked_cons (go l next first (λ b m. g a b here (there m))) (linked_sorted l rest further (λ b c m k. g b c (there m) (there k)))
    where
      go : (l : List A) → First (Q a) l → ((b : B) → b ∈ map f l → R (f a) b) → ((b : A) → b ∈ l → Q a b → R (f a) (f b) → S a b) → First (S a) l
      go [] n h k = tt
      go (b ∷ l) n h k = k b here n (h (f b) here)

-- ---- from one to all

module _ {A : Type 0} (P : A → Type 0) (d : A) where
  -- from the place k on
  pub upwards : (l : List A) → Linked (λ a b. P a → P b) l → (k : ℕ) → (k < length l → P (get_or l k d)) → (b : A) → b ∈ drop k l → P b
  upwards [] n zero p b m = absurd (in_nil m)
  upwards [] n (suc k) p b m = absurd (in_nil m)
  upwards (a ∷ l) n zero p b here = p (omega arith)
  upwards (a ∷ []) n zero p b (there m) = absurd (in_nil m)
  upwards (a ∷ c ∷ l) (linked_cons next rest) zero p b (there m) = upwards (c ∷ l) rest 0 (λ h. next (p (omega arith))) b m
  upwards (a ∷ l) (linked_cons next rest) (suc k) p b m = upwards l rest k (λ h. p (omega arith)) b m

  -- below the place k
  pub downwards : (l : List A) → Linked (λ a b. P b → P a) l → (k : ℕ) → k ≤ length l → ((i : ℕ) → suc i ≡ k → P (get_or l i d)) → (b : A) → b ∈ take k l → P b
  downwards l n zero h p b m = absurd (in_nil m)
  downwards [] n (suc k) h p b m = absurd (in_nil m)
  downwards (a ∷ l) n (suc zero) h p b here = p 0 refl
  downwards (a ∷ l) n (suc zero) h p b (there m) = absurd (in_nil m)
  downwards (a ∷ []) n (suc (suc k)) h p b m = absurd (not-suc-le-zero (le_of_suc-le-suc h))
  downwards (a ∷ c ∷ l) (linked_cons next rest) (suc (suc k)) h p b here =
      next (downwards (c ∷ l) rest (suc k) (le_of_suc-le-suc h) (λ i e. p (suc i) (ap suc e)) c here)
  downwards (a ∷ c ∷ l) (linked_cons next rest) (suc (suc k)) h p b (there m) =
      downwards (c ∷ l) rest (suc k) (le_of_suc-le-suc h) (λ i e. p (suc i) (ap suc e)) b m

-- ---- one more, or less

module _ {A : Type 0} (d : A) {R : A → A → Type 0} where
  pub linked_inserted : (k : ℕ) (a : A) (l : List A) → k ≤ length l → Linked R l
      → ((i : ℕ) → suc i ≡ k → R (get_or l i d) a) → (k < length l → R a (get_or l k d)) → Linked R (inserted k a l)
  linked_inserted zero a [] h n below above = linked_cons tt linked_nil
  linked_inserted zero a (b ∷ l) h n below above = linked_cons (above (omega arith)) n
  linked_inserted (suc k) a [] h n below above = absurd (not-suc-le-zero h)
  linked_inserted (suc k) a (b ∷ l) h (linked_cons next rest) below above =
      linked_cons (first k l (le_of_suc-le-suc h) next (below 0)) (linked_inserted k a l (le_of_suc-le-suc h) rest (λ i e. below (suc i) (ap suc e)) (λ g. above (omega arith)))
    where
      first : (k : ℕ) (l : List A) → k ≤ length l → First (R b) l → (1 ≡ suc k → R b a) → First (R b) (inserted k a l)
      first zero l h n f = f refl
      first (suc k) [] h n f = absurd (not-suc-le-zero h)
      first (suc k) (c ∷ l) h n f = n

  pub linked_removed : (k : ℕ) (l : List A) → k < length l → Linked R l
      → ((i : ℕ) → suc i ≡ k → suc k < length l → R (get_or l i d) (get_or l (suc k) d)) → Linked R (removed k l)
  linked_removed k [] h n meet = absurd (not-suc-le-zero h)
  linked_removed zero (b ∷ l) h (linked_cons next rest) meet = rest
  linked_removed (suc k) (b ∷ l) h (linked_cons next rest) meet =
      linked_cons (first k l (le_of_suc-le-suc h) next (meet 0)) (linked_removed k l (le_of_suc-le-suc h) rest (λ i e g. meet (suc i) (ap suc e) (omega arith)))
    where
      first : (k : ℕ) (l : List A) → k < length l → First (R b) l → (1 ≡ suc k → suc (suc k) < suc (length l) → R b (get_or l (suc k) d)) → First (R b) (removed k l)
      first k [] h n f = absurd (not-suc-le-zero h)
      first zero (c ∷ []) h n f = tt
      first zero (c ∷ e ∷ l) h n f = f refl (omega arith)
      first (suc k) (c ∷ l) h n f = n
