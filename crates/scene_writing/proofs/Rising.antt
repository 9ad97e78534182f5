-- Elements in strict order, where the order is transitive: all from a place on come after one that comes before the one there, and it goes in there in order.
use Rattle.std.proofs.Common.{◌≡◌, ℕ, zero, suc, ◌+◌, ◌<◌, ◌≤◌, Bool, true, List, ◌∷◌, ◌++◌, length, get_or, drop, T, refl, sym, subst, ◌⊎◌, inl, inr, ⊎_elim, arith}
use Rattle.std.specs.List.{insert}
use lib.ListN.{take, take-append-drop}
use native.Mathlib.Nat.{not-suc-le-zero, le_of_suc-le-suc}
use Rattle.whole.specs.Count.{every, ◌∈◌, here, there}
use Rattle.whole.proofs.Logic.{is_true, true_is, in_cons, in_left, in_right, in_append, in_at, every_at, every_make, Sorted, sorted_nil, sorted_cons}
use Rattle.scene_writing.specs.Settled.{Stops, Between}

module _ {A : Type 0} where
  insert_in : (l : List A) (k : ℕ) (a : A) {c : A} → c ∈ insert l k a → (c ≡ a) ⊎ (c ∈ l)
  insert_in l k a {c} m = ⊎_elim (λ n. inr (within (in_left (drop k l) n))) (λ n. ⊎_elim inl (λ p. inr (within (in_right (take k l) p))) (in_cons n)) (in_append (take k l) m)
    where
      within : c ∈ (take k l ++ drop k l) → c ∈ l
      within = subst (λ (r : List A). c ∈ r) (take-append-drop k l)

module _ {A : Type 0} (less : A → A → Bool) (P : A → Type 0) (trans : (a b c : A) → P a → P b → P c → T (less a b) → T (less b c) → T (less a c)) (d a : A) (p : P a) where
  all_past : {l : List A} → ((b : A) → b ∈ l → P b) → Sorted (λ b c. T (less b c)) l → (k : ℕ) → (k < length l → T (less a (get_or l k d))) → every (less a) (drop k l) ≡ true
  all_past ps sorted_nil zero h = refl
  all_past ps sorted_nil (suc k) h = refl
  all_past ps (sorted_cons {a = b} {l = l} first rest) zero h =
      true_is (every (less a) (b ∷ l)) (every_make (less a) (b ∷ l) (λ c m. ⊎_elim (λ e. subst (λ (x : A). T (less a x)) (sym e) now) (λ n. trans a b c p (ps b here) (ps c (there n)) now (first c n)) (in_cons m)))
    where
      now : T (less a b)
      now = h (omega arith)
  all_past ps (sorted_cons {a = b} {l = l} first rest) (suc k) h = all_past {l = l} (λ c m. ps c (there m)) rest k (λ q. h (omega arith))

  pub stops_between : {l : List A} → ((b : A) → b ∈ l → P b) → Sorted (λ b c. T (less b c)) l → {k : ℕ} → Between less d a l k k → Stops less d a l k
  stops_between ps s {k} b = record { within = b.within; past = all_past ps s k b.past; stop = b.stop }

  still_rising : {l : List A} → ((b : A) → b ∈ l → P b) → Sorted (λ b c. T (less b c)) l → (k : ℕ) → k ≤ length l → every (less a) (drop k l) ≡ true
      → ((i : ℕ) → i + 1 ≡ k → T (less (get_or l i d) a)) → Sorted (λ b c. T (less b c)) (insert l k a)
  still_rising {l} ps s zero w past next = sorted_cons (λ c m. every_at (less a) (is_true (every (less a) l) past) m) s
  still_rising ps sorted_nil (suc k) w past next = absurd (not-suc-le-zero w)
  still_rising ps (sorted_cons {a = b} {l = l} first rest) (suc k) w past next =
      sorted_cons (λ c m. ⊎_elim (λ e. subst (λ (x : A). T (less b x)) (sym e) (before k (le_of_suc-le-suc w) (λ i e. next i (omega (arith, e))))) (first c) (insert_in l k a m))
      (still_rising {l = l} (λ c m. ps c (there m)) rest k (le_of_suc-le-suc w) past (λ i e. next (suc i) (omega (arith, e))))
    where
      before : (j : ℕ) → j ≤ length l → ((i : ℕ) → i ≡ j → T (less (get_or (b ∷ l) i d) a)) → T (less b a)
      before zero v h = h 0 refl
      before (suc j) v h =
          trans b (get_or l j d) a (ps b here) (ps (get_or l j d) (there (in_at l d j v))) p (first (get_or l j d) (in_at l d j v)) (h (suc j) refl)

  pub rises_on : {l : List A} → ((b : A) → b ∈ l → P b) → Sorted (λ b c. T (less b c)) l → {k : ℕ} → Stops less d a l k
      → ((i : ℕ) → i + 1 ≡ k → T (less (get_or l i d) a)) → Sorted (λ b c. T (less b c)) (insert l k a)
  rises_on ps s {k} b next = still_rising ps s k b.within b.past next
