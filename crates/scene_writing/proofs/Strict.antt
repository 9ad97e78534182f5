-- Halves of a row in strict order, as many as its segments have, are all of them, in the order in which they are written.
use Rattle.std.proofs.Common.{◌≡◌, ℕ, zero, suc, ◌+◌, ◌*◌, ◌<◌, ◌≤◌, Bool, true, false, List, [], ◌∷◌, ◌++◌, length, get_or, T, refl, sym, ap, subst, ◌⊎◌, inl, inr, ⊎_elim, length-append, ◌∙◌, subst₂, arith}
use native.Mathlib.Nat.{not-suc-le-zero, le_of_suc-le-suc, eq-or-lt_of_le}
use mathlib.Core.Bool.{false≢true}
use Rattle.whole.specs.Count.{◌∈◌, here, there}
use Rattle.whole.proofs.Logic.{in_nil, in_cons, in_left, in_right, in_append, Sorted, sorted_nil, sorted_cons}
use Rattle.whole.proofs.Sorted.{Among, sorted_unique}
use Rattle.plane.proofs.Order.{comes_irreflexive}
use Rattle.scene_keys.specs.declared.Ends.{Ends}
use Rattle.scene_writing.specs.declared.order.Half.{Half}
use Rattle.scene_writing.specs.Rows.{AreGood}
use Rattle.scene_writing.specs.Settled.{settle}
use Rattle.scene_writing.specs.Named.{half_in, earlier_in, AreHalves, AreRising, no_half, names_of, IsSettled}
use Rattle.scene_writing.proofs.Settling.{settle_members, settle_keeps}
use Rattle.scene_writing.proofs.Earlier.{earlier_trans}
use Rattle.scene_writing.proofs.InOrder.{Parted, settle_sorted, sorted_compared}
use Rattle.scene_written.proofs.Compared.{Compared, first, second, equal}

-- ---- different elements of a list that is no longer are all of it

module _ {A : Type 0} where
  -- the list without a member
  removed : {a : A} {m : List A} → a ∈ m → (k : List A) × (length m ≡ suc (length k)) × ((b : A) → b ∈ m → (b ≡ a) ⊎ (b ∈ k))
  removed {m = []} n = absurd (in_nil n)
  removed {m = c ∷ l} here = (l, refl, λ b n. in_cons n)
  removed {a} {m = c ∷ l} (there h) =
      let w = removed h in (
        c ∷ w.0,
        ap suc w.1,
        λ b n. ⊎_elim (λ e. inr (subst (λ (x : A). x ∈ (c ∷ w.0)) (sym e) here)) (λ k. ⊎_elim inl (λ j. inr (there j)) (w.2 b k)) (in_cons n),
      )

  all_there : {l : List A} → Sorted (λ a b. a ≡ b → ⊥) l → (m : List A) → Among l m → length m ≤ length l → Among m l
  all_there sorted_nil [] to few b n = n
  all_there sorted_nil (c ∷ m) to few b n = absurd (not-suc-le-zero few)
  all_there (sorted_cons {a = a} {l = l} other rest) m to few b n =
      let w = removed (to a here) in
      ⊎_elim (λ e. subst (λ (x : A). x ∈ (a ∷ l)) (sym e) here)
      (λ k. there (all_there rest w.0 (λ c h. ⊎_elim (λ e. absurd (other c h (sym e))) (λ j. j) (w.2 c (to c (there h)))) (omega (arith, few, w.1)) b k))
      (w.2 b n)

  -- what is so related is related in another way too
  sorted_as : {Q R : A → A → Type 0} {l : List A} → ((a b : A) → a ∈ l → b ∈ l → Q a b → R a b) → Sorted Q l → Sorted R l
  sorted_as h sorted_nil = sorted_nil
  sorted_as h (sorted_cons {a = a} over rest) = sorted_cons (λ b m. h a b here (there m) (over b m)) (sorted_as (λ b c m n. h b c (there m) (there n)) rest)

  sorted_append : {R : A → A → Type 0} {l m : List A} → Sorted R l → Sorted R m → ((a b : A) → a ∈ l → b ∈ m → R a b) → Sorted R (l ++ m)
  sorted_append sorted_nil t h = t
  sorted_append {l = a ∷ l} {m = m} (sorted_cons over rest) t h =
      sorted_cons (λ b n. ⊎_elim (over b) (h a b here) (in_append l n)) (sorted_append rest t (λ b c i j. h b c (there i) j))

  -- where the last one comes before h, all do
  all_before : (R : A → A → Type 0) (P : A → Type 0) → ((a b c : A) → P a → P b → P c → R a b → R b c → R a c) → (d h : A) → P h → {l : List A} → ((a : A) → a ∈ l → P a) → Sorted R l
      → ((i : ℕ) → i + 1 ≡ length l → R (get_or l i d) h) → (a : A) → a ∈ l → R a h
  all_before R P trans d h p ps sorted_nil next a m = absurd (in_nil m)
  all_before R P trans d h p ps (sorted_cons {a = b} {l = []} over rest) next a m =
      ⊎_elim (λ e. subst (λ (x : A). R x h) (sym e) (next 0 refl)) (λ n. absurd (in_nil n)) (in_cons m)
  all_before R P trans d h p ps (sorted_cons {a = b} {l = c ∷ l} over rest) next a m =
      go (all_before R P trans d h p {l = c ∷ l} (λ x n. ps x (there n)) rest (λ i e. next (suc i) (omega (arith, e))))
    where
      go : ((x : A) → x ∈ (c ∷ l) → R x h) → R a h
      go later = ⊎_elim (λ e. subst (λ (x : A). R x h) (sym e) (trans b c h (ps b here) (ps c (there here)) p (over c here) (later c here))) (later a) (in_cons m)

-- ---- the names of the halves of a row

abbrev both : ℕ → List Half
both i = record { index = i; is_left = true } ∷ record { index = i; is_left = false } ∷ []

both_in : (i : ℕ) {h : Half} → h ∈ both i → h.index ≡ i
both_in i m = ⊎_elim (λ e. ap (λ (x : Half). x.index) e) (λ n. ⊎_elim (λ e. ap (λ (x : Half). x.index) e) (λ k. absurd (in_nil k)) (in_cons n)) (in_cons m)

names_in : (n : ℕ) {h : Half} → h ∈ names_of n → h.index < n
names_in zero m = absurd (in_nil m)
names_in (suc i) m = ⊎_elim (λ k. omega (arith, names_in i k)) (λ k. omega (arith, both_in i k)) (in_append (names_of i) m)

in_names : (n i : ℕ) (d : Bool) → i < n → (let h : Half = record { index = i; is_left = d } in h) ∈ names_of n
in_names zero i d h = absurd (not-suc-le-zero h)
in_names (suc n) i d h =
    ⊎_elim (λ e. in_right (names_of n) (subst (λ (j : ℕ). (let h : Half = record { index = i; is_left = d } in h) ∈ both j) e (side d))) (λ k. in_left (both n) (in_names n i d k))
    (eq-or-lt_of_le (le_of_suc-le-suc h))
  where
    side : (d : Bool) → (let h : Half = record { index = i; is_left = d } in h) ∈ both i
    side true = here
    side false = there here

names_differ : (n : ℕ) → Sorted (λ a b. a ≡ b → ⊥) (names_of n)
names_differ zero = sorted_nil
names_differ (suc i) =
    sorted_append (names_differ i)
    (sorted_cons (λ b m. ⊎_elim (λ e. λ q. false≢true (sym (ap (λ (x : Half). x.is_left) (q ∙ e)))) (λ k. absurd (in_nil k)) (in_cons m)) (sorted_cons (λ b m. absurd (in_nil m)) sorted_nil))
    (λ a b m n q. absurd (omega (arith, names_in i m, both_in i n, ap (λ (x : Half). x.index) q)))

names_length : (n : ℕ) → length (names_of n) ≡ 2 * n
names_length zero = refl
names_length (suc i) = omega (arith, length-append (names_of i) (both i), names_length i)

-- ---- halves in strict order

module _ (row : List Ends) (good : AreGood row) {order : List Half} (halves : AreHalves row order) (rising : AreRising row order) where
  -- one that the last of them comes before goes behind it
  pub rising_push : (h : Half) → h.index < length row → ((i : ℕ) → i + 1 ≡ length order → T (earlier_in row (get_or order i no_half) h)) → AreRising row (order ++ h ∷ [])
  rising_push h k next =
      sorted_append rising (sorted_cons (λ b m. absurd (in_nil m)) sorted_nil)
      (λ a b m n. ⊎_elim (λ e. subst (λ (x : Half). T (earlier_in row a x)) (sym e) (before a m)) (λ i. absurd (in_nil i)) (in_cons n))
    where
      before : (a : Half) → a ∈ order → T (earlier_in row a h)
      before = all_before (λ a b. T (earlier_in row a b)) (λ a. a.index < length row) (earlier_trans row good) no_half h k halves rising next

module _ (row : List Ends) (good : AreGood row) {order : List Half} (halves : AreHalves row order) (rising : AreRising row order) (many : length order ≡ 2 * length row) where
  abbrev names : List Half
  names = names_of (length row)

  abbrev all : List Half
  all = settle (earlier_in row) [] names

  one_way : (a b : Half) → a ∈ order → b ∈ order → T (earlier_in row a b) → T (earlier_in row b a) → ⊥
  one_way a b m n t u = comes_irreflexive (half_in row a) (earlier_trans row good a b a (halves a m) (halves b n) (halves a m) t u)

  to_names : Among order names
  to_names h m = in_names (length row) h.index h.is_left (halves h m)

  from_names : Among names order
  from_names =
      all_there (sorted_as (λ a b m n t e. one_way a b m n t (subst₂ (λ (x y : Half). T (earlier_in row x y)) e (sym e) t)) rising) names to_names
      (omega (arith, many, names_length (length row)))

  names_parted : Sorted (λ b a. Parted (earlier_in row) a b) names
  names_parted = sorted_as (λ b a m n other. part b a other (sorted_compared (earlier_in row) rising b a (from_names b m) (from_names a n))) (names_differ (length row))
    where
      part : (b a : Half) → (b ≡ a → ⊥) → Compared (earlier_in row) b a → Parted (earlier_in row) a b
      part b a other (first t) = inr t
      part b a other (second t) = inl t
      part b a other (equal e) = absurd (other e)

  all_rising : AreRising row all
  all_rising =
      settle_sorted (earlier_in row) (λ h. h.index < length row) (earlier_trans row good) (λ b m. absurd (in_nil m)) (λ h m. names_in (length row) m)
      (λ a b m n. absurd (in_nil n)) names_parted sorted_nil

  pub rising_settled : IsSettled row order
  rising_settled = record {
    settled = sorted_unique (λ h j. T (earlier_in row h j)) one_way rising all_rising
        (λ h m. settle_keeps (earlier_in row) [] names (inr (to_names h m)))
        (λ h m. ⊎_elim (λ k. absurd (in_nil k)) (from_names h) (settle_members (earlier_in row) [] names m));
    halves = halves;
    many = many;
  }
