-- The strands that the first elements of the two objects begin and end: which elements they come from, and that their order in the lists does not
-- matter to what the sweep keeps.
use Prim.Native.Nat.{ℕ, zero, suc, ◌<◌, ◌≤◌}
use native.Mathlib.Nat.{not-suc-le-zero, le_of_suc-le-suc, eq-or-lt_of_le}
use native.Mathlib.Omega.{arith}
use mathlib.Core.Path.{◌≡◌, refl, sym, ap, ◌∙◌, subst}
use mathlib.Core.Logic.{◌⊎◌, inl, inr, ⊎_elim}
use mathlib.Core.Bool.{Bool, true, false, not, cond, beq}
use mathlib.Core.List.{List, ◌∷◌, ◌++◌}
use Rattle.whole.specs.Count.{◌∈◌, here, there, odd, count}
use Rattle.whole.proofs.Logic.{beq_same, beq_refl, in_nil, in_cons, in_append, in_left, in_right}
use Rattle.scene.specs.declared.Scene.{Scene}
use Rattle.scene.specs.Read.{place}
use Rattle.sweep_laws.specs.Kept.{Strand, under_of, own_equal, Kept}
use Rattle.sweep_laws.specs.Swept.{object_of, strand_of, is_beginning, strands_by}
use Rattle.whole.proofs.Counted.{count_between, in_between, at_between, or_between}

-- ---- lists with the same elements, each as often

pub record Same (l m : List Strand) : Type 0 where
  pub counts : (f : Strand → Bool) → count f l ≡ count f m
  pub to : (a : Strand) → a ∈ l → a ∈ m
  pub from : (a : Strand) → a ∈ m → a ∈ l

pub same_is : {l m : List Strand} → l ≡ m → Same l m
same_is e = record { counts = λ f. ap (count f) e; to = λ a h. subst (λ r. a ∈ r) e h; from = λ a h. subst (λ r. a ∈ r) (sym e) h }

pub same_between : (l : List Strand) (a : Strand) (m : List Strand) → Same (a ∷ (l ++ m)) (l ++ (a ∷ m))
same_between l a m =
    record {
      counts = λ f. sym (count_between f l a m);
      to = λ b h. ⊎_elim (λ e. subst (λ c. c ∈ (l ++ (a ∷ m))) (sym e) (at_between l a m)) (in_between l a m) (in_cons h);
      from = λ b h. ⊎_elim (λ e. subst (λ c. c ∈ (a ∷ (l ++ m))) (sym e) here) there (or_between l a m h);
    }

pub kept_same : (is_region : Bool → Bool) {begun begun' ended ended' active : List Strand} → Same begun begun' → Same ended ended'
    → Kept is_region begun ended active → Kept is_region begun' ended' active
kept_same is_region {active = active} b e k =
    record {
      counts = λ f. omega (arith, b.counts f, e.counts f, k.counts f);
      placed = λ a h. ⊎_elim inl (λ m. inr (e.to a m)) (k.placed a (b.from a h));
      active_begun = λ a h. b.to a (k.active_begun a h);
      ended_begun = λ a h. b.to a (k.ended_begun a (e.from a h));
      sound = λ a h. k.sound a (b.from a h);
      once = λ a h. sym (b.counts (own_equal a)) ∙ k.once a (b.from a h);
      clear_ended = λ a c h m. k.clear_ended a c (e.from a h) (e.from c m);
      clear_active = λ a c h m. k.clear_active a c (e.from a h) m;
      rising = k.rising;
      interior = λ a h i. ap odd (sym (b.counts (under_of a.first a))) ∙ k.interior a (b.from a h) i;
    }

-- ---- by elements

module _ (s : List ℕ) (sc : Scene) where
  abbrev pub strand_by : Bool → ℕ → Strand
  strand_by first k = strand_of s sc first (place (object_of s sc first) k)

  -- the strand of an element that begins it, or that ends it, among the first n
  pub record By (begins first : Bool) (n : ℕ) (a : Strand) : Type 0 where
    pub index : ℕ
    pub earlier : index < n
    pub is_such : is_beginning s sc first index ≡ begins
    pub is : a ≡ strand_by first index

  by_later : {begins first : Bool} {n : ℕ} {a : Strand} → By begins first n a → By begins first (suc n) a
  by_later w = record { index = w.index; earlier = omega (arith, w.earlier); is_such = w.is_such; is = w.is }

  such : (a b : Bool) → a ≡ b → beq a b ≡ true
  such a b e = ap (beq a) (sym e) ∙ beq_refl a

  pub find_by : (begins first : Bool) (n : ℕ) (a : Strand) → a ∈ strands_by s sc begins first n → By begins first n a
  find_by begins first zero a h = absurd (in_nil h)
  find_by begins first (suc n) a h = go (beq (is_beginning s sc first n) begins) refl h (find_by begins first n a)
    where
      go : (b : Bool) → beq (is_beginning s sc first n) begins ≡ b → a ∈ cond b (strand_by first n ∷ strands_by s sc begins first n) (strands_by s sc begins first n)
          → (a ∈ strands_by s sc begins first n → By begins first n a) → By begins first (suc n) a
      go true q h later =
          ⊎_elim (λ e. record { index = n; earlier = omega arith; is_such = beq_same (is_beginning s sc first n) begins q; is = e }) (λ m. by_later (later m)) (in_cons h)
      go false q h later = by_later (later h)

  pub make_by : (begins first : Bool) (n k : ℕ) → k < n → is_beginning s sc first k ≡ begins → strand_by first k ∈ strands_by s sc begins first n
  make_by begins first zero k h e = absurd (not-suc-le-zero h)
  make_by begins first (suc n) k h e =
      ⊎_elim (λ q. subst (λ (m : ℕ). strand_by first k ∈ strands_by s sc begins first (suc m)) q own)
      (λ l. later (beq (is_beginning s sc first n) begins) (make_by begins first n k l e)) (eq-or-lt_of_le (le_of_suc-le-suc h))
    where
      own : strand_by first k ∈ strands_by s sc begins first (suc k)
      own = subst (λ b. strand_by first k ∈ cond b (strand_by first k ∷ strands_by s sc begins first k) (strands_by s sc begins first k)) (sym (such (is_beginning s sc first k) begins e)) here

      later : (b : Bool) → strand_by first k ∈ strands_by s sc begins first n → strand_by first k ∈ cond b (strand_by first n ∷ strands_by s sc begins first n) (strands_by s sc begins first n)
      later true m = there m
      later false m = m

  -- ---- of both objects, the first i of F and the first j of G

  abbrev pub reached : ℕ → ℕ → Bool → ℕ
  reached i j true = i
  reached i j false = j

  abbrev pub strands : Bool → ℕ → ℕ → List Strand
  strands begins i j = strands_by s sc begins true i ++ strands_by s sc begins false j

  pub record Of (begins : Bool) (i j : ℕ) (a : Strand) : Type 0 where
    pub first : Bool
    pub by : By begins first (reached i j first) a

  pub find_of : (begins : Bool) (i j : ℕ) (a : Strand) → a ∈ strands begins i j → Of begins i j a
  find_of begins i j a h =
      ⊎_elim (λ m. record { first = true; by = find_by begins true i a m }) (λ m. record { first = false; by = find_by begins false j a m }) (in_append (strands_by s sc begins true i) h)

  pub make_of : (begins first : Bool) (i j k : ℕ) → k < reached i j first → is_beginning s sc first k ≡ begins → strand_by first k ∈ strands begins i j
  make_of begins true i j k h e = in_left (strands_by s sc begins false j) (make_by begins true i k h e)
  make_of begins false i j k h e = in_right (strands_by s sc begins true i) (make_by begins false j k h e)

  -- ---- one element more

  module _ (i j : ℕ) where
    further_first : (begins : Bool) → is_beginning s sc true i ≡ begins → Same (strand_by true i ∷ strands begins i j) (strands begins (suc i) j)
    further_first begins e = same_is (sym (rw (such (is_beginning s sc true i) begins e)))

    further_second : (begins : Bool) → is_beginning s sc false j ≡ begins → Same (strand_by false j ∷ strands begins i j) (strands begins i (suc j))
    further_second begins e =
        subst (λ b. Same (strand_by false j ∷ strands begins i j) (strands_by s sc begins true i ++ cond b (strand_by false j ∷ strands_by s sc begins false j) (strands_by s sc begins false j)))
        (sym (such (is_beginning s sc false j) begins e)) (same_between (strands_by s sc begins true i) (strand_by false j) (strands_by s sc begins false j))

    -- an element of the other kind adds nothing
    unlike : (a b : Bool) → a ≡ b → beq a (not b) ≡ false
    unlike true b e = ap (λ x. beq true (not x)) (sym e)
    unlike false b e = ap (λ x. beq false (not x)) (sym e)

    still_first : (begins : Bool) → is_beginning s sc true i ≡ begins → Same (strands (not begins) i j) (strands (not begins) (suc i) j)
    still_first begins e = same_is (sym (rw (unlike (is_beginning s sc true i) begins e)))

    still_second : (begins : Bool) → is_beginning s sc false j ≡ begins → Same (strands (not begins) i j) (strands (not begins) i (suc j))
    still_second begins e = same_is (sym (rw (unlike (is_beginning s sc false j) begins e)))

  -- the next element of an object, of those reached, is taken
  pub record Next (first : Bool) (i j i' j' : ℕ) : Type 0 where
    pub grows : (b : Bool) → reached i j b ≤ reached i' j' b
    pub by_one : (b : Bool) (k : ℕ) → k < reached i' j' b → (k < reached i j b) ⊎ ((b ≡ first) × (k ≡ reached i j first))
    pub own : reached i j first < reached i' j' first
    pub more : (begins : Bool) → is_beginning s sc first (reached i j first) ≡ begins → Same (strand_by first (reached i j first) ∷ strands begins i j) (strands begins i' j')
    pub same : (begins : Bool) → is_beginning s sc first (reached i j first) ≡ begins → Same (strands (not begins) i j) (strands (not begins) i' j')

  module _ (i j : ℕ) where
    pub next_first : Next true i j (suc i) j
    next_first =
        record {
          grows = λ b. elim b as (λ x. reached i j x ≤ reached (suc i) j x) [ true ↦ omega arith | false ↦ omega arith ];
          by_one = by_one;
          own = omega arith;
          more = further_first i j;
          same = still_first i j;
        }
      where
        by_one : (b : Bool) (k : ℕ) → k < reached (suc i) j b → (k < reached i j b) ⊎ ((b ≡ true) × (k ≡ i))
        by_one true k h = ⊎_elim (λ e. inr (refl, e)) inl (eq-or-lt_of_le (le_of_suc-le-suc h))
        by_one false k h = inl h

    pub next_second : Next false i j i (suc j)
    next_second =
        record {
          grows = λ b. elim b as (λ x. reached i j x ≤ reached i (suc j) x) [ true ↦ omega arith | false ↦ omega arith ];
          by_one = by_one;
          own = omega arith;
          more = further_second i j;
          same = still_second i j;
        }
      where
        by_one : (b : Bool) (k : ℕ) → k < reached i (suc j) b → (k < reached i j b) ⊎ ((b ≡ false) × (k ≡ j))
        by_one true k h = inl h
        by_one false k h = ⊎_elim (λ e. inr (refl, e)) inl (eq-or-lt_of_le (le_of_suc-le-suc h))
