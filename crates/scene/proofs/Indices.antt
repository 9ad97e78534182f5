-- The elements of an object by their indices: which there are, which are kept, functions that agree on them, and the earliest at fault.
use Rattle.std.specs.Prelude.{None, Some}
use Prim.Native.Nat.{ℕ, zero, suc, ◌+◌, ◌<◌, ◌≤◌}
use native.Mathlib.Nat.{eq-or-lt_of_le}
use native.Mathlib.Omega.{arith}
use mathlib.Core.Path.{◌≡◌, refl, sym, ap, ap₂, subst, ◌∙◌}
use mathlib.Core.Logic.{⊎_elim}
use mathlib.Core.Bool.{Bool, true, false, cond}
use mathlib.Core.List.{List, [], ◌∷◌, map}
use Rattle.whole.specs.Count.{◌∈◌, here, there}
use Rattle.whole.proofs.Logic.{in_nil, in_cons, Sorted, sorted_nil, sorted_cons}
use Rattle.scene.specs.declared.Layout.{Layout}
use Rattle.scene.specs.Read.{place}
use Rattle.scene.specs.Conditions.{indices, elements, keep, earliest}

-- ---- the indices of an object's elements

pub in_indices : (n j i : ℕ) → j ≤ i → i < j + n → i ∈ indices n j
in_indices zero j i h k = absurd (omega arith)
in_indices (suc n) j i h k = ⊎_elim (λ e. subst (λ (m : ℕ). m ∈ indices (suc n) j) e here) (λ l. there (in_indices n (suc j) i l (omega arith))) (eq-or-lt_of_le h)

pub indices_in : (n j i : ℕ) → i ∈ indices n j → (j ≤ i) × (i < j + n)
indices_in zero j i m = absurd (in_nil m)
indices_in (suc n) j i m =
    ⊎_elim (λ e. (omega arith, omega arith)) (λ k. let w = indices_in n (suc j) i k in (omega arith, omega arith)) (in_cons m)

pub element_in : (l : Layout) (i : ℕ) → i < l.count → i ∈ elements l
element_in l i h = in_indices l.count 0 i (omega arith) (omega arith)

pub in_element : (l : Layout) (i : ℕ) → i ∈ elements l → i < l.count
in_element l i m = omega (arith, (indices_in l.count 0 i m).1)

module _ (f : ℕ → Bool) where
  pub keep_in : (is : List ℕ) {i : ℕ} → i ∈ keep f is → (i ∈ is) × (f i ≡ true)
  keep_in [] m = absurd (in_nil m)
  keep_in (j ∷ is) {i} m = go (f j) refl m (λ k. keep_in is k)
    where
      go : (b : Bool) → f j ≡ b → i ∈ cond b (j ∷ keep f is) (keep f is) → (i ∈ keep f is → (i ∈ is) × (f i ≡ true)) → (i ∈ (j ∷ is)) × (f i ≡ true)
      go true e m later = ⊎_elim (λ q. (subst (λ (k : ℕ). k ∈ (j ∷ is)) (sym q) here, ap f q ∙ e)) (λ k. (there (later k).0, (later k).1)) (in_cons m)
      go false e m later = (there (later m).0, (later m).1)

  pub in_keep : {i : ℕ} {is : List ℕ} → i ∈ is → f i ≡ true → i ∈ keep f is
  in_keep {i = i} (here {l = is}) e = subst (λ (b : Bool). i ∈ cond b (i ∷ keep f is) (keep f is)) (sym e) here
  in_keep {i = i} (there {b = j} {l = is} m) e = go (f j) (in_keep m e)
    where
      go : (b : Bool) → i ∈ keep f is → i ∈ cond b (j ∷ keep f is) (keep f is)
      go true k = there k
      go false k = k

  pub kept_rise : (n j : ℕ) → Sorted ◌<◌ (keep f (indices n j))
  kept_rise zero j = sorted_nil
  kept_rise (suc n) j = go (f j) (kept_rise n (suc j))
    where
      go : (b : Bool) → Sorted ◌<◌ (keep f (indices n (suc j))) → Sorted ◌<◌ (cond b (j ∷ keep f (indices n (suc j))) (keep f (indices n (suc j))))
      go true r = sorted_cons (λ i m. (indices_in n (suc j) i (keep_in (indices n (suc j)) m).0).0) r
      go false r = r

-- ---- functions that agree on a list's elements

pub map_same : {A B : Type 0} (f g : A → B) (l : List A) → ((a : A) → a ∈ l → f a ≡ g a) → map f l ≡ map g l
map_same f g [] h = refl
map_same f g (a ∷ l) h = ap₂ ◌∷◌ (h a here) (map_same f g l (λ b m. h b (there m)))

keep_same : (p q : ℕ → Bool) (is : List ℕ) → ((i : ℕ) → i ∈ is → p i ≡ q i) → keep p is ≡ keep q is
keep_same p q [] h = refl
keep_same p q (i ∷ is) h = ap₂ (λ (b : Bool) (r : List ℕ). cond b (i ∷ r) r) (h i here) (keep_same p q is (λ j m. h j (there m)))

-- f and g need agree on what is kept alone
pub kept_same : {A : Type 0} (f g : ℕ → A) (p q : ℕ → Bool) (is : List ℕ) → ((i : ℕ) → i ∈ is → p i ≡ q i) → ((i : ℕ) → i ∈ is → q i ≡ true → f i ≡ g i)
    → map f (keep p is) ≡ map g (keep q is)
kept_same f g p q is h e = ap (map f) (keep_same p q is h) ∙ map_same f g (keep q is) (λ i m. let k = keep_in q is m in e i k.0 k.1)

-- ---- the earliest at fault

pub not_nothing : {p : ℕ} → Some p ≡ None → ⊥
not_nothing e = let z : ◌≡◌ {A = ℕ} 0 1 = cc in omega arith

-- no element is at fault
pub none_wrong : (l : Layout) (wrong : ℕ → Bool) → earliest l wrong (elements l) ≡ None → (i : ℕ) → i < l.count → wrong i ≡ false
none_wrong l wrong e i h = go (elements l) e (element_in l i h)
  where
    go : (is : List ℕ) → earliest l wrong is ≡ None → i ∈ is → wrong i ≡ false
    go [] e m = absurd (in_nil m)
    go (j ∷ is) e m = at (wrong j) refl e (go is)
      where
        at : (b : Bool) → wrong j ≡ b → cond b (Some (place l j)) (earliest l wrong is) ≡ None → (earliest l wrong is ≡ None → i ∈ is → wrong i ≡ false) → wrong i ≡ false
        at true q e later = absurd (not_nothing e)
        at false q e later = ⊎_elim (λ x. ap wrong x ∙ q) (later e) (in_cons m)

pub no_fault : (l : Layout) (wrong : ℕ → Bool) → ((i : ℕ) → i < l.count → wrong i ≡ false) → earliest l wrong (elements l) ≡ None
no_fault l wrong h = go (elements l) (λ i m. h i (in_element l i m))
  where
    go : (is : List ℕ) → ((i : ℕ) → i ∈ is → wrong i ≡ false) → earliest l wrong is ≡ None
    go [] h = refl
    go (i ∷ is) h = ap (λ b. cond b (Some (place l i)) (earliest l wrong is)) (h i here) ∙ go is (λ k m. h k (there m))
