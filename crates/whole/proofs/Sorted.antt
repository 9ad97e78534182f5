-- Lists in strict order: two of them with the same members are equal, for any relation that holds one way at most between members; and what a test keeps
-- of a list has its members and its order. (`Sorted` relates each element to every later one, so that nothing need be total.)
use mathlib.Core.Path.{◌≡◌, refl, sym, ap₂, subst}
use mathlib.Core.Logic.{⊎_elim}
use mathlib.Core.Bool.{Bool, true, false, cond}
use mathlib.Core.List.{List, [], ◌∷◌}
use lib.Dec.{T}
use Rattle.whole.specs.Count.{◌∈◌, here, there}
use Rattle.whole.proofs.Logic.{in_nil, in_cons, is_true, Sorted, sorted_nil, sorted_cons}

-- every member of the one is one of the other
abbrev pub Among : {A : Type 0} → List A → List A → Type 0
Among {A} l m = (a : A) → a ∈ l → a ∈ m

module _ {A : Type 0} (R : A → A → Type 0) where
  -- R holds one way at most between members
  abbrev pub OneWay : List A → Type 0
  OneWay l = (a b : A) → a ∈ l → b ∈ l → R a b → R b a → ⊥

  -- without the first element of both
  module _ {a : A} {l m : List A} (first : (b : A) → b ∈ l → R a b) (never : R a a → ⊥) where
    tail_among : Among (a ∷ l) (a ∷ m) → Among l m
    tail_among to x k = ⊎_elim (λ e. absurd (never (subst (R a) e (first x k)))) (λ h. h) (in_cons (to x (there k)))

  pub sorted_unique : {l m : List A} → OneWay l → Sorted R l → Sorted R m → Among l m → Among m l → l ≡ m
  sorted_unique w sorted_nil sorted_nil to from = refl
  sorted_unique w sorted_nil (sorted_cons {a = b} g q) to from = absurd (in_nil (from b here))
  sorted_unique w (sorted_cons {a = a} f r) sorted_nil to from = absurd (in_nil (to a here))
  sorted_unique w (sorted_cons {a = a} {l = l} f r) (sorted_cons {a = b} {l = m} g q) to from =
      ap₂ (λ x y. x ∷ y) same
      (sorted_unique (λ x y i j. w x y (there i) (there j)) r q (tail_among f (λ k. w a a here here k k) to') (tail_among g' (λ k. w a a here here k k) from'))
    where
      same : a ≡ b
      same = ⊎_elim (λ e. e) (λ k. ⊎_elim sym (λ i. absurd (w a b here (there i) (f b i) (g a k))) (in_cons (from b here))) (in_cons (to a here))

      to' : Among (a ∷ l) (a ∷ m)
      to' = subst (λ c. Among (a ∷ l) (c ∷ m)) (sym same) to

      from' : Among (a ∷ m) (a ∷ l)
      from' = subst (λ c. Among (c ∷ m) (a ∷ l)) (sym same) from

      g' : (x : A) → x ∈ m → R a x
      g' = subst (λ c. (x : A) → x ∈ m → R c x) (sym same) g

-- ---- what a test keeps

module _ {A : Type 0} (f : A → Bool) where
  abbrev pub kept : List A → List A
  kept [] = []
  kept (a ∷ l) = cond (f a) (a ∷ kept l) (kept l)

  pub kept_in : {a : A} (l : List A) → a ∈ kept l → (a ∈ l) × T (f a)
  kept_in [] m = absurd (in_nil m)
  kept_in {a} (b ∷ l) m = go (f b) refl m (λ k. let w = kept_in l k in (there w.0, w.1))
    where
      go : (t : Bool) → f b ≡ t → a ∈ cond t (b ∷ kept l) (kept l) → (a ∈ kept l → (a ∈ (b ∷ l)) × T (f a)) → (a ∈ (b ∷ l)) × T (f a)
      go true e m later = ⊎_elim (λ q. (subst (λ c. a ∈ (c ∷ l)) q here, subst (λ c. T (f c)) (sym q) (is_true (f b) e))) later (in_cons m)
      go false e m later = later m

  pub in_kept : {a : A} {l : List A} → a ∈ l → f a ≡ true → a ∈ kept l
  in_kept here e = rw e here
  in_kept {a} (there {b = b} {l = l} m) e = go (f b) (in_kept m e)
    where
      go : (t : Bool) → a ∈ kept l → a ∈ cond t (b ∷ kept l) (kept l)
      go true k = there k
      go false k = k

  pub sorted_kept : {R : A → A → Type 0} {l : List A} → Sorted R l → Sorted R (kept l)
  sorted_kept sorted_nil = sorted_nil
  sorted_kept {R} (sorted_cons {a = a} {l = l} first rest) = go (f a) (sorted_kept rest)
    where
      go : (t : Bool) → Sorted R (kept l) → Sorted R (cond t (a ∷ kept l) (kept l))
      go true r = sorted_cons (λ b m. first b (kept_in l m).0) r
      go false r = r
