-- Tests and counts over lists: of two tests together, of a test that one element passes at most, and of elements that are matched one to one.
use Prim.Native.Nat.{◌+◌, ◌≤◌}
use native.Mathlib.Omega.{arith}
use mathlib.Core.Path.{◌≡◌, refl, sym, ap, subst, ◌∙◌}
use mathlib.Core.Logic.{⊎_elim}
use mathlib.Core.Bool.{Bool, true, false, ◌||◌}
use mathlib.Core.List.{List, [], ◌∷◌, ◌++◌}
use lib.Dec.{T, ltb}
use borrow.Author.Tests.{lt-ltb}
use Rattle.whole.specs.Count.{◌∈◌, here, there, bit, some, count}
use Rattle.whole.proofs.Logic.{refute, Sorted, sorted_nil, sorted_cons}
use Rattle.whole.proofs.Counted.{count_between, count_none, or_between}

-- ---- "some"

module _ {A : Type 0} where
  pub some_or : (f g : A → Bool) (l : List A) → some f l || some g l ≡ some (λ a. f a || g a) l
  some_or f g [] = refl
  some_or f g (a ∷ l) = swap (f a) (some f l) (g a) (some g l) ∙ ap (λ b. f a || g a || b) (some_or f g l)
    where
      swap : (a b c d : Bool) → (a || b) || (c || d) ≡ a || c || (b || d)
      swap true b c d = refl
      swap false true true d = refl
      swap false true false d = refl
      swap false false c d = refl

  -- some element passes where the count is above 0
  pub some_count : (f : A → Bool) (l : List A) → some f l ≡ ltb 0 (count f l)
  some_count f [] = refl
  some_count f (a ∷ l) = go (f a) (some_count f l)
    where
      go : (b : Bool) → some f l ≡ ltb 0 (count f l) → b || some f l ≡ ltb 0 (bit b + count f l)
      go true e = sym (lt-ltb 0 (1 + count f l) (omega arith))
      go false e = e ∙ ap (ltb 0) none
        where
          none : count f l ≡ 0 + count f l
          none = omega arith

  -- ---- counts

  pub count_sum : (f g h : A → Bool) (l : List A) → ((a : A) → a ∈ l → bit (f a) ≡ bit (g a) + bit (h a)) → count f l ≡ count g l + count h l
  count_sum f g h [] e = refl
  count_sum f g h (a ∷ l) e = omega (arith, e a here, count_sum f g h l (λ b m. e b (there m)))

  -- all elements differ
  abbrev pub Distinct : List A → Type 0
  Distinct = Sorted (λ a b. a ≡ b → ⊥)

  -- where two elements that pass are equal, at most one passes
  pub count_one : (f : A → Bool) {l : List A} → Distinct l → ((a b : A) → a ∈ l → b ∈ l → T (f a) → T (f b) → a ≡ b) → count f l ≡ bit (some f l)
  count_one f sorted_nil e = refl
  count_one f (sorted_cons {a = a} {l = l} first rest) e = go (f a) refl (count_one f rest (λ b c m k. e b c (there m) (there k)))
    where
      go : (b : Bool) → f a ≡ b → count f l ≡ bit (some f l) → bit b + count f l ≡ bit (b || some f l)
      go true q r = omega (arith, count_none f l (λ b m. refute (f b) (λ t. first b m (e a b here (there m) (subst T (sym q) tt) t))))
      go false q r = omega (arith, r)

in_split : {A : Type 0} {a : A} {l : List A} → a ∈ l → (m : List A) × (k : List A) × (l ≡ m ++ (a ∷ k))
in_split (here {l = l}) = ([], l, refl)
in_split (there {b = b} h) = let w = in_split h in (b ∷ w.0, w.1, ap (λ l. b ∷ l) w.2)

-- each element of the one list has its match in the other, no two the same, which passes a test where the element does
module _ {A B : Type 0} (R : A → B → Type 0) (f : A → Bool) (g : B → Bool) (same : (a : A) (b : B) → R a b → f a ≡ g b) where
  pub count_matched : {l : List A} → Distinct l → (m : List B)
      → ((a : A) → a ∈ l → (b : B) × (b ∈ m) × R a b) → ((a b : A) (c : B) → a ∈ l → b ∈ l → R a c → R b c → a ≡ b) → count f l ≤ count g m
  count_matched sorted_nil m match one = omega arith
  count_matched (sorted_cons {a = a} {l = l} first rest) m match one =
      omega (
        arith,
        ap bit (same a w.0 w.2),
        ap (count g) k.2 ∙ count_between g k.0 w.0 k.1,
        count_matched rest (k.0 ++ k.1) others (λ b c d h j. one b c d (there h) (there j)),
      )
    where
      w : (b : B) × (b ∈ m) × R a b
      w = match a here

      k : (i : List B) × (j : List B) × (m ≡ i ++ (w.0 ∷ j))
      k = in_split w.1

      others : (b : A) → b ∈ l → (c : B) × (c ∈ (k.0 ++ k.1)) × R b c
      others b h =
          let v = match b (there h) in
          (v.0, ⊎_elim (λ e. absurd (first b h (one a b w.0 here (there h) w.2 (subst (R b) e v.2)))) (λ i. i) (or_between k.0 w.0 k.1 (subst (λ l. v.0 ∈ l) k.2 v.1)), v.2)
