-- Counts over lists: of an appended list, of tests that agree or of which one follows from the other, and of an element put between two lists; and "some" as a
-- count above zero.
use Prim.Native.Nat.{◌+◌, ◌≤◌, ◌<◌}
use native.Mathlib.Nat.{zero-add}
use native.Mathlib.Omega.{arith}
use mathlib.Core.Path.{◌≡◌, refl, sym, ap, ◌∙◌}
use mathlib.Core.Bool.{Bool, true, false, ◌||◌}
use mathlib.Core.List.{List, [], ◌∷◌, ◌++◌}
use lib.Dec.{T, ltb}
use lib.ListN.{length}
use borrow.Author.Tests.{lt-ltb}
use Rattle.whole.specs.Count.{◌∈◌, here, there, bit, some, count}
use Rattle.whole.proofs.Logic.{true_is, in_append, in_left, in_right}
use mathlib.Core.Logic.{◌⊎◌, inl, inr, ⊎_elim}

bit_most : (b : Bool) → bit b ≤ 1
bit_most true = omega arith
bit_most false = omega arith

bit_less : (a b : Bool) → (T a → T b) → bit a ≤ bit b
bit_less true true k = omega arith
bit_less true false k = absurd (k tt)
bit_less false b k = omega arith

or_assoc : (a b c : Bool) → a || (b || c) ≡ (a || b) || c
or_assoc true b c = refl
or_assoc false b c = refl

module _ {A : Type 0} where
  pub count_append : (f : A → Bool) (l m : List A) → count f (l ++ m) ≡ count f l + count f m
  count_append f [] m = omega arith
  count_append f (a ∷ l) m = omega (arith, count_append f l m)

  pub count_between : (f : A → Bool) (l : List A) (a : A) (m : List A) → count f (l ++ (a ∷ m)) ≡ bit (f a) + count f (l ++ m)
  count_between f l a m = omega (arith, count_append f l (a ∷ m), count_append f l m)

  pub count_none : (f : A → Bool) (l : List A) → ((a : A) → a ∈ l → f a ≡ false) → count f l ≡ 0
  count_none f [] h = refl
  count_none f (a ∷ l) h = omega (arith, ap bit (h a here), count_none f l (λ b m. h b (there m)))

  pub count_same : (f g : A → Bool) (l : List A) → ((a : A) → a ∈ l → f a ≡ g a) → count f l ≡ count g l
  count_same f g [] h = refl
  count_same f g (a ∷ l) h = omega (arith, ap bit (h a here), count_same f g l (λ b m. h b (there m)))

  -- of two tests, of which the second holds where the first does
  pub count_less : (f g : A → Bool) (l : List A) → ((a : A) → T (f a) → T (g a)) → count f l ≤ count g l
  count_less f g [] h = omega arith
  count_less f g (a ∷ l) h = omega (arith, bit_less (f a) (g a) (h a), count_less f g l h)

  pub count_fewer : (f g : A → Bool) (l : List A) → ((a : A) → T (f a) → T (g a)) → (a : A) → a ∈ l → T (g a) → f a ≡ false → count f l < count g l
  count_fewer f g [] h a m k e = elim m [ ]
  count_fewer f g (b ∷ l) h a here k e = omega (arith, ap bit e, ap bit (true_is (g b) k), count_less f g l h)
  count_fewer f g (b ∷ l) h a (there m) k e = omega (arith, bit_less (f b) (g b) (h b), count_fewer f g l h a m k e)

  pub count_length : (f : A → Bool) (l : List A) → count f l ≤ length l
  count_length f [] = omega arith
  count_length f (a ∷ l) = omega (arith, bit_most (f a), count_length f l)

  pub none_of_count : (f : A → Bool) (l : List A) → count f l ≤ 0 → (a : A) → a ∈ l → T (f a) → ⊥
  none_of_count f [] h a m k = elim m [ ]
  none_of_count f (b ∷ l) h a here k = absurd (omega (arith, h, ap bit (true_is (f b) k)))
  none_of_count f (b ∷ l) h a (there m) k = none_of_count f l (omega (arith, h)) a m k

  pub some_append : (f : A → Bool) (l m : List A) → some f (l ++ m) ≡ some f l || some f m
  some_append f [] m = refl
  some_append f (a ∷ l) m = ap (λ b. f a || b) (some_append f l m) ∙ or_assoc (f a) (some f l) (some f m)

  -- an element put between two lists
  pub in_between : {b : A} (l : List A) (a : A) (m : List A) → b ∈ (l ++ m) → b ∈ (l ++ (a ∷ m))
  in_between l a m h = ⊎_elim (in_left (a ∷ m)) (λ k. in_right l (there k)) (in_append l h)

  pub at_between : (l : List A) (a : A) (m : List A) → a ∈ (l ++ (a ∷ m))
  at_between l a m = in_right l here

  pub or_between : {b : A} (l : List A) (a : A) (m : List A) → b ∈ (l ++ (a ∷ m)) → (b ≡ a) ⊎ (b ∈ (l ++ m))
  or_between [] a m here = inl refl
  or_between [] a m (there h) = inr h
  or_between (c ∷ l) a m here = inr here
  or_between (c ∷ l) a m (there h) = ⊎_elim inl (λ k. inr (there k)) (or_between l a m h)

  pub some_count : (f : A → Bool) (l : List A) → some f l ≡ ltb 0 (count f l)
  some_count f [] = refl
  some_count f (a ∷ l) = go (f a) (some_count f l)
    where
      go : (b : Bool) → some f l ≡ ltb 0 (count f l) → b || some f l ≡ ltb 0 (bit b + count f l)
      go true e = sym (lt-ltb 0 (1 + count f l) (omega arith))
      go false e = e ∙ ap (ltb 0) (sym (zero-add (count f l)))
