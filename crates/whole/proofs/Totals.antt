-- Sums over lists: of two values, of values that agree, over an appended list, over an image, and over what a test keeps.
use mathlib.Core.Path.{◌≡◌, refl, sym, ap, ap₂, ◌∙◌}
use mathlib.Core.Bool.{Bool, true, false, cond}
use mathlib.Core.List.{List, [], ◌∷◌, ◌++◌, map}
use lib.IntN.{ℤ, pos, ◌+ℤ◌, +ℤ_idl, +ℤ_assoc}
use Rattle.whole.specs.Count.{◌∈◌, here, there, total}
use Rattle.whole.proofs.Ring.{add_left_comm}
use Rattle.whole.proofs.Sorted.{kept}

add_swap : (a b c d : ℤ) → (a +ℤ b) +ℤ (c +ℤ d) ≡ (a +ℤ c) +ℤ (b +ℤ d)
add_swap a b c d = +ℤ_assoc a b (c +ℤ d) ∙ ap (λ x. a +ℤ x) (add_left_comm b c d) ∙ sym (+ℤ_assoc a c (b +ℤ d))

module _ {A : Type 0} where
  pub total_add : (f g : A → ℤ) (l : List A) → total f l +ℤ total g l ≡ total (λ a. f a +ℤ g a) l
  total_add f g [] = refl
  total_add f g (a ∷ l) = add_swap (f a) (total f l) (g a) (total g l) ∙ ap (λ z. (f a +ℤ g a) +ℤ z) (total_add f g l)

  pub total_same : (f g : A → ℤ) (l : List A) → ((a : A) → a ∈ l → f a ≡ g a) → total f l ≡ total g l
  total_same f g [] h = refl
  total_same f g (a ∷ l) h = ap₂ ◌+ℤ◌ (h a here) (total_same f g l (λ b m. h b (there m)))

  pub total_append : (f : A → ℤ) (l m : List A) → total f (l ++ m) ≡ total f l +ℤ total f m
  total_append f [] m = sym (+ℤ_idl (total f m))
  total_append f (a ∷ l) m = ap (λ z. f a +ℤ z) (total_append f l m) ∙ sym (+ℤ_assoc (f a) (total f l) (total f m))

  -- what is nothing where the test fails
  pub total_kept : (f : A → ℤ) (q : A → Bool) (l : List A) → ((a : A) → a ∈ l → q a ≡ false → f a ≡ pos 0) → total f l ≡ total f (kept q l)
  total_kept f q [] h = refl
  total_kept f q (a ∷ l) h = go (q a) refl (total_kept f q l (λ b m. h b (there m)))
    where
      go : (t : Bool) → q a ≡ t → total f l ≡ total f (kept q l) → f a +ℤ total f l ≡ total f (cond t (a ∷ kept q l) (kept q l))
      go true e later = ap (λ z. f a +ℤ z) later
      go false e later = ap (λ z. z +ℤ total f l) (h a here e) ∙ +ℤ_idl (total f l) ∙ later

pub total_map : {A B : Type 0} (g : A → B) (f : B → ℤ) (l : List A) → total f (map g l) ≡ total (λ a. f (g a)) l
total_map g f [] = refl
total_map g f (a ∷ l) = ap (λ z. f (g a) +ℤ z) (total_map g f l)
