-- Laws of elements that sink one after the other: all are kept and no others come in, and the same happens to what a function makes of them.
use Rattle.std.proofs.Common.{◌≡◌, suc, ◌+◌, Bool, true, false, ◌&&◌, cond, List, [], ◌∷◌, ◌++◌, map, length, refl, sym, ap, subst, ◌∙◌, ◌⊎◌, inl, inr, ⊎_elim, arith}
use Rattle.whole.specs.Count.{every, ◌∈◌, here, there}
use Rattle.whole.proofs.Logic.{in_nil, in_cons}
use Rattle.scene_writing.specs.Settled.{sink, settle}

module _ {A : Type 0} (less : A → A → Bool) where
  -- the choice at the first element
  abbrev pub put : Bool → A → A → List A → List A → List A
  put t a b l more = cond t (a ∷ b ∷ l) (b ∷ more)

  pub sink_members : (a : A) (l : List A) {c : A} → c ∈ sink less a l → c ∈ (a ∷ l)
  sink_members a [] m = m
  sink_members a (b ∷ l) {c} m = go (every (less a) (b ∷ l)) m (sink_members a l)
    where
      over : c ∈ (a ∷ l) → c ∈ (a ∷ b ∷ l)
      over k = ⊎_elim (λ e. subst (λ (x : A). x ∈ (a ∷ b ∷ l)) (sym e) here) (λ n. there (there n)) (in_cons k)

      go : (t : Bool) → c ∈ put t a b l (sink less a l) → (c ∈ sink less a l → c ∈ (a ∷ l)) → c ∈ (a ∷ b ∷ l)
      go true m later = m
      go false m later = ⊎_elim (λ e. subst (λ (x : A). x ∈ (a ∷ b ∷ l)) (sym e) (there here)) (λ k. over (later k)) (in_cons m)

  pub sink_keeps : (a : A) (l : List A) {c : A} → c ∈ (a ∷ l) → c ∈ sink less a l
  sink_keeps a [] m = m
  sink_keeps a (b ∷ l) {c} m = go (every (less a) (b ∷ l)) (sink_keeps a l)
    where
      go : (t : Bool) → (c ∈ (a ∷ l) → c ∈ sink less a l) → c ∈ put t a b l (sink less a l)
      go true later = m
      go false later =
          ⊎_elim (λ e. there (later (subst (λ (x : A). x ∈ (a ∷ l)) (sym e) here)))
          (λ k. ⊎_elim (λ e. subst (λ (x : A). x ∈ (b ∷ sink less a l)) (sym e) here) (λ n. there (later (there n))) (in_cons k)) (in_cons m)

  pub sink_length : (a : A) (l : List A) → length (sink less a l) ≡ suc (length l)
  sink_length a [] = refl
  sink_length a (b ∷ l) = go (every (less a) (b ∷ l)) (sink_length a l)
    where
      go : (t : Bool) → length (sink less a l) ≡ suc (length l) → length (put t a b l (sink less a l)) ≡ suc (suc (length l))
      go true e = refl
      go false e = ap suc e

  pub settle_members : (l rest : List A) {c : A} → c ∈ settle less l rest → (c ∈ l) ⊎ (c ∈ rest)
  settle_members l [] m = inl m
  settle_members l (a ∷ rest) {c} m =
      ⊎_elim
      (λ k. ⊎_elim (λ e. inr (subst (λ (x : A). x ∈ (a ∷ rest)) (sym e) here)) inl (in_cons (sink_members a l k)))
      (λ k. inr (there k)) (settle_members (sink less a l) rest m)

  pub settle_keeps : (l rest : List A) {c : A} → (c ∈ l) ⊎ (c ∈ rest) → c ∈ settle less l rest
  settle_keeps l [] {c} m = ⊎_elim (λ k. k) (λ k. absurd (in_nil k)) m
  settle_keeps l (a ∷ rest) {c} m = settle_keeps (sink less a l) rest (⊎_elim (λ k. inl (sink_keeps a l (there k))) new m)
    where
      new : c ∈ (a ∷ rest) → (c ∈ sink less a l) ⊎ (c ∈ rest)
      new k = ⊎_elim (λ e. inl (sink_keeps a l (subst (λ (x : A). x ∈ (a ∷ l)) (sym e) here))) inr (in_cons k)

  pub settle_length : (l rest : List A) → length (settle less l rest) ≡ length l + length rest
  settle_length l [] = omega arith
  settle_length l (a ∷ rest) = settle_length (sink less a l) rest ∙ omega (arith, sink_length a l)

  pub settle_append : (l xs ys : List A) → settle less l (xs ++ ys) ≡ settle less (settle less l xs) ys
  settle_append l [] ys = refl
  settle_append l (x ∷ xs) ys = settle_append (sink less x l) xs ys

-- ---- what a function makes of them

module _ {A B : Type 0} (f : A → B) (less : B → B → Bool) where
  abbrev through : A → A → Bool
  through a b = less (f a) (f b)

  every_map : (p : B → Bool) (l : List A) → every (λ a. p (f a)) l ≡ every p (map f l)
  every_map p [] = refl
  every_map p (a ∷ l) = ap (λ (t : Bool). p (f a) && t) (every_map p l)

  sink_map : (a : A) (l : List A) → map f (sink through a l) ≡ sink less (f a) (map f l)
  sink_map a [] = refl
  sink_map a (b ∷ l) =
      go (every (through a) (b ∷ l)) (sink_map a l) ∙ ap (λ (t : Bool). put less t (f a) (f b) (map f l) (sink less (f a) (map f l))) (every_map (less (f a)) (b ∷ l))
    where
      go : (t : Bool) → map f (sink through a l) ≡ sink less (f a) (map f l)
          → map f (put through t a b l (sink through a l)) ≡ put less t (f a) (f b) (map f l) (sink less (f a) (map f l))
      go true e = refl
      go false e = ap (λ (r : List B). f b ∷ r) e

  pub settle_map : (l rest : List A) → map f (settle through l rest) ≡ settle less (map f l) (map f rest)
  settle_map l [] = refl
  settle_map l (a ∷ rest) = settle_map (sink through a l) rest ∙ ap (λ (m : List B). settle less m (map f rest)) (sink_map a l)
