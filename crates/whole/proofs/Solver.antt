-- A ring solver: two expressions over numbered variables denote equal whole numbers if their difference, multiplied out and collected, has
-- only zero coefficients. `solve ρ e₁ e₂ tt` proves an identity at the values ρ; only soundness is proved, and no more is needed.
use Prim.Native.Nat.{ℕ}
use mathlib.Core.Path.{◌≡◌, refl, sym, ap, ◌∙◌}
use mathlib.Core.Bool.{Bool, true, false, ◌&&◌}
use mathlib.Core.List.{List, [], ◌∷◌}
use lib.Dec.{T, leb, ltb, eqb, eqb→eq}
use lib.ListN.{get_or}
use lib.IntN.{ℤ, pos, negsuc, neg_ℤ, ◌+ℤ◌, ◌*ℤ◌, +ℤ_idl, +ℤ_idr, +ℤ_assoc, -ℤ-+ℤ_cancel, zero-*ℤ, *ℤ-zero, *ℤ_comm, neg_ℤ-+ℤ}
use Rattle.whole.specs.Count.{eq_z}
use Rattle.whole.proofs.Ring.{add_left_comm, distrib_right, distrib_left, mul_assoc, neg_mul, one-mul}

infixl 6 ◌:+◌ ◌:-◌
infixl 7 ◌:*◌
pub data Exp : Type 0 where
  var : ℕ → Exp
  con : ℤ → Exp
  ◌:+◌ : Exp → Exp → Exp
  ◌:*◌ : Exp → Exp → Exp
  opp : Exp → Exp

abbrev pub ◌:-◌ : Exp → Exp → Exp
a :- b = a :+ opp b

abbrev pub eval : List ℤ → Exp → ℤ
eval ρ (var i) = get_or ρ i (pos 0)
eval ρ (con c) = c
eval ρ (a :+ b) = eval ρ a +ℤ eval ρ b
eval ρ (a :* b) = eval ρ a *ℤ eval ρ b
eval ρ (opp a) = neg_ℤ (eval ρ a)

-- A polynomial: a sum of terms, each a coefficient and the variables of its monomial in rising order
pub data Poly : Type 0 where
  nil : Poly
  term : ℤ → List ℕ → Poly → Poly

pub data Order : Type 0 where
  less equal more : Order

-- ---- the normal form

abbrev pub lex_by : Bool → Bool → Order → Order
lex_by true e o = less
lex_by false true o = o
lex_by false false o = more

abbrev pub lex : List ℕ → List ℕ → Order
lex [] [] = equal
lex [] (j ∷ n) = less
lex (i ∷ m) [] = more
lex (i ∷ m) (j ∷ n) = lex_by (ltb i j) (eqb i j) (lex m n)

abbrev pub insert_var_by : Bool → ℕ → ℕ → List ℕ → List ℕ → List ℕ
insert_var_by true i j m r = i ∷ j ∷ m
insert_var_by false i j m r = j ∷ r

abbrev pub insert_var : ℕ → List ℕ → List ℕ
insert_var i [] = i ∷ []
insert_var i (j ∷ m) = insert_var_by (leb i j) i j m (insert_var i m)

abbrev pub mul_mono : List ℕ → List ℕ → List ℕ
mul_mono [] n = n
mul_mono (i ∷ m) n = insert_var i (mul_mono m n)

abbrev pub insert_by : Order → ℤ → List ℕ → ℤ → List ℕ → Poly → Poly → Poly
insert_by less c m d n p r = term c m (term d n p)
insert_by equal c m d n p r = term (c +ℤ d) n p
insert_by more c m d n p r = term d n r

abbrev pub insert_term : ℤ → List ℕ → Poly → Poly
insert_term c m nil = term c m nil
insert_term c m (term d n p) = insert_by (lex m n) c m d n p (insert_term c m p)

abbrev pub add_poly : Poly → Poly → Poly
add_poly nil q = q
add_poly (term c m p) q = insert_term c m (add_poly p q)

abbrev pub mul_term : ℤ → List ℕ → Poly → Poly
mul_term c m nil = nil
mul_term c m (term d n p) = insert_term (c *ℤ d) (mul_mono m n) (mul_term c m p)

abbrev pub mul_poly : Poly → Poly → Poly
mul_poly nil q = nil
mul_poly (term c m p) q = add_poly (mul_term c m q) (mul_poly p q)

abbrev pub neg_poly : Poly → Poly
neg_poly nil = nil
neg_poly (term c m p) = term (neg_ℤ c) m (neg_poly p)

abbrev pub norm : Exp → Poly
norm (var i) = term (pos 1) (i ∷ []) nil
norm (con c) = term c [] nil
norm (a :+ b) = add_poly (norm a) (norm b)
norm (a :* b) = mul_poly (norm a) (norm b)
norm (opp a) = neg_poly (norm a)

abbrev pub all_zero : Poly → Bool
all_zero nil = true
all_zero (term c m p) = eq_z c (pos 0) && all_zero p

abbrev pub same : Exp → Exp → Bool
same a b = all_zero (norm (a :- b))

-- ---- what a normal form denotes, and that each step keeps it

-- monomials that compare as equal are equal
abbrev IsEqual : Order → Type 0
IsEqual less = ⊥
IsEqual equal = Unit {0}
IsEqual more = ⊥

lex_both : (i j : ℕ) (m n : List ℕ) (a b : Bool) → (T b → i ≡ j) → (o : Order) → (IsEqual o → m ≡ n) → IsEqual (lex_by a b o) → ◌≡◌ {A = List ℕ} (i ∷ m) (j ∷ n)
lex_both i j m n true b f o g t = absurd t
lex_both i j m n false true f o g t = ap (λ (x : ℕ). x ∷ m) (f tt) ∙ ap (λ (x : List ℕ). j ∷ x) (g t)
lex_both i j m n false false f o g t = absurd t

lex_equal : (m n : List ℕ) → IsEqual (lex m n) → m ≡ n
lex_equal [] [] t = refl
lex_equal [] (j ∷ n) t = absurd t
lex_equal (i ∷ m) [] t = absurd t
lex_equal (i ∷ m) (j ∷ n) t = lex_both i j m n (ltb i j) (eqb i j) (eqb→eq i j) (lex m n) (lex_equal m n) t

module _ (ρ : List ℤ) where
  mono : List ℕ → ℤ
  mono [] = pos 1
  mono (i ∷ m) = get_or ρ i (pos 0) *ℤ mono m

  value : Poly → ℤ
  value nil = pos 0
  value (term c m p) = c *ℤ mono m +ℤ value p

  mul_left_comm : (a b c : ℤ) → a *ℤ (b *ℤ c) ≡ b *ℤ (a *ℤ c)
  mul_left_comm a b c = sym (mul_assoc a b c) ∙ ap (λ x. x *ℤ c) (*ℤ_comm a b) ∙ mul_assoc b a c

  insert_var_is : (i : ℕ) (m : List ℕ) → mono (insert_var i m) ≡ get_or ρ i (pos 0) *ℤ mono m
  unfolding mono
  insert_var_is i [] = refl
  insert_var_is i (j ∷ m) = go (leb i j) (insert_var_is i m)
    where
      go : (b : Bool) → mono (insert_var i m) ≡ get_or ρ i (pos 0) *ℤ mono m
          → mono (insert_var_by b i j m (insert_var i m)) ≡ get_or ρ i (pos 0) *ℤ (get_or ρ j (pos 0) *ℤ mono m)
      go true h = refl
      go false h = ap (λ x. get_or ρ j (pos 0) *ℤ x) h ∙ mul_left_comm (get_or ρ j (pos 0)) (get_or ρ i (pos 0)) (mono m)

  mul_mono_is : (m n : List ℕ) → mono (mul_mono m n) ≡ mono m *ℤ mono n
  unfolding mono
  mul_mono_is [] n = sym (one-mul (mono n))
  mul_mono_is (i ∷ m) n =
      insert_var_is i (mul_mono m n) ∙ ap (λ x. get_or ρ i (pos 0) *ℤ x) (mul_mono_is m n)
      ∙ sym (mul_assoc (get_or ρ i (pos 0)) (mono m) (mono n))

  insert_term_is : (c : ℤ) (m : List ℕ) (p : Poly) → value (insert_term c m p) ≡ c *ℤ mono m +ℤ value p
  unfolding value
  insert_term_is c m nil = refl
  insert_term_is c m (term d n p) = go (lex m n) (lex_equal m n) (insert_term_is c m p)
    where
      go : (o : Order) → (IsEqual o → m ≡ n) → value (insert_term c m p) ≡ c *ℤ mono m +ℤ value p
          → value (insert_by o c m d n p (insert_term c m p)) ≡ c *ℤ mono m +ℤ (d *ℤ mono n +ℤ value p)
      go less f h = refl
      go equal f h =
          ap (λ x. x +ℤ value p) (distrib_right c d (mono n)) ∙ +ℤ_assoc (c *ℤ mono n) (d *ℤ mono n) (value p)
          ∙ ap (λ x. c *ℤ mono x +ℤ (d *ℤ mono n +ℤ value p)) (sym (f tt))
      go more f h = ap (λ x. d *ℤ mono n +ℤ x) h ∙ add_left_comm (d *ℤ mono n) (c *ℤ mono m) (value p)

  add_poly_is : (p q : Poly) → value (add_poly p q) ≡ value p +ℤ value q
  unfolding value
  add_poly_is nil q = sym (+ℤ_idl (value q))
  add_poly_is (term c m p) q =
      insert_term_is c m (add_poly p q) ∙ ap (λ x. c *ℤ mono m +ℤ x) (add_poly_is p q)
      ∙ sym (+ℤ_assoc (c *ℤ mono m) (value p) (value q))

  mul_term_is : (c : ℤ) (m : List ℕ) (p : Poly) → value (mul_term c m p) ≡ (c *ℤ mono m) *ℤ value p
  unfolding value
  mul_term_is c m nil = sym (*ℤ-zero (c *ℤ mono m))
  mul_term_is c m (term d n p) =
      insert_term_is (c *ℤ d) (mul_mono m n) (mul_term c m p)
      ∙ ap (λ x. (c *ℤ d) *ℤ x +ℤ value (mul_term c m p)) (mul_mono_is m n)
      ∙ ap (λ x. (c *ℤ d) *ℤ (mono m *ℤ mono n) +ℤ x) (mul_term_is c m p)
      ∙ ap (λ x. x +ℤ (c *ℤ mono m) *ℤ value p) (swap c d (mono m) (mono n))
      ∙ sym (distrib_left (c *ℤ mono m) (d *ℤ mono n) (value p))
    where
      swap : (a b x y : ℤ) → (a *ℤ b) *ℤ (x *ℤ y) ≡ (a *ℤ x) *ℤ (b *ℤ y)
      swap a b x y = mul_assoc a b (x *ℤ y) ∙ ap (λ z. a *ℤ z) (mul_left_comm b x y) ∙ sym (mul_assoc a x (b *ℤ y))

  mul_poly_is : (p q : Poly) → value (mul_poly p q) ≡ value p *ℤ value q
  unfolding value
  mul_poly_is nil q = sym (zero-*ℤ (value q))
  mul_poly_is (term c m p) q =
      add_poly_is (mul_term c m q) (mul_poly p q) ∙ ap (λ x. x +ℤ value (mul_poly p q)) (mul_term_is c m q)
      ∙ ap (λ x. (c *ℤ mono m) *ℤ value q +ℤ x) (mul_poly_is p q)
      ∙ sym (distrib_right (c *ℤ mono m) (value p) (value q))

  neg_poly_is : (p : Poly) → value (neg_poly p) ≡ neg_ℤ (value p)
  unfolding value
  neg_poly_is nil = refl
  neg_poly_is (term c m p) =
      ap (λ x. x +ℤ value (neg_poly p)) (neg_mul c (mono m)) ∙ ap (λ x. neg_ℤ (c *ℤ mono m) +ℤ x) (neg_poly_is p)
      ∙ sym (neg_ℤ-+ℤ (c *ℤ mono m) (value p))

  norm_is : (e : Exp) → value (norm e) ≡ eval ρ e
  unfolding value mono
  norm_is (var i) = +ℤ_idr (pos 1 *ℤ (get_or ρ i (pos 0) *ℤ pos 1)) ∙ one-mul (get_or ρ i (pos 0) *ℤ pos 1) ∙ *ℤ_comm (get_or ρ i (pos 0)) (pos 1) ∙ one-mul (get_or ρ i (pos 0))
  norm_is (con c) = +ℤ_idr (c *ℤ pos 1) ∙ *ℤ_comm c (pos 1) ∙ one-mul c
  norm_is (a :+ b) = add_poly_is (norm a) (norm b) ∙ ap (λ x. x +ℤ value (norm b)) (norm_is a) ∙ ap (λ x. eval ρ a +ℤ x) (norm_is b)
  norm_is (a :* b) = mul_poly_is (norm a) (norm b) ∙ ap (λ x. x *ℤ value (norm b)) (norm_is a) ∙ ap (λ x. eval ρ a *ℤ x) (norm_is b)
  norm_is (opp a) = neg_poly_is (norm a) ∙ ap neg_ℤ (norm_is a)

  all_zero_is : (p : Poly) → T (all_zero p) → value p ≡ pos 0
  unfolding value
  all_zero_is nil t = refl
  all_zero_is (term c m p) t = go (eq_z c (pos 0)) (is_zero c) (all_zero_is p) t
    where
      is_zero : (c : ℤ) → T (eq_z c (pos 0)) → c ≡ pos 0
      is_zero (pos n) t = ap pos (eqb→eq n 0 t)
      is_zero (negsuc n) t = absurd t

      go : (b : Bool) → (T b → c ≡ pos 0) → (T (all_zero p) → value p ≡ pos 0) → T (b && all_zero p) → c *ℤ mono m +ℤ value p ≡ pos 0
      go true f g t = ap (λ x. x *ℤ mono m +ℤ value p) (f tt) ∙ ap (λ x. x +ℤ value p) (zero-*ℤ (mono m)) ∙ +ℤ_idl (value p) ∙ g t
      go false f g t = absurd t

-- Soundness
pub solve : (ρ : List ℤ) (a b : Exp) → T (same a b) → eval ρ a ≡ eval ρ b
solve ρ a b t =
    sym (-ℤ-+ℤ_cancel (eval ρ a) (eval ρ b))
    ∙ ap (λ x. x +ℤ eval ρ b) (sym (norm_is ρ (a :- b)) ∙ all_zero_is ρ (norm (a :- b)) t)
    ∙ +ℤ_idl (eval ρ b)

-- (a + b)² = a² + 2 a b + b²
square : (a b : ℤ) → (a +ℤ b) *ℤ (a +ℤ b) ≡ a *ℤ a +ℤ pos 2 *ℤ (a *ℤ b) +ℤ b *ℤ b
square a b =
    solve (a ∷ b ∷ []) ((var 0 :+ var 1) :* (var 0 :+ var 1)) (var 0 :* var 0 :+ con (pos 2) :* (var 0 :* var 1) :+ var 1 :* var 1) tt
