-- The answer: of the flags that a pattern wants it is that of all flags; and it is not wrong in points.
use Rattle.std.specs.Prelude.{Err, Ok}
use Rattle.scene.specs.Read.{CheckedScene}
use Rattle.flags_vectors.specs.Vectors.{SceneAnswer, with_vectors}
use Rattle.cells_pattern.specs.Related.{RelateAnswer}
use Prim.Native.Nat.{ℕ, ◌^◌}
use native.Mathlib.Omega.{arith}
use mathlib.Core.Path.{◌≡◌, refl, sym, ap, ap₂, subst, ◌∙◌, fun_ext}
use mathlib.Core.Logic.{◌↔◌, ⊎_elim}
use mathlib.Core.Bool.{Bool, true, false, ◌&&◌, ◌||◌, cond}
use mathlib.Core.List.{List}
use lib.Dec.{T, eqb, eqb→eq}
use lib.ListN.{length, get_or}
use borrow.Author.Tests.{eqb-true, eq-eqb, not-false}
use Rattle.whole.specs.Count.{◌∈◌, here, there, every, odd}
use Rattle.whole.proofs.Logic.{is_true, refute, and_left, or_cases, every_at, every_make, some_make}
use Rattle.plane.specs.Plane.{FractionPoint}
use Rattle.plane_dimensions.specs.declared.Dimension.{Dimension}
use Rattle.plane_dimensions.specs.declared.Dimension.TheVariants.{Empty, Points, Length, Area}
use Rattle.plane_dimensions.specs.Dimensions.{Value, sign, not_empty}
use Rattle.plane_dimensions.proofs.Values.{some_point, only_one}
use Rattle.scene.specs.declared.Scene.{Scene}
use Rattle.scene.specs.declared.Refusal.{Refusal}
use Rattle.scene.specs.Conditions.{indices, check_scene}
use Rattle.scene.proofs.Indices.{in_indices}
use Rattle.check_verdict.specs.Refusals.{Verdict, settle}
use Rattle.check_verdict.specs.SharedPoints.{CheckedMeans}
use Rattle.flags.specs.Flags.{has_bit}
use Rattle.flags.proofs.Marks.{gather_bit}
use Rattle.flags_masks.specs.declared.Wanted.{Wanted}
use Rattle.flags_masks.proofs.Cells.{cells_tidy}
use Rattle.flags_vectors.specs.declared.Vectors.{Vectors}
use Rattle.flags_vectors.specs.Vectors.{vectors_in, answer_of}
use Rattle.flags_vectors.proofs.Answered.{accepted, was_refused, was_taken}
use Rattle.cells_matrix.specs.Matrix.{Part, interior, boundary, exterior, parts, cell_at}
use Rattle.cells.specs.Explored.{explored_by, explored_in, matrix_from, InCell}
use Rattle.cells.proofs.Taken.{cells_right}
use Rattle.cells_pattern.specs.Pattern.{must_be, either, is_sign, is_character, fits, Demands, position, character_for, fits_all}
use Rattle.cells_pattern.specs.Asked.{pattern_verdict, asks, named_cell, named_cells, asked_cells}
use Rattle.cells_pattern.specs.Related.{check_relate, answered, relate_of, relate_values, NoPatternWrong}
use Rattle.cells_pattern.proofs.Checked.{after_scene_lem, taken_scene, relate_means, its_characters, has_characters, of_nine}
use Rattle.cells_pattern.proofs.ReadOff.{asked_kept, always_area, small}

part_in : (r : Part) → r ∈ parts
part_in interior = here
part_in boundary = there here
part_in exterior = there (there here)

-- ---- a pattern and two matrices

module _ (p : List ℕ) where
  -- a matrix that fits fits everywhere, and the other way round
  fits_at : (m : List (List Dimension)) → T (fits_all p m) → (r c : Part) → T (fits (character_for p r c) (cell_at m r c))
  unfolding fits_all
  fits_at m t r c =
      every_at (λ c. fits (character_for p r c) (cell_at m r c)) (every_at (λ r. every (λ c. fits (character_for p r c) (cell_at m r c)) parts) t (part_in r)) (part_in c)

  fits_by : (m : List (List Dimension)) → ((r c : Part) → T (fits (character_for p r c) (cell_at m r c))) → T (fits_all p m)
  unfolding fits_all
  fits_by m h =
      every_make (λ r. every (λ c. fits (character_for p r c) (cell_at m r c)) parts) parts (λ r _. every_make (λ c. fits (character_for p r c) (cell_at m r c)) parts (λ c _. h r c))

  alike : (m n : List (List Dimension)) → ((r c : Part) → fits (character_for p r c) (cell_at m r c) ≡ fits (character_for p r c) (cell_at n r c)) → fits_all p m ≡ fits_all p n
  unfolding fits_all
  alike m n h = ap (λ (f : Part → Part → Bool). every (λ r. every (f r) parts) parts) (fun_ext (λ r. fun_ext (λ c. h r c)))

  -- where EE does not fit, nothing else matters
  pub misfit : fits (get_or p 8 0) Area ≡ false → (m : List (List Dimension)) → cell_at m exterior exterior ≡ Area → fits_all p m ≡ false
  misfit e m is = refute (fits_all p m) (λ t. subst T (ap (fits (get_or p 8 0)) is ∙ e) (fits_at m t exterior exterior))

-- ---- the cells that a pattern asks

any_fits : (c : ℕ) → c ≡ either → (x y : Dimension) → fits c x ≡ fits c y
any_fits c e x y = subst (λ k. fits k x ≡ fits k y) (sym e) refl

own_bit : (r c : Part) → T (has_bit (2 ^ position r c) (position r c))
unfolding has_bit odd
own_bit interior interior = tt
own_bit interior boundary = tt
own_bit interior exterior = tt
own_bit boundary interior = tt
own_bit boundary boundary = tt
own_bit boundary exterior = tt
own_bit exterior interior = tt
own_bit exterior boundary = tt
own_bit exterior exterior = tt

asked_bit : (p : List ℕ) (r c : Part) → asks (character_for p r c) ≡ true → T (has_bit (named_cells p) (position r c))
asked_bit p r c e =
    let k = position r c in
    subst T (sym (gather_bit (named_cell p) (indices 9 0) k))
    (some_make (λ i. has_bit (named_cell p i) k) (in_indices 9 0 k (omega arith) (omega (arith, small r c))) (subst (λ b. T (has_bit (cond b (2 ^ k) 0) k)) (sym e) (own_bit r c)))

module _ (s p : List ℕ) (sc : Scene) (taken : check_scene s ≡ Ok sc) where
  abbrev whole : List (List Dimension)
  whole = matrix_from (explored_in s sc)

  abbrev read : ℕ → List (List Dimension)
  read cells = matrix_from (explored_by sc (vectors_in s sc (Wanted.Cells cells)))

  -- the matrix of the flags that are wanted fits exactly if that of all flags does
  same_fit : length p ≡ 9 → fits_all p (read (asked_cells p)) ≡ fits_all p whole
  unfolding asked_cells
  same_fit nine =
      ap (λ a. fits_all p (read (cond (a && fits (get_or p 8 0) Area) (named_cells p) 0))) (eq-eqb (length p) 9 nine)
      ∙ go (fits (get_or p 8 0) Area) refl
    where
      each : (r c : Part) (b : Bool) → asks (character_for p r c) ≡ b
          → fits (character_for p r c) (cell_at (read (named_cells p)) r c) ≡ fits (character_for p r c) (cell_at whole r c)
      each r c true e = ap (fits (character_for p r c)) (asked_kept s sc (accepted s sc taken).taken.by_types (named_cells p) r c (asked_bit p r c e))
      each r c false e = any_fits (character_for p r c) (eqb-true (character_for p r c) either (not-false _ e)) (cell_at (read (named_cells p)) r c) (cell_at whole r c)

      go : (b : Bool) → fits (get_or p 8 0) Area ≡ b → fits_all p (read (cond b (named_cells p) 0)) ≡ fits_all p whole
      go true e = alike p (read (named_cells p)) whole (λ r c. each r c (asks (character_for p r c)) refl)
      go false e = misfit p e (read 0) (always_area sc (vectors_in s sc (Wanted.Cells 0))) ∙ sym (misfit p e whole (always_area sc (vectors_in s sc Wanted.All)))

-- ---- what fits is a pattern

fits_character : (c : ℕ) (d : Dimension) → T (fits c d) → T (is_character c)
fits_character c d t = go (eqb c must_be) (is_sign c) (eqb c either) t
  where
    go : (a b e : Bool) → T (cond a (not_empty d) (cond b (eqb c (sign d)) e)) → T (a || b || e)
    go true b e t = tt
    go false true e t = tt
    go false false e t = t

fitting : (p : List ℕ) (m : List (List Dimension)) → length p ≡ 9 → T (fits_all p m) → pattern_verdict p ≡ Ok tt
fitting p m nine t =
    has_characters p nine
    (of_nine (λ i. T (is_character (get_or p i 0))) (at interior interior) (at interior boundary) (at interior exterior) (at boundary interior) (at boundary boundary) (at boundary exterior) (at exterior interior) (at exterior boundary) (at exterior exterior))
  where
    at : (r c : Part) → T (is_character (character_for p r c))
    at r c = fits_character (character_for p r c) (cell_at m r c) (fits_at p m t r c)

-- ---- in points

-- a sign is one value's
sign_of : (c : ℕ) → T (is_sign c) → (d : Dimension) × (c ≡ sign d)
sign_of c t = ⊎_elim (λ t. ⊎_elim (λ t. ⊎_elim (is Empty) (is Points) (or_cases (eqb c 70) (eqb c 48) t)) (is Length) (or_cases (eqb c 70 || eqb c 48) (eqb c 49) t)) (is Area) (or_cases (eqb c 70 || eqb c 48 || eqb c 49) (eqb c 50) t)
  where
    is : (d : Dimension) → T (eqb c (sign d)) → (d : Dimension) × (c ≡ sign d)
    is d t = (d, eqb→eq c (sign d) t)

-- so that it fits that value alone
sign_fits : (d e : Dimension) → T (fits (sign d) e) → d ≡ e
sign_fits Empty Empty t = refl
sign_fits Empty Points t = absurd t
sign_fits Empty Length t = absurd t
sign_fits Empty Area t = absurd t
sign_fits Points Empty t = absurd t
sign_fits Points Points t = refl
sign_fits Points Length t = absurd t
sign_fits Points Area t = absurd t
sign_fits Length Empty t = absurd t
sign_fits Length Points t = absurd t
sign_fits Length Length t = refl
sign_fits Length Area t = absurd t
sign_fits Area Empty t = absurd t
sign_fits Area Points t = absurd t
sign_fits Area Length t = absurd t
sign_fits Area Area t = refl

module _ (A : FractionPoint → Type 0) (d : Dimension) (value : Value d A) where
  fits_means : (c : ℕ) → T (is_character c) → T (fits c d) ↔ Demands c A
  fits_means c is = (to, from)
    where
      to : T (fits c d) → Demands c A
      to t = (λ e. (some_point A d value).0 (subst (λ k. T (fits k d)) e t), λ x e. subst (λ y. Value y A) (sym (sign_fits x d (subst (λ k. T (fits k d)) e t))) value)

      from : Demands c A → T (fits c d)
      from h = go (eqb c must_be) (is_sign c) refl refl
        where
          go : (a b : Bool) → eqb c must_be ≡ a → is_sign c ≡ b → T (cond a (not_empty d) (cond b (eqb c (sign d)) (eqb c either)))
          go true b e q = (some_point A d value).1 (h.0 (eqb-true c must_be e))
          go false true e q = let x = sign_of c (is_true _ q) in is_true (eqb c (sign d)) (eq-eqb c (sign d) (x.1 ∙ ap sign (only_one A x.0 d (h.1 x.0 x.1) value)))
          go false false e q = subst T (ap₂ (λ a b. a || b || eqb c either) e q) is

pattern_right : (s p : List ℕ) (sc : Scene) → check_scene s ≡ Ok sc → pattern_verdict p ≡ Ok tt
    → T (fits_all p (matrix_from (explored_in s sc))) ↔ ((r c : Part) → Demands (character_for p r c) (InCell s sc r c))
pattern_right s p sc taken good = (λ t r c. (means r c).0 (fits_at p m t r c), λ d. fits_by p m (λ r c. (means r c).1 (d r c)))
  where
    m : List (List Dimension)
    m = matrix_from (explored_in s sc)

    means : (r c : Part) → T (fits (character_for p r c) (cell_at m r c)) ↔ Demands (character_for p r c) (InCell s sc r c)
    means r c = fits_means (InCell s sc r c) (cell_at m r c) (cells_right s sc (accepted s sc taken) r c) (character_for p r c) ((its_characters p good).1 (position r c) (small r c))

-- ---- the answer

module _ (s p : List ℕ) where
  no_pattern_wrong : NoPatternWrong s p (relate_values (relate_of s p)).holds
  unfolding relate_of
  no_pattern_wrong sc e =
      let taken = taken_scene s p sc e in
      subst (λ (x : CheckedScene). T (relate_values (answered s p x)).holds ↔ ((r c : Part) → Demands (character_for p r c) (InCell s sc r c)))
      (sym e) (pattern_right s p sc taken.0 taken.1)

  -- as the contract says it of its result
  abbrev Whole : RelateAnswer → Type 0
  Whole x = (x ≡ relate_of s p) × NoPatternWrong s p (relate_values x).holds × CheckedMeans s (check_relate s p)

  as_related : (k : CheckedScene) → check_relate s p ≡ k → {x : RelateAnswer} → x ≡ answered s p k → Whole x
  unfolding relate_of
  as_related k e {x} q =
      let is : x ≡ answered s p (check_relate s p) = q ∙ ap (answered s p) (sym e) in
      (is, subst (λ (x : RelateAnswer). NoPatternWrong s p (relate_values x).holds) (sym is) no_pattern_wrong, relate_means s p)

  module _ (sc : Scene) (e : check_scene s ≡ Ok sc) where
    abbrev held : Bool
    held = fits_all p (matrix_from (explored_in s sc))

    holding : pattern_verdict p ≡ Ok tt → {holds : Bool} → holds ≡ held → Whole (Ok holds)
    holding good h = as_related (Ok sc) (after_scene_lem s p ∙ rw (e, good)) (ap Ok h)

    -- where the matrix does not fit, the pattern is refused or the answer is no
    not_holding : (pattern_verdict p ≡ Ok tt → held ≡ false) → {o : RelateAnswer} → o ≡ settle Err (pattern_verdict p) (Ok false) → Whole o
    not_holding misfits {o} x = go (pattern_verdict p) refl x
      where
        go : (v : Verdict) → pattern_verdict p ≡ v → o ≡ settle Err v (Ok false) → Whole o
        go (Err r) q x = as_related (Err r) (after_scene_lem s p ∙ rw (e, q)) x
        go (Ok tt) q x = subst Whole (sym x) (holding q (sym (misfits q)))

  module _ {a : SceneAnswer} (is : a ≡ answer_of s (Wanted.Cells (asked_cells p))) where
    pub scene_refused : (r : Refusal) → a ≡ Err r → {o : RelateAnswer} → o ≡ Err r → Whole o
    scene_refused r e x = as_related (Err r) (after_scene_lem s p ∙ rw (was_refused (Wanted.Cells (asked_cells p)) (cells_tidy (asked_cells p)) s is r e)) x

    module _ (sc : Scene) (v : Vectors) (e : a ≡ Ok (with_vectors sc v)) {b : Bool} (h : b ≡ (eqb (length p) 9 && fits_all p (matrix_from (explored_by sc v)))) where
      its : (check_scene s ≡ Ok sc) × (v ≡ vectors_in s sc (Wanted.Cells (asked_cells p)))
      its = was_taken (Wanted.Cells (asked_cells p)) (cells_tidy (asked_cells p)) s is sc v e

      is_held : length p ≡ 9 → b ≡ held sc its.0
      is_held nine =
          h
          ∙ ap₂ ◌&&◌ (eq-eqb (length p) 9 nine) (ap (λ (v : Vectors). fits_all p (matrix_from (explored_by sc v))) its.1 ∙ same_fit s p sc its.0 nine)

      pub holds : b ≡ true → Whole (Ok true)
      holds t =
          let nine = eqb→eq (length p) 9 (and_left (eqb (length p) 9) (fits_all p (matrix_from (explored_by sc v))) (is_true _ (sym h ∙ t))) in
          let yes = sym (is_held nine) ∙ t in
          holding sc its.0 (fitting p (matrix_from (explored_in s sc)) nine (is_true _ yes)) (sym yes)

      pub holds_not : b ≡ false → {o : RelateAnswer} → o ≡ settle Err (pattern_verdict p) (Ok false) → Whole o
      holds_not f x = not_holding sc its.0 (λ q. sym (is_held (its_characters p q).0) ∙ f) x
