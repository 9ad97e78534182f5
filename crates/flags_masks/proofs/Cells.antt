-- The flags that cells are read off: all of them are flags of their pair of types, so that 9 finds nothing; and a set of cells wants each flag that one of its
-- cells is read off.
use Prim.Native.Nat.{ℕ, zero, suc, ◌+◌, ◌-◌, ◌*◌, ◌<◌}
use native.Mathlib.Omega.{arith}
use mathlib.Core.Path.{◌≡◌, refl, sym, ap, ap₂, subst, ◌∙◌}
use mathlib.Core.Bool.{Bool, true, false, not, ◌&&◌, ◌||◌, cond}
use mathlib.Core.List.{List, [], ◌∷◌}
use lib.Bits.{bit_and}
use lib.Dec.{T, eqb, eqb→eq}
use lib.ListN.{get_or}
use borrow.Author.Tests.{eq-eqb}
use Rattle.whole.specs.Count.{every, odd}
use Rattle.whole.proofs.Logic.{is_true, and_left, and_right, and_follows, some_find, some_make, true_is}
use Rattle.scene.specs.declared.Shape.{Shape}
use Rattle.scene.specs.declared.Shape.TheVariants.{Points, Line, Region}
use Rattle.scene.specs.declared.Scene.{Scene}
use Rattle.scene.specs.Read.{shape_number, turned}
use Rattle.scene.specs.Conditions.{indices}
use Rattle.scene.proofs.Indices.{in_indices}
use Rattle.flags.specs.Flags.{has_bit}
use Rattle.flags.proofs.Bits.{and_bit, same_number}
use Rattle.flags.proofs.Marks.{gather, gather_bit}
use Rattle.flags_masks.specs.declared.FlagMasks.{FlagMasks}
use Rattle.flags_masks.specs.declared.Wanted.{Wanted}
use Rattle.flags_masks.specs.Wanted.{mask_of_f, mask_of_g, cell_masks, place_in, cell_place, is_nothing, cell_masks_of, wanted_for_f, wanted_for_g, masks_for, has_stray, any_stray}

-- ---- the table has flags of the pair alone

module _ (f g : Shape) where
  abbrev all_f : ℕ
  all_f = mask_of_f (shape_number f) (shape_number g)

  abbrev all_g : ℕ
  all_g = mask_of_g (shape_number f) (shape_number g)

  abbrev row : List (ℕ × ℕ)
  row = get_or cell_masks ((shape_number f - 1) * 3 + (shape_number g - 1)) []

  abbrev is_part : ℕ × ℕ → Bool
  is_part m = eqb (bit_and m.0 all_f) m.0 && eqb (bit_and m.1 all_g) m.1

parts_of : (f g : Shape) → T (every (is_part f g) (row f g))
parts_of Points Points = tt
parts_of Points Line = tt
parts_of Points Region = tt
parts_of Line Points = tt
parts_of Line Line = tt
parts_of Line Region = tt
parts_of Region Points = tt
parts_of Region Line = tt
parts_of Region Region = tt

every_get_d : {A : Type 0} (ok : A → Bool) (d : A) → T (ok d) → (l : List A) → T (every ok l) → (i : ℕ) → T (ok (get_or l i d))
every_get_d ok d t [] e i = t
every_get_d ok d t (a ∷ l) e zero = and_left (ok a) (every ok l) e
every_get_d ok d t (a ∷ l) e (suc i) = every_get_d ok d t l (and_right (ok a) (every ok l) e) i

none_part : (f g : Shape) → T (is_part f g (0, 0))
none_part f g = tt

-- ---- all nine cells have all of them, in either order of the objects, and nothing wanted has none

every_cell : (turned : Bool) (f g : Shape)
    → (gather (λ at. cond (has_bit 511 at) (get_or (row f g) (place_in turned at) (0, 0)).0 0) (indices 9 0) ≡ all_f f g)
    × (gather (λ at. cond (has_bit 511 at) (get_or (row f g) (place_in turned at) (0, 0)).1 0) (indices 9 0) ≡ all_g f g)
unfolding has_bit odd
every_cell true Points Points = (refl, refl)
every_cell true Points Line = (refl, refl)
every_cell true Points Region = (refl, refl)
every_cell true Line Points = (refl, refl)
every_cell true Line Line = (refl, refl)
every_cell true Line Region = (refl, refl)
every_cell true Region Points = (refl, refl)
every_cell true Region Line = (refl, refl)
every_cell true Region Region = (refl, refl)
every_cell false Points Points = (refl, refl)
every_cell false Points Line = (refl, refl)
every_cell false Points Region = (refl, refl)
every_cell false Line Points = (refl, refl)
every_cell false Line Line = (refl, refl)
every_cell false Line Region = (refl, refl)
every_cell false Region Points = (refl, refl)
every_cell false Region Line = (refl, refl)
every_cell false Region Region = (refl, refl)

abbrev pub of_both : ℕ → ℕ → FlagMasks
of_both f g = record { f = f; g = g }

pub every_cell_is_all : (sc : Scene) → masks_for Wanted.All sc ≡ masks_for (Wanted.Cells 511) sc
unfolding masks_for
every_cell_is_all sc =
    let e = every_cell (turned sc) sc.f.shape sc.g.shape in
    sym (ap₂ of_both e.0 e.1)

in_either_order : (turned : Bool) → of_both (cond turned 0 0) (cond turned 0 0) ≡ of_both 0 0
in_either_order true = refl
in_either_order false = refl

no_number : (n : ℕ) → T (eqb n 0) → n ≡ 0
no_number n = eqb→eq n 0

pub none_wanted : (wanted : Wanted) → is_nothing wanted ≡ true → (sc : Scene) → masks_for wanted sc ≡ of_both 0 0
unfolding masks_for has_bit odd
none_wanted (Wanted.These masks) e sc =
    let none = is_true (eqb masks.f 0 && eqb masks.g 0) e in
    ap₂ (λ f g. of_both (cond (turned sc) g f) (cond (turned sc) f g)) (no_number masks.f (and_left (eqb masks.f 0) (eqb masks.g 0) none)) (no_number masks.g (and_right (eqb masks.f 0) (eqb masks.g 0) none))
    ∙ in_either_order (turned sc)
none_wanted Wanted.All e sc = absurd (subst T (sym e) tt)
none_wanted (Wanted.Cells cells) e sc =
    ap (λ c. of_both (gather (wanted_for_f sc c) (indices 9 0)) (gather (wanted_for_g sc c) (indices 9 0))) (no_number cells (is_true (eqb cells 0) e))

-- ---- what some cells want

-- numbers whose bits are all of another, together
module _ (all : ℕ) (f : ℕ → ℕ) (part : (i : ℕ) → bit_and (f i) all ≡ f i) (l : List ℕ) where
  gathered_within : bit_and (gather f l) all ≡ gather f l
  gathered_within = same_number (bit_and (gather f l) all) (gather f l) (λ k. and_bit (gather f l) all k ∙ and_follows (has_bit (gather f l) k) (has_bit all k) (within k))
    where
      within : (k : ℕ) → T (has_bit (gather f l) k) → T (has_bit all k)
      within k t =
          let w = some_find (λ i. has_bit (f i) k) l (subst T (gather_bit f l k) t) in
          and_right (has_bit (f w.0) k) (has_bit all k) (subst T (ap (λ n. has_bit n k) (sym (part w.0)) ∙ and_bit (f w.0) all k) w.2)

tidy_by : (all mask : ℕ) → bit_and mask all ≡ mask → has_stray all mask ≡ false
unfolding has_stray
tidy_by all mask e = ap not (eq-eqb (bit_and mask all) mask e)

chosen : (b : Bool) (all m : ℕ) → bit_and m all ≡ m → bit_and (cond b m 0) all ≡ cond b m 0
chosen true all m e = e
chosen false all m e = refl

module _ (cells : ℕ) (sc : Scene) where
  abbrev F : Shape
  F = sc.f.shape

  abbrev G : Shape
  G = sc.g.shape

  part_at : (i : ℕ) → T (is_part F G (cell_masks_of sc i))
  part_at i = every_get_d (is_part F G) (0, 0) (none_part F G) (row F G) (parts_of F G) (cell_place sc i)

  part_f : (i : ℕ) → bit_and (wanted_for_f sc cells i) (all_f F G) ≡ wanted_for_f sc cells i
  part_f i =
      let m = cell_masks_of sc i in
      chosen (has_bit cells i) (all_f F G) m.0 (eqb→eq _ _ (and_left (eqb (bit_and m.0 (all_f F G)) m.0) (eqb (bit_and m.1 (all_g F G)) m.1) (part_at i)))

  part_g : (i : ℕ) → bit_and (wanted_for_g sc cells i) (all_g F G) ≡ wanted_for_g sc cells i
  part_g i =
      let m = cell_masks_of sc i in
      chosen (has_bit cells i) (all_g F G) m.1 (eqb→eq _ _ (and_right (eqb (bit_and m.0 (all_f F G)) m.0) (eqb (bit_and m.1 (all_g F G)) m.1) (part_at i)))

  -- 9 finds nothing
  pub cells_tidy : any_stray (shape_number F) (shape_number G) (masks_for (Wanted.Cells cells) sc).f (masks_for (Wanted.Cells cells) sc).g ≡ false
  unfolding masks_for
  cells_tidy =
      ap₂ ◌||◌ (tidy_by (all_f F G) _ (gathered_within (all_f F G) (wanted_for_f sc cells) part_f (indices 9 0)))
      (tidy_by (all_g F G) _ (gathered_within (all_g F G) (wanted_for_g sc cells) part_g (indices 9 0)))

  -- and the flags of a cell that is asked are wanted
  module _ (at : ℕ) (small : at < 9) (asked : T (has_bit cells at)) (k : ℕ) where
    among : (f : ℕ → ℕ) → T (has_bit (f at) k) → T (has_bit (gather f (indices 9 0)) k)
    among f t = subst T (sym (gather_bit f (indices 9 0) k)) (some_make (λ i. has_bit (f i) k) (in_indices 9 0 at (omega arith) (omega arith)) t)

    pub cell_wants_f : T (has_bit (cell_masks_of sc at).0 k) → T (has_bit (masks_for (Wanted.Cells cells) sc).f k)
    unfolding masks_for
    cell_wants_f t = among (wanted_for_f sc cells) (subst (λ b. T (has_bit (cond b (cell_masks_of sc at).0 0) k)) (sym (true_is (has_bit cells at) asked)) t)

    pub cell_wants_g : T (has_bit (cell_masks_of sc at).1 k) → T (has_bit (masks_for (Wanted.Cells cells) sc).g k)
    unfolding masks_for
    cell_wants_g t = among (wanted_for_g sc cells) (subst (λ b. T (has_bit (cond b (cell_masks_of sc at).1 0) k)) (sym (true_is (has_bit cells at) asked)) t)
