-- Asked twice: the answers to two objects' bytes, a then b and b then a, agree.
use Rattle.std.specs.Prelude.{Err, Ok}
use Rattle.scene.specs.Read.{CheckedScene}
use Prim.Native.Nat.{ℕ}
use mathlib.Core.Path.{◌≡◌, refl, sym, ap, ap₂, subst₂, ◌∙◌}
use mathlib.Core.Bool.{Bool, true, false, cond}
use mathlib.Core.List.{List, [], ◌∷◌, ◌++◌}
use lib.ListN.{length, get_or}
use Rattle.plane.specs.Plane.{Object}
use Rattle.plane_dimensions.specs.Dimensions.{Value}
use Rattle.plane_dimensions.proofs.Values.{only_one}
use Rattle.scene.specs.declared.Layout.{Layout}
use Rattle.scene.specs.declared.Scene.{Scene}
use Rattle.scene.specs.Read.{shape_number, descends, turned, given_first, given_second, read_alone, IsScene}
use Rattle.scene.specs.Conditions.{object, check_scene}
use Rattle.scene.proofs.Taken.{Arranged, taken_alone, taken_scene}
use Rattle.scene.proofs.Moved.{moved}
use Rattle.scene.proofs.Standing.{object_stays}
use Rattle.scene.proofs.SideBySide.{first_stands, second_stands, beside, beside_read, beside_given}
use Rattle.check_verdict.proofs.EitherOrder.{checked_number, zero_taken, same_number_twice}
use Rattle.flags.specs.Flags.{Elements, points, line, region, flags_of_f, flags_of_g, pack, has_bit}
use Rattle.flags.specs.Elements.{elements_of}
use Rattle.flags.proofs.Bits.{pack_bit}
use Rattle.flags.proofs.SideBySide.{first_elements, second_elements}
use Rattle.flags.proofs.Exchanged.{poi_shared_swap, seg_shared_swap, interior_poi_shared_swap, bound_shared_swap, class02_swap, class20_swap, class11_swap, bound_poi_shared_swap}
use Rattle.flags_masks.specs.declared.FlagMasks.{FlagMasks}
use Rattle.flags_masks.specs.declared.Wanted.{Wanted}
use Rattle.flags_masks.specs.Wanted.{masks_for, vector_of_f, vector_of_g}
use Rattle.flags_masks.proofs.Masks.{every_flag_f, every_flag_g}
use Rattle.flags_vectors.specs.declared.Vectors.{Vectors}
use Rattle.flags_vectors.specs.Vectors.{vectors_in}
use Rattle.cells_matrix.specs.Matrix.{Part, lies, InBoth, cell_at}
use Rattle.cells_matrix.proofs.Theorem.{shape_of}
use Rattle.cells_matrix.proofs.Made.{value_swap}
use Rattle.cells.specs.Explored.{CellsValues, answered, cells_answer_of, cells_values}
use Rattle.cells.specs.AskedTwice.{exchanged, answer_to, vectors, AskedTwice}
use Rattle.cells.proofs.Taken.{shape_as, scene_cells}

-- ---- the flags of two objects in the caller's order

module _ (A B : Elements) where
  abbrev pub flags_in_order : Bool → Vectors
  flags_in_order t = record { f = pack (cond t (flags_of_g B A) (flags_of_f A B)); g = pack (cond t (flags_of_f B A) (flags_of_g A B)) }

  abbrev pub given_flags : Vectors
  given_flags = flags_in_order (descends (shape_of A) (shape_of B))

  -- a bit of a vector is the flag
  bit_f : (k : ℕ) → get_or (flags_of_f A B) k false ≡ has_bit (pack (flags_of_f A B)) k
  bit_f k = sym (pack_bit (flags_of_f A B) k)

  bit_g : (k : ℕ) → get_or (flags_of_g A B) k false ≡ has_bit (pack (flags_of_g A B)) k
  bit_g k = sym (pack_bit (flags_of_g A B) k)

-- asked the other way round
flags_exchanged : (A B : Elements) → given_flags B A ≡ exchanged (given_flags A B) (shape_of A) (shape_of B)
flags_exchanged (points F) (points G) =
    let v = bit_f (points F) (points G) in
    let w = bit_g (points F) (points G) in
    λ i. record { f = pack (w 0 i ∷ (poi_shared_swap G F ∙ v 1) i ∷ []); g = pack (v 0 i ∷ []) }
flags_exchanged (points F) (line G) = refl
flags_exchanged (points F) (region G) = refl
flags_exchanged (line F) (points G) = refl
flags_exchanged (line F) (line G) =
    let v = bit_f (line F) (line G) in
    let w = bit_g (line F) (line G) in
    λ i. record {
      f = pack ((seg_shared_swap G F ∙ v 0) i ∷ (interior_poi_shared_swap G F ∙ v 1) i ∷ w 0 i ∷ w 1 i ∷ (bound_shared_swap G F ∙ v 4) i ∷ w 2 i ∷ []);
      g = pack (v 2 i ∷ v 3 i ∷ v 5 i ∷ []);
    }
flags_exchanged (line F) (region G) = refl
flags_exchanged (region F) (points G) = refl
flags_exchanged (region F) (line G) = refl
flags_exchanged (region F) (region G) =
    let v = bit_f (region F) (region G) in
    let w = bit_g (region F) (region G) in
    λ i. record {
      f = pack (w 0 i ∷ w 1 i ∷ w 2 i ∷ w 3 i ∷ (class02_swap G F ∙ v 4) i ∷ (class20_swap G F ∙ v 5) i ∷ (class11_swap G F ∙ v 6) i ∷ (bound_poi_shared_swap G F ∙ v 7) i ∷ []);
      g = pack (v 0 i ∷ v 1 i ∷ v 2 i ∷ v 3 i ∷ []);
    }

-- ---- a scene

pub shape_of_lem : (s : List ℕ) (l : Layout) → shape_of (elements_of s l) ≡ l.shape
shape_of_lem s l = shape_as s l l.shape

module _ (s : List ℕ) (sc : Scene) (is : IsScene s sc) where
  -- all flags wanted
  pub all_vectors : vectors_in s sc Wanted.All ≡ given_flags (elements_of s (given_first sc)) (elements_of s (given_second sc))
  unfolding masks_for
  all_vectors = go (turned sc) (sym types)
    where
      F : Elements
      F = elements_of s sc.f

      G : Elements
      G = elements_of s sc.g

      types : turned sc ≡ descends (shape_of (elements_of s (given_first sc))) (shape_of (elements_of s (given_second sc)))
      types = (taken_scene s sc is).by_types ∙ ap₂ descends (sym (shape_of_lem s (given_first sc))) (sym (shape_of_lem s (given_second sc)))

      all : FlagMasks
      all = masks_for Wanted.All sc

      v : vector_of_f F G all.f ≡ pack (flags_of_f F G)
      v = every_flag_f s sc.f sc.g

      w : vector_of_g F G all.g ≡ pack (flags_of_g F G)
      w = every_flag_g s sc.f sc.g

      go : (t : Bool) → descends (shape_of (elements_of s (cond t sc.g sc.f))) (shape_of (elements_of s (cond t sc.f sc.g))) ≡ t
          → record { f = cond t (vector_of_g F G all.g) (vector_of_f F G all.f); g = cond t (vector_of_f F G all.f) (vector_of_g F G all.g) }
          ≡ given_flags (elements_of s (cond t sc.g sc.f)) (elements_of s (cond t sc.f sc.g))
      go true e = rw e (λ i. record { f = w i; g = v i })
      go false e = rw e (λ i. record { f = v i; g = w i })

-- ---- an answer, by its check

number_is : (s : List ℕ) → (answer_to s).number ≡ checked_number (check_scene s)
unfolding cells_answer_of
number_is s = go (check_scene s)
  where
    go : (k : CheckedScene) → (cells_values (answered s k)).number ≡ checked_number k
    go (Ok sc) = refl
    go (Err r) = refl

module _ (s : List ℕ) (sc : Scene) (e : check_scene s ≡ Ok sc) where
  taken_is : answer_to s ≡ cells_values (answered s (Ok sc))
  unfolding cells_answer_of
  taken_is = ap (λ (k : CheckedScene). cells_values (answered s k)) e

-- ---- two objects' bytes, one after the other

module _ (a b : List ℕ) (l m : Layout) (first : read_alone a ≡ Ok l) (second : read_alone b ≡ Ok m) where
  abbrev scene : Scene
  scene = beside a b l m

  given : Arranged l (moved (length a) m) scene
  given = beside_given a b l m first second

  is_scene : IsScene (a ++ b) scene
  is_scene = beside_read a b l m first second

  pub first_is : elements_of (a ++ b) (given_first scene) ≡ elements_of a l
  first_is = ap (elements_of (a ++ b)) given.first ∙ first_elements a b l (taken_alone a l first).read

  pub second_is : elements_of (a ++ b) (given_second scene) ≡ elements_of b m
  second_is = ap (elements_of (a ++ b)) given.second ∙ second_elements a b m (taken_alone b m second).read

  first_object : object (a ++ b) (given_first scene) ≡ object a l
  first_object = ap (object (a ++ b)) given.first ∙ object_stays (first_stands a b l (taken_alone a l first).read)

  second_object : object (a ++ b) (given_second scene) ≡ object b m
  second_object = ap (object (a ++ b)) given.second ∙ object_stays (second_stands a b m (taken_alone b m second).read)

  -- taken: types, vectors and cells, by the two objects alone
  module _ (none : (answer_to (a ++ b)).number ≡ 0) where
    taken : check_scene (a ++ b) ≡ Ok scene
    taken = zero_taken (a ++ b) scene is_scene (sym (number_is (a ++ b)) ∙ none)

    types_are : ((answer_to (a ++ b)).f ≡ shape_number l.shape) × ((answer_to (a ++ b)).g ≡ shape_number m.shape)
    types_are =
        let q = taken_is (a ++ b) scene taken in
        (ap (λ (x : CellsValues). x.f) q ∙ ap (λ (x : Layout). shape_number x.shape) given.first, ap (λ (x : CellsValues). x.g) q ∙ ap (λ (x : Layout). shape_number x.shape) given.second)

    vectors_are : vectors (answer_to (a ++ b)) ≡ given_flags (elements_of a l) (elements_of b m)
    vectors_are = ap vectors (taken_is (a ++ b) scene taken) ∙ all_vectors (a ++ b) scene is_scene ∙ ap₂ given_flags first_is second_is

    cells_are : (r c : Part) → Value (cell_at (answer_to (a ++ b)).cells r c) (InBoth r (object a l) c (object b m))
    cells_are r c = subst₂ (λ (x y : Object). Value (cell_at (answer_to (a ++ b)).cells r c) (InBoth r x c y)) first_object second_object (scene_cells (a ++ b) scene taken r c)

-- ---- both ways

pub asked_twice : AskedTwice
asked_twice a b l m first second = record {
  same_number = number;
  types_exchanged = λ e. let x = types_are a b l m first second e in let y = types_are b a m l second first (other e) in (x.0 ∙ sym y.1, x.1 ∙ sym y.0);
  vectors_exchanged = λ e.
      vectors_are b a m l second first (other e)
      ∙ flags_exchanged (elements_of a l) (elements_of b m)
      ∙ (λ i. exchanged (sym (vectors_are a b l m first second e) i) (shape_of_lem a l i) (shape_of_lem b m i));
  cells_transposed = λ e r c.
      let x = value_swap (lies c (object a l)) (lies r (object b m)) (cell_at (answer_to (a ++ b)).cells c r) (cells_are a b l m first second e c r) in
      only_one (InBoth r (object b m) c (object a l)) (cell_at (answer_to (b ++ a)).cells r c) (cell_at (answer_to (a ++ b)).cells c r) (cells_are b a m l second first (other e) r c) x;
}
  where
    number : (answer_to (a ++ b)).number ≡ (answer_to (b ++ a)).number
    number = number_is (a ++ b) ∙ same_number_twice a b l m first second ∙ sym (number_is (b ++ a))

    other : (answer_to (a ++ b)).number ≡ 0 → (answer_to (b ++ a)).number ≡ 0
    other e = sym number ∙ e
