-- Each cell is read off the flags of its entry in the table: vectors that have those flags as another two have them give the cell that those give. So the matrix
-- of the flags that a pattern wants has, where the pattern asks, the cells of the matrix of all flags.
use Prim.Native.Nat.{ℕ, ◌+◌, ◌-◌, ◌*◌, ◌/◌, ◌%◌, ◌<◌}
use native.Mathlib.Omega.{arith}
use mathlib.Core.Path.{◌≡◌, refl, sym, ap, ap₂, ◌∙◌, fun_ext}
use mathlib.Core.Bool.{Bool, true, false, ◌&&◌, cond}
use mathlib.Core.List.{List, [], map}
use lib.Dec.{T}
use lib.ListN.{get_or}
use Rattle.whole.specs.Count.{odd}
use Rattle.plane_dimensions.specs.declared.Dimension.{Dimension}
use Rattle.plane_dimensions.specs.declared.Dimension.TheVariants.{Area}
use Rattle.scene.specs.declared.Shape.{Shape}
use Rattle.scene.specs.declared.Shape.TheVariants.{Points, Line, Region}
use Rattle.scene.specs.declared.Scene.{Scene}
use Rattle.scene.specs.Read.{shape_number, descends, turned, given_first, given_second}
use Rattle.flags.specs.Flags.{has_bit}
use Rattle.flags.proofs.Bits.{and_bit}
use Rattle.flags_masks.specs.declared.FlagMasks.{FlagMasks}
use Rattle.flags_masks.specs.declared.Wanted.{Wanted}
use Rattle.flags_masks.specs.Wanted.{cell_masks, masks_for, only}
use Rattle.flags_masks.proofs.Masks.{masked_f, masked_g}
use Rattle.flags_masks.proofs.Cells.{cell_wants_f, cell_wants_g}
use Rattle.flags_vectors.specs.declared.Vectors.{Vectors}
use Rattle.flags_vectors.specs.Vectors.{scene_vectors, vectors_in}
use Rattle.cells_matrix.specs.Matrix.{Part, interior, boundary, exterior, parts, matrix_by, matrix_of, matrix_given, cell_at, transposed}
use Rattle.cells_matrix.proofs.Theorem.{cell_transposed}
use Rattle.cells.specs.Explored as E
use Rattle.cells.specs.Explored.{explored_by, explored_in, matrix_from}
use Rattle.cells.proofs.Taken.{matrix_both, given_is}
use Rattle.cells_pattern.specs.Pattern.{position}

-- ---- one cell, of types that do not descend

-- its entry
abbrev mask_at : Shape → Shape → Part → Part → ℕ × ℕ
mask_at t u r c = get_or (get_or cell_masks ((shape_number t - 1) * 3 + (shape_number u - 1)) []) (position r c) (0, 0)

-- the flags of a mask alone
abbrev under : ℕ → (ℕ → Bool) → ℕ → Bool
under mask v k = has_bit mask k && v k

module _ (t u : Shape) (v w : ℕ → Bool) (e g : Bool) (r c : Part) where
  abbrev cell_by : Dimension
  cell_by = cell_at (matrix_by t u v w e g) r c

  abbrev cell_under : Dimension
  cell_under = cell_at (matrix_by t u (under (mask_at t u r c).0 v) (under (mask_at t u r c).1 w) e g) r c

-- all nine of a pair of types, as one matrix
abbrev nine : (Part → Part → Dimension) → List (List Dimension)
nine f = map (λ r. map (f r) parts) parts

nine_at : (f : Part → Part → Dimension) (r c : Part) → cell_at (nine f) r c ≡ f r c
nine_at f interior interior = refl
nine_at f interior boundary = refl
nine_at f interior exterior = refl
nine_at f boundary interior = refl
nine_at f boundary boundary = refl
nine_at f boundary exterior = refl
nine_at f exterior interior = refl
nine_at f exterior boundary = refl
nine_at f exterior exterior = refl

all_under : (t u : Shape) (v w : ℕ → Bool) (e g : Bool) → nine (cell_under t u v w e g) ≡ nine (cell_by t u v w e g)
unfolding has_bit odd
all_under Points Points v w e g = refl
all_under Points Line v w e g = refl
all_under Points Region v w e g = refl
all_under Line Points v w e g = refl
all_under Line Line v w e g = refl
all_under Line Region v w e g = refl
all_under Region Points v w e g = refl
all_under Region Line v w e g = refl
all_under Region Region v w e g = refl

module _ (t u : Shape) (e g : Bool) (r c : Part) where
  read_under : (v w : ℕ → Bool) → cell_under t u v w e g r c ≡ cell_by t u v w e g r c
  read_under v w = sym (nine_at (cell_under t u v w e g) r c) ∙ ap (λ m. cell_at m r c) (all_under t u v w e g) ∙ nine_at (cell_by t u v w e g) r c

  -- of masks that have its flags
  module _ (f-mask g-mask : ℕ) (has_f : (k : ℕ) → T (has_bit (mask_at t u r c).0 k) → T (has_bit f-mask k)) (has_g : (k : ℕ) → T (has_bit (mask_at t u r c).1 k) → T (has_bit g-mask k)) (v w : ℕ) where
    same_flag : (mask more v k : ℕ) → (T (has_bit mask k) → T (has_bit more k)) → has_bit mask k && has_bit (only more v) k ≡ has_bit mask k && has_bit v k
    same_flag mask more v k h = ap (λ b. has_bit mask k && b) (and_bit v more k) ∙ go (has_bit mask k) (has_bit v k) (has_bit more k) h
      where
        go : (a b c : Bool) → (T a → T c) → a && (b && c) ≡ a && b
        go false b c h = refl
        go true true true h = refl
        go true false true h = refl
        go true true false h = absurd (h tt)
        go true false false h = refl

    cell_kept : cell_at (matrix_of t u (only f-mask v) (only g-mask w) e g) r c ≡ cell_at (matrix_of t u v w e g) r c
    unfolding matrix_of
    cell_kept =
        sym (read_under (has_bit (only f-mask v)) (has_bit (only g-mask w)))
        ∙ ap₂ (λ (x y : ℕ → Bool). cell_at (matrix_by t u x y e g) r c)
        (fun_ext (λ k. same_flag (mask_at t u r c).0 f-mask v k (has_f k))) (fun_ext (λ k. same_flag (mask_at t u r c).1 g-mask w k (has_g k)))
        ∙ read_under (has_bit v) (has_bit w)

-- ---- the cells of a scene that are asked, in the caller's order

flipped : (r c : Part) → position r c % 3 * 3 + position r c / 3 ≡ position c r
flipped interior interior = refl
flipped interior boundary = refl
flipped interior exterior = refl
flipped boundary interior = refl
flipped boundary boundary = refl
flipped boundary exterior = refl
flipped exterior interior = refl
flipped exterior boundary = refl
flipped exterior exterior = refl

pub small : (r c : Part) → position r c < 9
small interior interior = omega arith
small interior boundary = omega arith
small interior exterior = omega arith
small boundary interior = omega arith
small boundary boundary = omega arith
small boundary exterior = omega arith
small exterior interior = omega arith
small exterior boundary = omega arith
small exterior exterior = omega arith

module _ (s : List ℕ) (sc : Scene) (by_types : turned sc ≡ descends (given_first sc).shape (given_second sc).shape) (cells : ℕ) where
  abbrev masks : FlagMasks
  masks = masks_for (Wanted.Cells cells) sc

  abbrev some : Vectors
  some = scene_vectors s sc masks

  abbrev all : Vectors
  all = scene_vectors s sc (masks_for Wanted.All sc)

  from_all : (some.f ≡ only masks.f all.f) × (some.g ≡ only masks.g all.g)
  unfolding masks_for
  from_all = (masked_f s sc.f sc.g masks.f, masked_g s sc.f sc.g masks.g)

  -- of F and G, where the entry's flags are wanted
  kept : (r c : Part) → ((k : ℕ) → T (has_bit (mask_at sc.f.shape sc.g.shape r c).0 k) → T (has_bit masks.f k))
      → ((k : ℕ) → T (has_bit (mask_at sc.f.shape sc.g.shape r c).1 k) → T (has_bit masks.g k))
      → cell_at (matrix_both sc some) r c ≡ cell_at (matrix_both sc all) r c
  kept r c has_f has_g =
      ap₂ (λ v w. cell_at (matrix_of sc.f.shape sc.g.shape v w (E.is_empty sc.f) (E.is_empty sc.g)) r c) from_all.0 from_all.1
      ∙ cell_kept sc.f.shape sc.g.shape (E.is_empty sc.f) (E.is_empty sc.g) r c masks.f masks.g has_f has_g all.f all.g

  -- where the caller's cell is asked
  pub asked_kept : (r c : Part) → T (has_bit cells (position r c))
      → cell_at (matrix_from (explored_by sc (vectors_in s sc (Wanted.Cells cells)))) r c ≡ cell_at (matrix_from (explored_in s sc)) r c
  asked_kept r c asked =
      ap (λ m. cell_at m r c) (given_is sc by_types some)
      ∙ go (turned sc) (λ k. cell_wants_f cells sc (position r c) (small r c) asked k) (λ k. cell_wants_g cells sc (position r c) (small r c) asked k)
      ∙ sym (ap (λ m. cell_at m r c) (given_is sc by_types all))
    where
      entry_if : Bool → ℕ × ℕ
      entry_if t = get_or (get_or cell_masks ((shape_number sc.f.shape - 1) * 3 + (shape_number sc.g.shape - 1)) []) (cond t (position r c % 3 * 3 + position r c / 3) (position r c)) (0, 0)

      go : (t : Bool) → ((k : ℕ) → T (has_bit (entry_if t).0 k) → T (has_bit masks.f k)) → ((k : ℕ) → T (has_bit (entry_if t).1 k) → T (has_bit masks.g k))
          → cell_at (cond t (transposed (matrix_both sc some)) (matrix_both sc some)) r c ≡ cell_at (cond t (transposed (matrix_both sc all)) (matrix_both sc all)) r c
      go false has_f has_g = kept r c has_f has_g
      go true has_f has_g =
          cell_transposed (matrix_both sc some) r c
          ∙ kept c r (λ k. rw flipped at (has_f k)) (λ k. rw flipped at (has_g k))
          ∙ sym (cell_transposed (matrix_both sc all) r c)

-- ---- EE always has an area

ee_area : (t u : Shape) (v w : ℕ) (e g : Bool) → cell_at (matrix_given t u v w e g) exterior exterior ≡ Area
unfolding matrix_of
ee_area Points Points v w e g = refl
ee_area Points Line v w e g = refl
ee_area Points Region v w e g = refl
ee_area Line Points v w e g = refl
ee_area Line Line v w e g = refl
ee_area Line Region v w e g = refl
ee_area Region Points v w e g = refl
ee_area Region Line v w e g = refl
ee_area Region Region v w e g = refl

pub always_area : (sc : Scene) (both : Vectors) → cell_at (matrix_from (explored_by sc both)) exterior exterior ≡ Area
always_area sc both =
    ee_area (given_first sc).shape (given_second sc).shape both.f both.g (E.is_empty (given_first sc)) (E.is_empty (given_second sc))
