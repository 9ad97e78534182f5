-- The wanted masks of the vectors question: which flags a pair of types has, which of them are wanted, and whether a wanted bit has no flag; and the flags that
-- a cell of the matrix is read off.
use Rattle.std.specs.Prelude.{ℕ, ◌+◌, ◌-◌, ◌*◌, ◌/◌, ◌%◌, ◌≤◌, Bool, false, not, ◌&&◌, ◌||◌, cond, List, [], ◌∷◌, T, eqb, length, get_or}
use Rattle.std.specs.Int.Bits.{bit_and}
use Rattle.scene.specs.declared.Scene.{Scene}
use Rattle.scene.specs.Read.{shape_number, turned, as_given}
use Rattle.scene.specs.Conditions.{indices}
use Rattle.flags_masks.specs.declared.FlagMasks.{FlagMasks}
use Rattle.flags_masks.specs.declared.Wanted.{Wanted}
use Rattle.flags.specs.Flags.{Elements, points, line, region, flags_of_f, flags_of_g, pack, has_bit}
use Rattle.flags.proofs.Marks.{gather}

-- The flags of F and of G, a bit for each: a row for each type of F, a column for each type of G. F's type is never above G's.
abbrev pub flag_masks : List (List (ℕ × ℕ))
flag_masks =
    ((3, 1) ∷ (7, 1) ∷ (7, 0) ∷ [])
    ∷ ((0, 0) ∷ (63, 7) ∷ (127, 1) ∷ [])
    ∷ ((0, 0) ∷ (0, 0) ∷ (255, 15) ∷ [])
    ∷ []

-- "looked up by pair", by the numbers of the two types
abbrev pub masks_of : ℕ → ℕ → ℕ × ℕ
masks_of f g = get_or (get_or flag_masks (f - 1) []) (g - 1) (0, 0)

abbrev pub mask_of_f : ℕ → ℕ → ℕ
mask_of_f f g = (masks_of f g).0

abbrev pub mask_of_g : ℕ → ℕ → ℕ
mask_of_g f g = (masks_of f g).1

-- ---- the flags that a cell is read off

abbrev untold : List (ℕ × ℕ)
untold = (0, 0) ∷ (0, 0) ∷ (0, 0) ∷ (0, 0) ∷ (0, 0) ∷ (0, 0) ∷ (0, 0) ∷ (0, 0) ∷ (0, 0) ∷ []

-- Of F and of G, a bit for each: a row for each pair of types, as above, and in it the nine cells row by row. A cell that no flag tells has none.
abbrev pub cell_masks : List (List (ℕ × ℕ))
cell_masks =
    ((2, 0) ∷ (0, 0) ∷ (1, 0) ∷ (0, 0) ∷ (0, 0) ∷ (0, 0) ∷ (0, 1) ∷ (0, 0) ∷ (0, 0) ∷ [])
    ∷ ((2, 0) ∷ (4, 0) ∷ (1, 0) ∷ (0, 0) ∷ (0, 0) ∷ (0, 0) ∷ (0, 0) ∷ (0, 1) ∷ (0, 0) ∷ [])
    ∷ ((1, 0) ∷ (2, 0) ∷ (4, 0) ∷ (0, 0) ∷ (0, 0) ∷ (0, 0) ∷ (0, 0) ∷ (0, 0) ∷ (0, 0) ∷ [])
    ∷ untold
    ∷ ((3, 0) ∷ (0, 2) ∷ (4, 0) ∷ (8, 0) ∷ (16, 0) ∷ (32, 0) ∷ (0, 1) ∷ (0, 4) ∷ (0, 0) ∷ [])
    ∷ ((1, 0) ∷ (10, 0) ∷ (4, 0) ∷ (16, 0) ∷ (32, 0) ∷ (64, 0) ∷ (0, 0) ∷ (0, 1) ∷ (0, 0) ∷ [])
    ∷ untold
    ∷ untold
    ∷ ((60, 12) ∷ (0, 12) ∷ (67, 12) ∷ (12, 0) ∷ (240, 0) ∷ (3, 0) ∷ (76, 3) ∷ (0, 3) ∷ (0, 0) ∷ [])
    ∷ []

-- an entry as the code has it
abbrev pub entry_of : ℕ × ℕ → FlagMasks
entry_of p = record { f = p.0; g = p.1 }

-- a cell's place in the row of its pair of types: where the objects were exchanged, rows are columns
abbrev pub place_in : Bool → ℕ → ℕ
place_in exchanged at = cond exchanged (at % 3 * 3 + at / 3) at

module _ (sc : Scene) where
  abbrev pub cell_place : ℕ → ℕ
  cell_place = place_in (turned sc)

  abbrev pub cell_masks_in : List (ℕ × ℕ)
  cell_masks_in = get_or cell_masks ((shape_number sc.f.shape - 1) * 3 + (shape_number sc.g.shape - 1)) []

  abbrev pub cell_masks_of : ℕ → ℕ × ℕ
  cell_masks_of at = get_or cell_masks_in (cell_place at) (0, 0)

  -- what a set of cells, a bit for each, wants of F and of G for its cell at a place
  abbrev pub wanted_for_f : ℕ → ℕ → ℕ
  wanted_for_f cells at = cond (has_bit cells at) (cell_masks_of at).0 0

  abbrev pub wanted_for_g : ℕ → ℕ → ℕ
  wanted_for_g cells at = cond (has_bit cells at) (cell_masks_of at).1 0

-- ---- what is wanted

-- Of F and of G: the flags of two masks, which are "in the caller's order", or all that the pair of types has, or those that some cells are read off
unfoldable pub masks_for : Wanted → Scene → FlagMasks
masks_for (Wanted.These masks) sc = record { f = as_given sc masks.f masks.g; g = as_given sc masks.g masks.f }
masks_for Wanted.All sc =
    record {
      f = mask_of_f (shape_number sc.f.shape) (shape_number sc.g.shape);
      g = mask_of_g (shape_number sc.f.shape) (shape_number sc.g.shape);
    }
masks_for (Wanted.Cells cells) sc = record { f = gather (wanted_for_f sc cells) (indices 9 0); g = gather (wanted_for_g sc cells) (indices 9 0) }

-- is none wanted, whatever the scene?
abbrev pub is_nothing : Wanted → Bool
is_nothing (Wanted.These masks) = eqb masks.f 0 && eqb masks.g 0
is_nothing Wanted.All = false
is_nothing (Wanted.Cells cells) = eqb cells 0

-- "A flag not wanted is 0."
abbrev pub only : ℕ → ℕ → ℕ
only mask v = bit_and v mask

-- "wanted bit without a flag": of one object, by the flags that it has; and of either
unfoldable pub has_stray : ℕ → ℕ → Bool
has_stray all mask = not (eqb (only all mask) mask)

abbrev pub any_stray : ℕ → ℕ → ℕ → ℕ → Bool
any_stray f g wantF wantG = has_stray (mask_of_f f g) wantF || has_stray (mask_of_g f g) wantG

-- is a flag of either mask none of `all`, and is one of them one of `some`?
abbrev pub exceeds : FlagMasks → FlagMasks → Bool
exceeds masks all = has_stray all.f masks.f || has_stray all.g masks.g

abbrev pub meets : FlagMasks → FlagMasks → Bool
meets masks some = not (eqb (only some.f masks.f) 0) || not (eqb (only some.g masks.g) 0)

-- the same as a sentence on the object's flags
abbrev pub Stray : List Bool → ℕ → Type 0
Stray flags mask = (k : ℕ) × T (has_bit mask k) × (length flags ≤ k)

-- ---- the vectors of two objects

-- "1 points, 2 line, 3 region"
abbrev pub type_of : Elements → ℕ
type_of (points l) = 1
type_of (line l) = 2
type_of (region l) = 3

-- each with the flags that its own mask wants
module _ (F G : Elements) (want : ℕ) where
  unfoldable pub vector_of_f : ℕ
  vector_of_f = only want (pack (flags_of_f F G))

  unfoldable pub vector_of_g : ℕ
  vector_of_g = only want (pack (flags_of_g F G))
