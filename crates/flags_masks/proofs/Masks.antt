-- The wanted masks: the table has a one for each flag of a pair; refusal 9 is a wanted bit without a flag; a bit of a vector is set exactly when its flag is
-- wanted and its sentence holds; and what one mask wants is a part of the vector with every flag.
use Prim.Native.Nat.{ℕ, ◌-◌, ◌^◌, ◌≤◌}
use native.Mathlib.Nat.{mod-eq_of_lt}
use mathlib.Core.Path.{◌≡◌, refl, sym, ap, ap₂, ◌∙◌}
use mathlib.Core.Logic.{◌⊎◌}
use mathlib.Core.Bool.{Bool, false, not}
use mathlib.Core.List.{List}
use lib.Arith.{le→nltb}
use lib.Bits.{bit_and, and_mask}
use lib.Dec.{T, ltb, nltb→le}
use lib.ListN.{length}
use Rattle.whole.specs.Decides.{Decides}
use Rattle.whole.proofs.Deciding.{test_is, retest, by_equality, same_as, not_is, and_is, or_is}
use Rattle.scene.specs.declared.Shape.{Shape}
use Rattle.scene.specs.declared.Shape.TheVariants.{Points, Line, Region}
use Rattle.scene.specs.declared.Layout.{Layout}
use Rattle.scene.specs.Read.{shape_number}
use Rattle.flags.specs.Elements.{elements_as, elements_of}
use Rattle.flags.specs.Flags.{Elements, points, line, region, flags_of_f, flags_of_g, pack, has_bit}
use Rattle.flags.specs.Sentences.{sentences_of_f, sentences_of_g, sentence}
use Rattle.flags_masks.specs.Wanted.{mask_of_f, mask_of_g, only, has_stray, any_stray, Stray, type_of, vector_of_f, vector_of_g}
use Rattle.flags.proofs.Bits.{pack_lt, and_bit, ones_bit, lost_bit, bit_lost}
use Rattle.flags.proofs.Sentences.{bit_F, bit_G}

-- ---- the table

pub masks : (F G : Elements)
    → (mask_of_f (type_of F) (type_of G) ≡ 2 ^ length (flags_of_f F G) - 1) × (mask_of_g (type_of F) (type_of G) ≡ 2 ^ length (flags_of_g F G) - 1)
masks (points F) (points G) = (refl, refl)
masks (points F) (line G) = (refl, refl)
masks (points F) (region G) = (refl, refl)
masks (line F) (points G) = (refl, refl)
masks (line F) (line G) = (refl, refl)
masks (line F) (region G) = (refl, refl)
masks (region F) (points G) = (refl, refl)
masks (region F) (line G) = (refl, refl)
masks (region F) (region G) = (refl, refl)

-- ---- a mask of ones, one for each flag

module _ (all : ℕ) (flags : List Bool) (ones : all ≡ 2 ^ length flags - 1) where
  has_flag : (k : ℕ) → has_bit all k ≡ ltb k (length flags)
  has_flag k = ap (λ m. has_bit m k) ones ∙ ones_bit (length flags) k

  no_flag : (k : ℕ) → Decides (length flags ≤ k) (not (has_bit all k))
  no_flag k = retest (ap not (has_flag k)) (record { sound = nltb→le k (length flags); complete = le→nltb k (length flags) })

  stray : (want : ℕ) → Decides (Stray flags want) (has_stray all want)
  unfolding has_stray
  stray want =
      same_as
      (λ changed. let w = lost_bit want all changed in (w.0, w.1, (no_flag w.0).sound w.2))
      (λ w. bit_lost want all (w.0, w.1, (no_flag w.0).complete w.2))
      (not_is (by_equality (bit_and want all) want))

  whole : only all (pack flags) ≡ pack flags
  whole = ap (bit_and (pack flags)) ones ∙ and_mask (pack flags) (length flags) ∙ mod-eq_of_lt (pack_lt flags)

-- ---- refusal StrayFlag, and the vectors

-- a bit of what is wanted of a vector
only_bit : {P : Type 0} (mask v k : ℕ) → Decides P (has_bit v k) → Decides (T (has_bit mask k) × P) (has_bit (only mask v) k)
only_bit mask v k h = retest (and_bit v mask k) (same_as (λ w. (w.1, w.0)) (λ w. (w.1, w.0)) (and_is h (test_is (has_bit mask k))))

module _ (F G : Elements) where
  abbrev all_f : ℕ
  all_f = mask_of_f (type_of F) (type_of G)

  abbrev all_g : ℕ
  all_g = mask_of_g (type_of F) (type_of G)

  pub stray_wanted_lem : (wantF wantG : ℕ) → Decides (Stray (flags_of_f F G) wantF ⊎ Stray (flags_of_g F G) wantG) (any_stray (type_of F) (type_of G) wantF wantG)
  stray_wanted_lem wantF wantG = or_is (stray all_f (flags_of_f F G) (masks F G).0 wantF) (stray all_g (flags_of_g F G) (masks F G).1 wantG)

  -- "A flag not wanted is 0", and any other is its sentence
  pub vector_F : (want k : ℕ) → Decides (T (has_bit want k) × sentence (sentences_of_f F G) k) (has_bit (vector_of_f F G want) k)
  unfolding vector_of_f
  vector_F want k = only_bit want (pack (flags_of_f F G)) k (bit_F F G k)

  pub vector_G : (want k : ℕ) → Decides (T (has_bit want k) × sentence (sentences_of_g F G) k) (has_bit (vector_of_g F G want) k)
  unfolding vector_of_g
  vector_G want k = only_bit want (pack (flags_of_g F G)) k (bit_G F G k)

  -- all flags wanted
  vector_all_F : vector_of_f F G all_f ≡ pack (flags_of_f F G)
  unfolding vector_of_f
  vector_all_F = whole all_f (flags_of_f F G) (masks F G).0

  vector_all_G : vector_of_g F G all_g ≡ pack (flags_of_g F G)
  unfolding vector_of_g
  vector_all_G = whole all_g (flags_of_g F G) (masks F G).1

-- ---- the same of the objects of a scene, whose types are told by their layouts

type_of_lem : (s : List ℕ) (l : Layout) → type_of (elements_of s l) ≡ shape_number l.shape
type_of_lem s l = go l.shape
  where
    go : (k : Shape) → type_of (elements_as s l k) ≡ shape_number k
    go Points = refl
    go Line = refl
    go Region = refl

module _ (s : List ℕ) (f g : Layout) where
  abbrev of_f_lem : Elements
  of_f_lem = elements_of s f

  abbrev of_g_lem : Elements
  of_g_lem = elements_of s g

  all_f_lem : mask_of_f (type_of of_f_lem) (type_of of_g_lem) ≡ mask_of_f (shape_number f.shape) (shape_number g.shape)
  all_f_lem = ap₂ mask_of_f (type_of_lem s f) (type_of_lem s g)

  all_g_lem : mask_of_g (type_of of_f_lem) (type_of of_g_lem) ≡ mask_of_g (shape_number f.shape) (shape_number g.shape)
  all_g_lem = ap₂ mask_of_g (type_of_lem s f) (type_of_lem s g)

  -- all flags wanted
  pub every_flag_f : vector_of_f of_f_lem of_g_lem (mask_of_f (shape_number f.shape) (shape_number g.shape)) ≡ pack (flags_of_f of_f_lem of_g_lem)
  every_flag_f = ap (vector_of_f of_f_lem of_g_lem) (sym all_f_lem) ∙ vector_all_F of_f_lem of_g_lem

  pub every_flag_g : vector_of_g of_f_lem of_g_lem (mask_of_g (shape_number f.shape) (shape_number g.shape)) ≡ pack (flags_of_g of_f_lem of_g_lem)
  every_flag_g = ap (vector_of_g of_f_lem of_g_lem) (sym all_g_lem) ∙ vector_all_G of_f_lem of_g_lem

  -- the flags of one mask are those of all flags wanted, masked
  pub masked_f : (want : ℕ) → vector_of_f of_f_lem of_g_lem want ≡ only want (vector_of_f of_f_lem of_g_lem (mask_of_f (shape_number f.shape) (shape_number g.shape)))
  unfolding vector_of_f
  masked_f want = ap (only want) (sym every_flag_f)

  pub masked_g : (want : ℕ) → vector_of_g of_f_lem of_g_lem want ≡ only want (vector_of_g of_f_lem of_g_lem (mask_of_g (shape_number f.shape) (shape_number g.shape)))
  unfolding vector_of_g
  masked_g want = ap (only want) (sym every_flag_g)

-- ---- nothing is stray where all flags are wanted

pub none_stray : (f g : Shape) → any_stray (shape_number f) (shape_number g) (mask_of_f (shape_number f) (shape_number g)) (mask_of_g (shape_number f) (shape_number g)) ≡ false
unfolding has_stray
none_stray Points Points = refl
none_stray Points Line = refl
none_stray Points Region = refl
none_stray Line Points = refl
none_stray Line Line = refl
none_stray Line Region = refl
none_stray Region Points = refl
none_stray Region Line = refl
none_stray Region Region = refl
