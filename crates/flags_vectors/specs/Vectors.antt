-- The vectors question: "scene and two 16-bit wanted masks; two 16-bit vectors"; and what a flag of the answer means for a scene that is taken.
use Rattle.scene.specs.declared.Reason.TheVariants.{StrayFlag}
use Rattle.std.specs.Prelude.{Result, Ok, Err, ℕ, ◌≡◌, ◌↔◌, Bool, not, cond, List, [], ◌∷◌, T}
use Rattle.scene.specs.declared.Scene.{Scene}
use Rattle.scene.specs.declared.Refusal.{Refusal}
use Rattle.scene.specs.Read.{number_of, CheckedScene, Fault, shape_number, unless, turned, as_given}
use Rattle.scene.specs.Conditions.{Rule, rule, scene_rules, check_scene_by}
use Rattle.flags_vectors.specs.declared.Vectors.{Vectors}
use Rattle.flags_vectors.specs.declared.SceneVectors.{SceneVectors}
use Rattle.flags_vectors.specs.declared.question.MaskedScene.{MaskedScene}
use Rattle.flags.specs.Flags.{has_bit}
use Rattle.flags.specs.Elements.{elements_of}
use Rattle.flags.specs.Sentences.{sentences_of_f, sentences_of_g, sentence}
use Rattle.flags_masks.specs.declared.FlagMasks.{FlagMasks}
use Rattle.flags_masks.specs.declared.Wanted.{Wanted}
use Rattle.flags_masks.specs.Wanted.{masks_for, any_stray, only, vector_of_f, vector_of_g}

-- the vectors of F and of G in a scene that is taken, each with the flags of its own mask
abbrev pub scene_vectors : List ℕ → Scene → FlagMasks → Vectors
scene_vectors s sc masks =
    record {
      f = vector_of_f (elements_of s sc.f) (elements_of s sc.g) masks.f;
      g = vector_of_g (elements_of s sc.f) (elements_of s sc.g) masks.g;
    }

-- "all that is .. returned .. in the caller's order": the first vector is that of the object given first
abbrev pub given_vectors : Scene → Vectors → Vectors
given_vectors sc v = record { f = as_given sc v.f v.g; g = as_given sc v.g v.f }

abbrev pub vectors_in : List ℕ → Scene → Wanted → Vectors
vectors_in s sc wanted = given_vectors sc (scene_vectors s sc (masks_for wanted sc))

-- 9, and "For 9 .. it is 0"
abbrev pub stray_in : Scene → FlagMasks → Bool
stray_in sc masks = any_stray (shape_number sc.f.shape) (shape_number sc.g.shape) masks.f masks.g

abbrev pub stray_wanted : Wanted → List ℕ → Scene → Fault
stray_wanted wanted s sc = unless (not (stray_in sc (masks_for wanted sc))) 0

-- "Then 8 to 17 in order": 9 before 10. "Number 9 belongs to the vectors question only."
abbrev pub vectors_rules : Wanted → List (Rule Scene)
vectors_rules wanted = scene_rules (rule StrayFlag (stray_wanted wanted) ∷ []) []

abbrev pub check_vectors : List ℕ → Wanted → CheckedScene
check_vectors s wanted = check_scene_by (vectors_rules wanted) s

-- a scene that is taken, and the masks of F and of G
abbrev pub asked : Wanted → CheckedScene → Result MaskedScene Refusal
asked wanted (Err r) = Err r
asked wanted (Ok sc) = Ok (record { scene = sc; masks = masks_for wanted sc })

unfoldable pub asked_of : List ℕ → Wanted → Result MaskedScene Refusal
asked_of s wanted = asked wanted (check_vectors s wanted)

-- the answer with the scene that was read, and the vectors alone
abbrev pub SceneAnswer : Type 0
SceneAnswer = Result SceneVectors Refusal

abbrev pub VectorsAnswer : Type 0
VectorsAnswer = Result Vectors Refusal

abbrev pub with_vectors : Scene → Vectors → SceneVectors
with_vectors sc v = record { scene = sc; vectors = v }

abbrev pub answered : List ℕ → Wanted → CheckedScene → SceneAnswer
answered s wanted (Err r) = Err r
answered s wanted (Ok sc) = Ok (with_vectors sc (vectors_in s sc wanted))

unfoldable pub answer_of : List ℕ → Wanted → SceneAnswer
answer_of s wanted = answered s wanted (check_vectors s wanted)

abbrev pub vectors_alone : SceneAnswer → VectorsAnswer
vectors_alone (Err r) = Err r
vectors_alone (Ok a) = Ok a.vectors

-- "two 16-bit wanted masks"
abbrev pub these : ℕ → ℕ → Wanted
these wantF wantG = Wanted.These (record { f = wantF; g = wantG })

unfoldable pub vectors_of : List ℕ → ℕ → ℕ → VectorsAnswer
vectors_of s wantF wantG = vectors_alone (answer_of s (these wantF wantG))

-- "Where an answer is an enum, a definition states this paper's number and values for every one of its cases." What is taken has number 0;
-- "Every refusal has vectors .. 0".
pub record VectorsValues : Type 0 where
  pub number : ℕ
  pub place : ℕ
  pub f : ℕ
  pub g : ℕ

abbrev pub vectors_values : VectorsAnswer → VectorsValues
vectors_values (Ok v) = record { number = 0; place = 0; f = v.f; g = v.g }
vectors_values (Err r) = record { number = number_of r.reason; place = r.place; f = 0; g = 0 }

-- ---- demand 2

-- Of one object: bit k of its vector is set if and only if flag k is wanted and its sentence, with "some" and "every" over elements, holds. Past the last flag
-- there is no sentence, so no bit has no flag.
abbrev pub FlagsRight : ℕ → List (Type 0) → ℕ → Type 0
FlagsRight mask sentences v = (k : ℕ) → T (has_bit v k) ↔ T (has_bit mask k) × sentence sentences k

-- the sentences of the flags of the object given first, and of the one given second: the object of the lower type has those of F, whoever gave it
module _ (s : List ℕ) (sc : Scene) where
  abbrev pub sentences_of_first : List (Type 0)
  sentences_of_first = cond (turned sc) (sentences_of_g (elements_of s sc.f) (elements_of s sc.g)) (sentences_of_f (elements_of s sc.f) (elements_of s sc.g))

  abbrev pub sentences_of_second : List (Type 0)
  sentences_of_second = cond (turned sc) (sentences_of_f (elements_of s sc.f) (elements_of s sc.g)) (sentences_of_g (elements_of s sc.f) (elements_of s sc.g))

-- Of the bytes, two masks and two vectors, in the caller's order: where the scene is taken, "A flag asked for is set if a witness exists, and clear if none
-- does, over all pairs of elements", and "A flag not wanted is 0": it is wanted exactly if its own mask has its bit
abbrev pub NoFlagWrong : List ℕ → ℕ → ℕ → ℕ → ℕ → Type 0
NoFlagWrong s wantF wantG v w =
    (sc : Scene) → check_vectors s (these wantF wantG) ≡ Ok sc
    → FlagsRight wantF (sentences_of_first s sc) v × FlagsRight wantG (sentences_of_second s sc) w

-- ---- one call for all

-- What two masks get is what is got with all flags wanted, masked: so the flags of one call say what any other call would. 9 alone depends on the masks.
abbrev pub MaskedFromAll : List ℕ → FlagMasks → Type 0
MaskedFromAll s masks =
    (sc : Scene) → check_vectors s (Wanted.These masks) ≡ Ok sc
    → (check_vectors s Wanted.All ≡ Ok sc)
    × ((vectors_in s sc (Wanted.These masks)).f ≡ only masks.f (vectors_in s sc Wanted.All).f)
    × ((vectors_in s sc (Wanted.These masks)).g ≡ only masks.g (vectors_in s sc Wanted.All).g)
