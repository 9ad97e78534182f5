-- Which of the two walks each flag of the table is read off, and which walks a set of wanted flags needs.
use Rattle.std.specs.Prelude.{ℕ, Bool, true, false, not, ◌||◌, List, [], ◌∷◌, eqb}
use Rattle.std.specs.Int.Bits.{bit_and}
use Rattle.scene.specs.declared.Shape.{Shape}
use Rattle.scene.specs.declared.Shape.TheVariants.{Points, Line, Region}
use Rattle.flags.specs.Flags.{pack}

-- Is flag k of F, and of G, read off the classes of segments? Bit 0 first; every other flag is read off the meetings at points.
abbrev pub off_classes_f : Shape → Shape → List Bool
off_classes_f Points g = []
off_classes_f Line Points = []
off_classes_f Line Line = true ∷ false ∷ true ∷ []
off_classes_f Line Region = true ∷ true ∷ true ∷ []
off_classes_f Region Points = []
off_classes_f Region Line = []
off_classes_f Region Region = true ∷ true ∷ true ∷ true ∷ true ∷ true ∷ true ∷ []

abbrev pub off_classes_g : Shape → Shape → List Bool
off_classes_g Points g = []
off_classes_g Line Points = []
off_classes_g Line Line = true ∷ []
off_classes_g Line Region = true ∷ []
off_classes_g Region Points = []
off_classes_g Region Line = []
off_classes_g Region Region = true ∷ true ∷ true ∷ true ∷ []

-- a wanted flag is one of these, and a wanted flag is none of these
abbrev pub wants_some : List Bool → ℕ → Bool
wants_some these want = not (eqb (bit_and want (pack these)) 0)

abbrev pub wants_other : List Bool → ℕ → Bool
wants_other these want = not (eqb (bit_and want (pack these)) want)

module _ (f g : Shape) (wantF wantG : ℕ) where
  abbrev pub reads_meetings : Bool
  reads_meetings = wants_other (off_classes_f f g) wantF || wants_other (off_classes_g f g) wantG

  abbrev pub reads_classes : Bool
  reads_classes = wants_some (off_classes_f f g) wantF || wants_some (off_classes_g f g) wantG
