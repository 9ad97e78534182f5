-- Asked twice: the lab puts every pair of shapes to the engine in both orders. Of any two byte strings that are each one object's bytes, what a then b is
-- answered and what b then a is answered agree: one statement for number, types, vectors and cells (proofs/AskedTwice.antt).
use Rattle.std.specs.Prelude.{Ok}
use Rattle.std.specs.Prelude.{ℕ, ◌≡◌, Bool, List, [], ◌∷◌, ◌++◌}
use Rattle.scene.specs.declared.Shape.{Shape}
use Rattle.scene.specs.declared.Shape.TheVariants.{Points, Line, Region}
use Rattle.scene.specs.declared.Layout.{Layout}
use Rattle.scene.specs.Read.{read_alone}
use Rattle.flags.specs.Flags.{pack, has_bit}
use Rattle.flags_vectors.specs.declared.Vectors.{Vectors}
use Rattle.cells_matrix.specs.Matrix.{Part, cell_at}
use Rattle.cells.specs.Explored.{CellsValues, cells_answer_of, cells_values}

-- ---- the vectors of the exchanged objects

abbrev packed : List Bool → List Bool → Vectors
packed v w = record { f = pack v; g = pack w }

-- Where the types differ, the two vectors change places. Where they are the same, so do the flags that each object has of its own; those that both share stand
-- in the first vector both times.
module _ (r : Vectors) where
  abbrev v : ℕ → Bool
  v = has_bit r.f

  abbrev w : ℕ → Bool
  w = has_bit r.g

  abbrev pub exchanged : Shape → Shape → Vectors
  -- poi_disjoint is each object's own, poi_shared of both
  exchanged Points Points = packed (w 0 ∷ v 1 ∷ []) (v 0 ∷ [])
  -- seg_unshared, bound_on_interior and bound_disjoint are each object's own; seg_shared, interior_poi_shared and bound_shared of both
  exchanged Line Line = packed (v 0 ∷ v 1 ∷ w 0 ∷ w 1 ∷ v 4 ∷ w 2 ∷ []) (v 2 ∷ v 3 ∷ v 5 ∷ [])
  -- (0/1), (1/0), (1/2) and (2/1) are each object's own; (0/2), (2/0), (1/1) and bound_poi_shared of both
  exchanged Region Region = packed (w 0 ∷ w 1 ∷ w 2 ∷ w 3 ∷ v 4 ∷ v 5 ∷ v 6 ∷ v 7 ∷ []) (v 0 ∷ v 1 ∷ v 2 ∷ v 3 ∷ [])
  exchanged Points Line = record { f = r.g; g = r.f }
  exchanged Points Region = record { f = r.g; g = r.f }
  exchanged Line Points = record { f = r.g; g = r.f }
  exchanged Line Region = record { f = r.g; g = r.f }
  exchanged Region Points = record { f = r.g; g = r.f }
  exchanged Region Line = record { f = r.g; g = r.f }

-- ---- two answers

abbrev pub answer_to : List ℕ → CellsValues
answer_to s = cells_values (cells_answer_of s)

abbrev pub vectors : CellsValues → Vectors
vectors a = record { f = a.v; g = a.w }

-- what the answers to a b and to b a have in common, for objects of two types
pub record Agree (t u : Shape) (ab ba : CellsValues) : Type 0 where
  -- taken both times, or refused under one number both times
  pub same_number : ab.number ≡ ba.number
  -- of pairs that are taken
  pub types_exchanged : ab.number ≡ 0 → (ab.f ≡ ba.g) × (ab.g ≡ ba.f)
  pub vectors_exchanged : ab.number ≡ 0 → vectors ba ≡ exchanged (vectors ab) t u
  pub cells_transposed : ab.number ≡ 0 → (r c : Part) → cell_at ba.cells r c ≡ cell_at ab.cells c r

abbrev pub AskedTwice : Type 0
AskedTwice =
    (a b : List ℕ) (l m : Layout) → read_alone a ≡ Ok l → read_alone b ≡ Ok m
    → Agree l.shape m.shape (answer_to (a ++ b)) (answer_to (b ++ a))
