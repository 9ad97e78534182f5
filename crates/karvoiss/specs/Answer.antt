-- What C gets for each answer: number 0 means taken; a refusal has its number and place, no flag, nine F, no pattern that holds, no area, and a record of zeros. And what the signs of the cells mean.
use Rattle.std.specs.Prelude.{ℕ, ◌≡◌, Option, Result, Ok, Err, List, [], map, get_or, ℤ}
use Rattle.plane.specs.declared.Point.{Point}
use Rattle.plane_dimensions.specs.declared.Dimension.{Dimension}
use Rattle.plane_dimensions.specs.Dimensions.{sign, Value}
use Rattle.scene.specs.declared.Scene.{Scene}
use Rattle.scene.specs.declared.Refusal.{Refusal}
use Rattle.scene.specs.Read.{number_of}
use Rattle.scene.specs.Conditions.{check_scene}
use Rattle.flags_vectors.specs.Vectors.{VectorsAnswer, vectors_values}
use Rattle.cells.specs.Explored.{CellsAnswer, cells_values, InCell}
use Rattle.cells_matrix.specs.Matrix.{Part, index, parts}
use Rattle.cells_pattern.specs.Related.{RelateAnswer, relate_values}
use Rattle.overlap.specs.Overlap.{OverlapAnswer, overlap_values}
use Rattle.areas.specs.Areas.{AreasAnswer, areas_values}
use Rattle.karvoiss.specs.declared.KarvoissVectors.{KarvoissVectors}
use Rattle.karvoiss.specs.declared.KarvoissOverlap.{KarvoissOverlap}
use Rattle.karvoiss.specs.declared.KarvoissCells.{KarvoissCells}
use Rattle.karvoiss.specs.declared.KarvoissRelate.{KarvoissRelate}
use Rattle.karvoiss.specs.declared.KarvoissAreas.{KarvoissAreas}
use Rattle.flags_vectors.specs.declared.Vectors.{Vectors}
use Rattle.summary.specs.declared.Summary.{Summary}
use Rattle.summary.specs.Summary.{far_values}
use Rattle.summary_making.specs.Making.{summary_values}
use Rattle.karvoiss.specs.declared.KarvoissSummary.{KarvoissSummary}
use Rattle.karvoiss.specs.declared.KarvoissFar.{KarvoissFar}
use Rattle.estimate.specs.declared.Estimated.{Estimated}
use Rattle.estimate.specs.Estimate.{side_number}
use Rattle.karvoiss.specs.declared.KarvoissEstimate.{KarvoissEstimate}
use Rattle.summary_window.specs.declared.InWindow.{InWindow}
use Rattle.summary_window.specs.Window.{WindowValues, window_values}
use Rattle.karvoiss.specs.declared.KarvoissInWindow.{KarvoissInWindow}
use Rattle.wkb_reading.specs.Reading.{ReadAnswer, read_values}
use Rattle.karvoiss.specs.declared.KarvoissReadWkb.{KarvoissReadWkb}
use Rattle.wkb_writing.specs.Writing.{WriteAnswer, write_values}
use Rattle.karvoiss.specs.declared.KarvoissWriteWkb.{KarvoissWriteWkb}
use Rattle.split.specs.Split.{SplitAnswer, split_values}
use Rattle.karvoiss.specs.declared.KarvoissSplit.{KarvoissSplit}

-- the number and the place, of every answer alike
abbrev pub outcome : {A : Type 0} → Result A Refusal → ℕ × ℕ
outcome (Ok a) = (0, 0)
outcome (Err r) = (number_of r.reason, r.place)

abbrev pub vectors_for_c : VectorsAnswer → KarvoissVectors
vectors_for_c e =
    let values = vectors_values e in
    record { number = values.number; place = values.place; f = values.f; g = values.g }

-- "Give each cell as F, 0, 1 or 2"
abbrev pub row_signs : List Dimension → List ℕ
row_signs row = map (λ c. sign (get_or row (index c) Dimension.Empty)) parts

abbrev pub signs : List (List Dimension) → List (List ℕ)
signs m = map (λ r. row_signs (get_or m (index r) [])) parts

abbrev pub cells_for_c : CellsAnswer → KarvoissCells
cells_for_c e =
    let values = cells_values e in
    record { number = values.number; place = values.place; cell = signs values.cells }

abbrev pub relate_for_c : RelateAnswer → KarvoissRelate
relate_for_c e =
    let values = relate_values e in
    record { number = values.number; place = values.place; holds = values.holds }

abbrev pub overlap_for_c : OverlapAnswer → KarvoissOverlap
overlap_for_c e =
    let values = overlap_values e in
    record { number = values.number; place = values.place; count = values.count }

abbrev pub areas_for_c : AreasAnswer → KarvoissAreas
areas_for_c e =
    let values = areas_values e in
    record { number = values.number; place = values.place; both = values.both; f_only = values.f_only; g_only = values.g_only }

abbrev pub summary_for_c : Result Summary Refusal → KarvoissSummary
summary_for_c e =
    let values = summary_values e in
    record { number = values.number; place = values.place; «record» = values.bytes }

abbrev pub far_for_c : Result (Option Vectors) Refusal → KarvoissFar
far_for_c e =
    let values = far_values e in
    record { number = values.number; place = values.place; look = values.look; f = values.f; g = values.g }

-- a point by its two coordinates, as C passes it
abbrev pub at : ℤ → ℤ → Point
at x y = record { x = x; y = y }

abbrev pub estimate_for_c : Estimated → KarvoissEstimate
estimate_for_c e = record { estimate = e.estimate; side = side_number e.side }

-- the window's answer, field by field, and back
abbrev pub in_window_for_c : Result InWindow Refusal → KarvoissInWindow
in_window_for_c e =
    let values = window_values e in
    record { number = values.number; place = values.place; word = values.word; hits = values.hits }

abbrev pub from_c : KarvoissInWindow → WindowValues
from_c r = record { number = r.number; place = r.place; word = r.word; hits = r.hits }

-- the number that was read beside 25, 0 beside any other
abbrev pub read_wkb_for_c : ReadAnswer → KarvoissReadWkb
read_wkb_for_c e =
    let values = read_values e in
    record { number = values.number; place = values.place; length = values.length; value = values.value }

abbrev pub write_wkb_for_c : WriteAnswer → KarvoissWriteWkb
write_wkb_for_c e =
    let values = write_values e in
    record { number = values.number; place = values.place; length = values.length }

abbrev pub split_for_c : SplitAnswer → KarvoissSplit
split_for_c e =
    let values = split_values e in
    record { number = values.number; place = values.place; added_f = values.added_f; added_g = values.added_g; length = values.length }

-- ---- what the signs mean

abbrev pub sign_of_cell : List (List ℕ) → Part → Part → ℕ
sign_of_cell m r c = get_or (get_or m (index r) []) (index c) 0

-- for a scene that is taken, each byte is the sign of the value that the points of its cell have
abbrev pub NoSignWrong : List ℕ → List (List ℕ) → Type 0
NoSignWrong s m =
    (sc : Scene) → check_scene s ≡ Ok sc → (r c : Part) → (d : Dimension) × (sign_of_cell m r c ≡ sign d) × Value d (InCell s sc r c)
