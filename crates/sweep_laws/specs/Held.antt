-- What the code of one event asks of the status: its entries are records of the scene, which can be read.
use Rattle.std.specs.Prelude.{ℕ, ◌<◌, ◌≡◌, List, length, get_or}
use Rattle.whole.specs.Count.{◌∈◌}
use Rattle.scene.specs.declared.Layout.{Layout}
use Rattle.scene.specs.declared.Scene.{Scene}
use Rattle.scene.specs.Read.{place}
use Rattle.scene.proofs.Given.{GoodHalfsegment}
use Rattle.sweep_laws.specs.Swept.{Entry}

-- the offset is the record of an element
pub record Placed (l : Layout) (at : ℕ) : Type 0 where
  pub index : ℕ
  pub few : index < 1024
  pub is_place : at ≡ place l index

-- the records of the entries are halfsegments, whole and in range
pub record Readable (s entries : List ℕ) : Type 0 where
  pub each : (i : ℕ) → i < length entries → GoodHalfsegment s (get_or entries i 0)

-- they are records of a scene
pub record Held (s : List ℕ) (sc : Scene) (entries : List ℕ) : Type 0 where
  pub each : (e : ℕ) → e ∈ entries → Entry s sc e
