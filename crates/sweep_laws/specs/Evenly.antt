-- Condition 13 by halfsegments: each point is the dominating point of an even number of them.
use Rattle.std.specs.Prelude.{ℕ, ◌≡◌, Bool, false, List, T}
use Rattle.whole.proofs.Parity.{parity}
use Rattle.plane.specs.declared.Point.{Point}
use Rattle.plane.specs.Plane.{is_same_point, dominating}
use Rattle.scene.specs.declared.Layout.{Layout}
use Rattle.scene.specs.declared.Scene.{Scene}
use Rattle.scene.specs.Conditions.{elements, half, is_region}
use Rattle.sweep_laws.specs.Swept.{object_of}

module _ (s : List ℕ) (l : Layout) where
  abbrev pub dominated_by : Point → ℕ → Bool
  dominated_by v i = is_same_point (dominating (half s l i)) v

  abbrev pub EndsEvenly : Type 0
  EndsEvenly = (v : Point) → parity (dominated_by v) (elements l) ≡ false

-- every region of a scene does so
abbrev pub RegionsEndEvenly : List ℕ → Scene → Type 0
RegionsEndEvenly s sc = (first : Bool) → T (is_region (object_of s sc first).shape) → EndsEvenly s (object_of s sc first)
