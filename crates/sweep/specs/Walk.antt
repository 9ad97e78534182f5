-- Where a sweep has come to in one of its two objects.
use Rattle.std.specs.Prelude.{ℕ, ◌≤◌, ◌≡◌, Bool, List}
use Rattle.scene.specs.declared.Scene.{Scene}
use Rattle.scene_keys.specs.declared.Cursor.{Cursor}
use Rattle.sweep_laws.specs.Swept.{object_of, total}

-- the cursor stands at an event of F, or of G, or past the last
pub record Walks (s : List ℕ) (sc : Scene) (first : Bool) (c : Cursor) : Type 0 where
  pub same_bytes : c.object.bytes.now ≡ s
  pub same_object : c.object.layout ≡ object_of s sc first
  pub within : c.index ≤ total s sc first
