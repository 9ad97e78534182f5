-- No refusal has the number of a scene that is taken.
use Rattle.std.specs.Prelude.{Err, Ok}
use Prim.Native.Nat.{ℕ}
use mathlib.Core.List.{List}
use Rattle.scene.specs.Read.{CheckedScene}
use Rattle.scene.specs.Conditions.{check_scene}
use Rattle.check_verdict.proofs.Numbers as N
use Rattle.cells.specs.Explored.{answered, cells_answer_of}
use Rattle.answer_line.specs.Line.{Numbered}

pub numbered : (s : List ℕ) → Numbered (cells_answer_of s)
unfolding cells_answer_of
numbered s = go (check_scene s) (N.numbered s)
  where
    go : (k : CheckedScene) → N.Numbered k → Numbered (answered s k)
    go (Ok sc) h = tt
    go (Err r) h = h
