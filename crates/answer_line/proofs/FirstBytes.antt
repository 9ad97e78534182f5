-- A longer input has the line of its first 38,919 bytes: what is taken is no longer, and a refusal turns on these alone.
use Rattle.std.specs.Prelude.{Err, Ok}
use Rattle.scene.specs.Read.{CheckedScene}
use Rattle.cells.specs.Explored.{CellsAnswer}
use Prim.Native.Nat.{ℕ}
use native.Mathlib.Omega.{arith}
use mathlib.Core.Path.{◌≡◌, refl, sym, ap, ◌∙◌}
use mathlib.Core.List.{List, []}
use lib.ListN.{take, length-take}
use lib.Seq.{take_all}
use Rattle.scene.specs.Conditions.{scene_rules, check_scene}
use Rattle.scene.proofs.Prefix.{only_first_bytes, taken_short}
use Rattle.cells.specs.Explored.{answered, cells_answer_of, cells_values}
use Rattle.answer_line.specs.Line.{line_of, line_of_scene, OnlyFirstBytes}

module _ (s : List ℕ) where
  abbrev first : List ℕ
  first = take 38919 s

  same_verdict : check_scene s ≡ check_scene first
  unfolding check_scene
  same_verdict = only_first_bytes (scene_rules [] []) s first (sym (take_all 38919 first (omega (arith, length-take 38919 s))))

  same_answer : cells_answer_of s ≡ cells_answer_of first
  unfolding cells_answer_of check_scene
  same_answer = go (check_scene s) refl
    where
      go : (k : CheckedScene) → check_scene s ≡ k → answered s (check_scene s) ≡ answered first (check_scene first)
      go (Err r) e = ap (answered s) e ∙ ap (answered first) (sym e ∙ same_verdict)
      go (Ok sc) e =
          ap cells_answer_of (sym (take_all 38919 s (omega (arith, taken_short (scene_rules [] []) s sc e))))

pub line_of_first_bytes : OnlyFirstBytes
unfolding line_of_scene
line_of_first_bytes s = ap (λ (a : CellsAnswer). line_of (cells_values a)) (same_answer s)
