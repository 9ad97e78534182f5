-- The checks of a pair, one after the other: 1 to 14, then 19 to 21.
use Rattle.std.proofs.Common.{◌≡◌, ◌∙◌, refl, sym, ap, ℕ, List, [], Ok, Err}
use Rattle.scene.specs.declared.Scene.{Scene}
use Rattle.scene.specs.declared.Refusal.{Refusal}
use Rattle.scene.specs.Read.{CheckedScene, judge, read_scene}
use Rattle.scene.specs.Conditions.{conditions, checked_scene, check_scene_by}
use Rattle.check_verdict.specs.Refusals.{Verdict, settle, objects_verdict}
use Rattle.check_verdict.proofs.Verdicts.{judge_append, judge_rules}
use Rattle.split.specs.Split.{raw_rules, check_raw, own_rules, split_rules, check_split}

module _ (s : List ℕ) where
  pub raw_unread : (r : Refusal) → read_scene s ≡ Err r → check_raw s ≡ Err r
  unfolding check_raw check_scene_by
  raw_unread r e = rw e refl

  pub raw_read : (sc : Scene) → read_scene s ≡ Ok sc → check_raw s ≡ settle Err (objects_verdict s sc) (Ok sc)
  unfolding check_raw check_scene_by objects_verdict
  raw_read sc e = ap (checked_scene raw_rules s) e ∙ judge_append Err (Ok sc) (conditions raw_rules s sc) []

  module _ (room : ℕ) where
    abbrev pub with_own : CheckedScene → CheckedScene
    with_own (Err r) = Err r
    with_own (Ok sc) = judge Err (Ok sc) (conditions (own_rules room) s sc)

    -- whatever 1 to 14 say, 19 to 21 follow
    pub split_after : check_split s room ≡ with_own (check_raw s)
    unfolding check_split check_raw check_scene_by
    split_after = go (read_scene s)
      where
        settled : (sc : Scene) (v : Verdict) → settle Err v (judge Err (Ok sc) (conditions (own_rules room) s sc)) ≡ with_own (settle Err v (Ok sc))
        settled sc (Err r) = refl
        settled sc (Ok tt) = refl

        go : (o : CheckedScene) → checked_scene (split_rules room) s o ≡ with_own (checked_scene raw_rules s o)
        go (Err r) = refl
        go (Ok sc) =
            judge_rules Err (Ok sc) s sc raw_rules (own_rules room)
            ∙ settled sc _
            ∙ sym (ap with_own (judge_append Err (Ok sc) (conditions raw_rules s sc) []))
