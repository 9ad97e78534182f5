-- Where the walk over the left halfsegments of two objects stands after each step, and that a segment of one object that comes next alone is none of
-- the other's.
use Rattle.std.specs.Prelude.{Option, Some, None}
use Prim.Native.Nat.{ℕ, ◌+◌, ◌<◌}
use native.Mathlib.Decide.{dec_lt}
use native.Mathlib.Omega.{arith}
use mathlib.Core.Path.{◌≡◌, sym}
use mathlib.Core.Bool.{true, false}
use mathlib.Core.List.{List}
use Rattle.whole.proofs.Logic.{is_true}
use Rattle.plane.proofs.Equal.{same_segment_read}
use Rattle.scene.specs.declared.Layout.{Layout}
use Rattle.scene.specs.declared.Scene.{Scene}
use Rattle.scene.specs.Conditions.{half, left_test, segments}
use Rattle.check_verdict.proofs.Laws.{SoundScene, left_in, all_ordered, across}
use Rattle.flags.specs.Flags.{has_segment}
use Rattle.flags_classes.specs.declared.merged.Step.{Step}
use Rattle.flags_classes.specs.declared.merged.Step.TheVariants.{OfF, OfG, OfBoth}
use Rattle.flags_classes.specs.Walked.{Nexts, same, earlier, NextOfF, NextOfG, NextOfBoth, Stepped, f_after, g_after}
use Rattle.flags_classes.proofs.Comparable.{compare_across}
use Rattle.flags_classes.proofs.Merging.{none_yet}
use Rattle.flags_classes.proofs.Behind.{Ahead, Behind, behind_passed, behind_one, left_ordered, ahead_none, ahead_first, ahead_same, unshared}

module _ (s : List ℕ) (f g : Layout) where
  pub record Standing (i j : ℕ) : Type 0 where
    pub behind_f : Behind s f g i j
    pub behind_g : Behind s g f j i

  pub stands_next : {i j a b : ℕ} → Standing i j → Nexts s f g i j a b → Standing a b
  stands_next w n = record {
    behind_f = behind_passed s f g w.behind_f n.of_f_lem.passed n.of_g_lem.onwards;
    behind_g = behind_passed s g f w.behind_g n.of_g_lem.passed n.of_f_lem.onwards;
  }

-- the two that come next together
pub one_segment : {s : List ℕ} {f g : Layout} {i j a b : ℕ} → NextOfBoth s f g i j a b → (half s f a).segment ≡ (half s g b).segment
one_segment {s} {f} {g} {i} {j} {a} {b} n = same_segment_read (half s f a).segment (half s g b).segment (is_true (same s f g a b) n.compared)

module _ {s : List ℕ} {sc : Scene} (o : SoundScene s sc) where
  abbrev f : Layout
  f = sc.f

  abbrev g : Layout
  g = sc.g

  module _ {i j a b : ℕ} (w : Standing s f g i j) where
    -- of F
    module _ (n : NextOfF s f g i j a b) where
      at_f : Standing s f g a b
      at_f = stands_next s f g w n.nexts

      left_f : left_test s f a ≡ true
      left_f = n.nexts.of_f_lem.there n.there

      ahead_f : Ahead s g b (half s f a).segment
      ahead_f = go (dec_lt b g.count)
        where
          go : Dec (b < g.count) → Ahead s g b (half s f a).segment
          go (yes k) =
              ahead_first o.g_sound (half s f a).segment k (n.nexts.of_g_lem.there k) (left_ordered o.f_sound a n.there left_f)
              (is_true (earlier s f g a b) (n.compared k).1)
          go (no k) = ahead_none o.g_sound (half s f a).segment (omega arith)

      pub standing_f : Standing s f g (a + 1) b
      standing_f = record {
        behind_f = behind_one s f g at_f.behind_f ahead_f;
        behind_g = behind_passed s g f at_f.behind_g (none_yet s g b) (omega arith);
      }

      pub alone_f : has_segment (segments s g) (half s f a).segment ≡ false
      alone_f = unshared s f g o.g_sound n.there left_f at_f.behind_g ahead_f

    -- of G
    module _ (n : NextOfG s f g i j a b) where
      at_g : Standing s f g a b
      at_g = stands_next s f g w n.nexts

      left_g : left_test s g b ≡ true
      left_g = n.nexts.of_g_lem.there n.there

      ahead_g : Ahead s f a (half s g b).segment
      ahead_g = go (dec_lt a f.count)
        where
          go : Dec (a < f.count) → Ahead s f a (half s g b).segment
          go (yes k) =
              ahead_first o.f_sound (half s g b).segment k first_f (left_ordered o.g_sound b n.there left_g)
              (compare_across (all_ordered o.f_sound) (all_ordered o.g_sound) (across o) (half s f a).segment (half s g b).segment (left_in o.f_sound a k first_f) (left_in o.g_sound b n.there left_g)
              (n.compared k).0 (n.compared k).1)
            where
              first_f : left_test s f a ≡ true
              first_f = n.nexts.of_f_lem.there k
          go (no k) = ahead_none o.f_sound (half s g b).segment (omega arith)

      pub standing_g : Standing s f g a (b + 1)
      standing_g = record {
        behind_f = behind_passed s f g at_g.behind_f (none_yet s f a) (omega arith);
        behind_g = behind_one s g f at_g.behind_g ahead_g;
      }

      pub alone_g : has_segment (segments s f) (half s g b).segment ≡ false
      alone_g = unshared s g f o.f_sound n.there left_g at_g.behind_f ahead_g

    -- of both
    pub standing_both : NextOfBoth s f g i j a b → Standing s f g (a + 1) (b + 1)
    standing_both n = record {
      behind_f =
          behind_one s f g (behind_passed s f g v.behind_f (none_yet s f a) (omega arith))
          (ahead_same o.g_sound (half s f a).segment n.there_g (n.nexts.of_g_lem.there n.there_g) (one_segment n));
      behind_g =
          behind_one s g f (behind_passed s g f v.behind_g (none_yet s g b) (omega arith))
          (ahead_same o.f_sound (half s g b).segment n.there_f (n.nexts.of_f_lem.there n.there_f) (sym (one_segment n)));
    }
      where
        v : Standing s f g a b
        v = stands_next s f g w n.nexts

  -- of any
  pub standing_after : {i j : ℕ} → Standing s f g i j → (step : Option Step) → Stepped s f g i j step → Standing s f g (f_after i step) (g_after j step)
  standing_after w (Some (OfF a b)) n = standing_f w n
  standing_after w (Some (OfG a b)) n = standing_g w n
  standing_after w (Some (OfBoth a b)) n = standing_both w n
  standing_after w None n = w
