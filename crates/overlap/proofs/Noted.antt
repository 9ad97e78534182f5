-- The sides of the segment that the walk comes to, by ia where it is a region's own, and by the sweep's note where it is none of the region's.
use Prim.Native.Nat.{ℕ, ◌+◌, ◌<◌}
use mathlib.Core.Path.{◌≡◌, refl, sym, ap, ◌∙◌}
use mathlib.Core.Bool.{Bool, true, false, not, ◌&&◌}
use mathlib.Core.List.{List}
use lib.Dec.{T, eqb}
use lib.ListN.{get_or}
use Rattle.whole.proofs.Logic.{true_is}
use Rattle.plane.specs.declared.Segment.{Segment}
use Rattle.plane.specs.Plane.{segment_in_range}
use Rattle.plane.proofs.Accepted.{Across}
use Rattle.scene.specs.declared.Layout.{Layout}
use Rattle.scene.specs.declared.Scene.{Scene}
use Rattle.scene.specs.Conditions.{has_segments, is_region, half, ia, left_test, segments}
use Rattle.scene_segments.proofs.Elements.{region_segments}
use Rattle.sweep_laws.specs.Noted.{Noted}
use Rattle.check_verdict.proofs.Laws.{SoundObject, across}
use Rattle.flags.specs.Flags.{has_segment}
use Rattle.flags.specs.Elements.{edges, same_ia}
use Rattle.flags.proofs.Elements.{outline_edges}
use Rattle.cells_matrix.proofs.Common.{across_swap}
use Rattle.flags_classes.specs.Walked.{NextOfF, NextOfG, NextOfBoth}
use Rattle.flags_classes.proofs.Behind.{shared, edge_is}
use Rattle.flags_classes.proofs.Standing.{Standing, one_segment, alone_f, alone_g}
use Rattle.flags_table.proofs.Noting.{Knows, knows_f, knows_g, middle_inside}
use Rattle.overlap.specs.declared.adjoining.Sides.{Sides}
use Rattle.overlap.specs.Bytes.{adjoins}
use Rattle.overlap.proofs.Adjoins.{adjoins_own, adjoins_other}
use Rattle.overlap.specs.Walked.{TwoRegions, SidesAre, NextSides}
use Rattle.overlap.proofs.Merging.{list_f, list_g, list_both}

-- ---- the sides of one region

-- as they are by ia, and by a note
abbrev OwnSides : Sides → Bool → Type 0
OwnSides x ia = (x.below ≡ not ia) × (x.above ≡ ia)

abbrev NoteSides : Sides → ℕ → Type 0
NoteSides x note = (x.below ≡ not (eqb note 0)) × (x.above ≡ not (eqb note 0))

module _ {s : List ℕ} {l : Layout} (p : SoundObject s l) {i : ℕ} (h : i < l.count) (e : left_test s l i ≡ true) where
  own_side : (above : Bool) → same_ia above (ia s l i) ≡ adjoins above (edges s l) (half s l i).segment
  own_side above = sym (edge_is s l l p h e h e refl above) ∙ adjoins_own (edges s l) (half s l i).segment above (outline_edges s l) (shared s l l p h e h e refl)

  own_sides : {x : Sides} → OwnSides x (ia s l i) → SidesAre x (edges s l) (half s l i).segment
  own_sides q = (q.0 ∙ own_side false, q.1 ∙ own_side true)

module _ {s : List ℕ} {own other : Layout} (is : SoundObject s own) (are : SoundObject s other) (has : has_segments own.shape ≡ true) (region : is_region other.shape ≡ true)
    (apart : Across (segments s own) (segments s other)) {note : ℕ → ℕ} (knows : Knows s own other note) (i : ℕ) (h : i < own.count)
    (alone : has_segment (segments s other) (half s own i).segment ≡ false) where
  note_side : (above : Bool) → not (eqb (note i) 0) ≡ adjoins above (edges s other) (half s own i).segment
  note_side above =
      sym (middle_inside is are has region apart knows i h ∙ ap (λ b. not b && not (eqb (note i) 0)) alone)
      ∙ adjoins_other (edges s other) (half s own i).segment above (outline_edges s other) alone

  note_sides : {x : Sides} → NoteSides x (note i) → SidesAre x (edges s other) (half s own i).segment
  note_sides q = (q.0 ∙ note_side false, q.1 ∙ note_side true)

-- ---- the steps of the walk

module _ {s : List ℕ} {sc : Scene} (two : TwoRegions s sc) where
  abbrev f : Layout
  f = sc.f

  abbrev g : Layout
  g = sc.g

  is_f : is_region f.shape ≡ true
  is_f = true_is (is_region f.shape) two.1

  is_g : is_region g.shape ≡ true
  is_g = true_is (is_region g.shape) two.2

  module _ {notes : List ℕ} (noted : Noted s sc notes) {i j a b : ℕ} (w : Standing s f g i j) {t : Segment} {x y : Sides} (r : T (segment_in_range t)) where
    pub noted_f : NextOfF s f g i j a b → t ≡ (half s f a).segment → OwnSides x (ia s f a) → NoteSides y (get_or notes a 0) → NextSides s f g i j t x y (a + 1) b
    noted_f n e p q = record {
      next = list_f s f g r n e;
      of_f_lem = rw e (own_sides two.0.f_sound n.there left p);
      of_g_lem = rw e (note_sides two.0.f_sound two.0.g_sound has is_g (across two.0) (knows_f noted has) a n.there (alone_f two.0 w n) q);
    }
      where
        left : left_test s f a ≡ true
        left = n.nexts.of_f_lem.there n.there

        has : has_segments f.shape ≡ true
        has = region_segments f.shape is_f

    pub noted_g : NextOfG s f g i j a b → t ≡ (half s g b).segment → NoteSides x (get_or notes (1024 + b) 0) → OwnSides y (ia s g b) → NextSides s f g i j t x y a (b + 1)
    noted_g n e p q = record {
      next = list_g s f g r n e;
      of_f_lem = rw e (note_sides two.0.g_sound two.0.f_sound has is_f (across_swap (across two.0)) (knows_g noted has) b n.there (alone_g two.0 w n) p);
      of_g_lem = rw e (own_sides two.0.g_sound n.there left q);
    }
      where
        left : left_test s g b ≡ true
        left = n.nexts.of_g_lem.there n.there

        has : has_segments g.shape ≡ true
        has = region_segments g.shape is_g

    pub noted_both : NextOfBoth s f g i j a b → t ≡ (half s f a).segment → OwnSides x (ia s f a) → OwnSides y (ia s g b) → NextSides s f g i j t x y (a + 1) (b + 1)
    noted_both n e p q = record {
      next = list_both s f g r n e;
      of_f_lem = rw e (own_sides two.0.f_sound n.there_f (n.nexts.of_f_lem.there n.there_f) p);
      of_g_lem = rw (e, one_segment n) (own_sides two.0.g_sound n.there_g (n.nexts.of_g_lem.there n.there_g) q);
    }
