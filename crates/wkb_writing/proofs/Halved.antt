-- Half of an accepted object's halfsegments are left ones, since each segment has both: so many parts are written, and so many bytes.
use Rattle.std.specs.Prelude.{Ok}
use Prim.Native.Nat.{ℕ, ◌*◌, ◌≤◌}
use native.Mathlib.Omega.{arith}
use mathlib.Core.Path.{◌≡◌, refl, sym, ap, subst, ◌∙◌}
use mathlib.Core.Bool.{true}
use mathlib.Core.List.{List, []}
use lib.ListN.{length, length-map}
use Rattle.whole.proofs.Logic.{Sorted, sorted_nil, sorted_cons}
use Rattle.plane.proofs.Order.{half_of, LeftBefore, comes_irreflexive}
use Rattle.scene.specs.declared.Shape.{Shape}
use Rattle.scene.specs.declared.Shape.TheVariants.{Points, Line, Region}
use Rattle.scene.specs.declared.Layout.{Layout}
use Rattle.scene.specs.Conditions.{elements, has_segments, half, segments, check_object}
use Rattle.scene.proofs.Taken.{taken_object}
use Rattle.check_alone.proofs.Accepted.{halves_again}
use Rattle.check_verdict.proofs.Laws.{SoundObject, sound_object, all_ordered, split, segments_sorted}
use Rattle.scene_written.specs.Arranged.{line_items}
use Rattle.scene_writing.proofs.InOrder.{settled_line_sorted, settled_line}
use Rattle.scene_writing.proofs.SettledBack.{settled_length}
use Rattle.scene_written.proofs.Again.{indices_length}
use Rattle.wkb_writing.specs.Parts.{parts_from, count_from, part_length}
use Rattle.wkb_writing.proofs.OneByOne.{parts_long, count_points, count_segments}

-- what is in a strict order is different
pub apart_of : {A : Type 0} (R : A → A → Type 0) → ((a : A) → ¬ R a a) → {l : List A} → Sorted R l → Sorted (λ a b. ¬ (a ≡ b)) l
apart_of R never sorted_nil = sorted_nil
apart_of R never (sorted_cons {a = a} before rest) = sorted_cons (λ b m e. never a (subst (R a) (sym e) (before b m))) (apart_of R never rest)

module _ {s : List ℕ} {l : Layout} (o : SoundObject s l) where
  -- as many as where they are written one after the other
  pub two_items : length (line_items (segments s l)) ≡ 2 * length (segments s l)
  two_items =
      ap length (sym (settled_line (segments s l) (all_ordered o) (settled_line_sorted (segments s l) (all_ordered o) (split o).apart (apart_of LeftBefore (λ t. comes_irreflexive (half_of true t)) (segments_sorted o))) []))
      ∙ settled_length Line refl (segments s l) [] tt

  two_segments : has_segments l.shape ≡ true → 2 * length (segments s l) ≡ l.count
  two_segments e = sym two_items ∙ ap length (halves_again o e) ∙ length-map (elements l) (half s l) ∙ indices_length l.count 0

module _ (s : List ℕ) (l : Layout) (e : check_object s ≡ Ok l) where
  pub count_halved : has_segments l.shape ≡ true → 2 * count_from s l l.count 0 ≡ l.count
  count_halved h = omega (arith, count_segments s l h, two_segments (sound_object s l e) h)

  few : l.count ≤ 1024
  few = (taken_object s l.start l (sound_object s l e).read).few

  -- 1,024 points, or 512 segments
  pub parts_few : count_from s l l.count 0 ≤ 1024
  parts_few = of l.shape refl
    where
      of : (k : Shape) → l.shape ≡ k → count_from s l l.count 0 ≤ 1024
      of Points q = omega (arith, few, count_points s l (ap has_segments q))
      of Line q = omega (arith, few, count_halved (ap has_segments q))
      of Region q = omega (arith, few, count_halved (ap has_segments q))

  -- of 21 bytes, or of 41
  pub parts_fit : length (parts_from s l l.count 0) ≤ 21504
  parts_fit = of l.shape refl
    where
      n : ℕ
      n = count_from s l l.count 0

      long : {k : Shape} → l.shape ≡ k → length (parts_from s l l.count 0) ≡ n * part_length k
      long q = parts_long s l l.count 0 ∙ ap (λ (k : Shape). n * part_length k) q

      of : (k : Shape) → l.shape ≡ k → length (parts_from s l l.count 0) ≤ 21504
      of Points q = omega (arith, few, long q, count_points s l (ap has_segments q))
      of Line q = omega (arith, few, long q, count_halved (ap has_segments q))
      of Region q = omega (arith, few, long q, count_halved (ap has_segments q))
