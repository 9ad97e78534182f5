-- An object beside an empty one of its type: a scene that is refused as the object alone is, and taken where it is taken.
use Rattle.scene.specs.declared.Reason.TheVariants.{Flawed}
use Rattle.scene.specs.declared.Flaw.TheVariants.{Misplaced, Unpaired, Touching, OddEnd, WrongIa}
use Rattle.std.specs.Prelude.{Err, None, Ok, Some}
use Rattle.scene.specs.Read.{Fault}
use Rattle.check_verdict.specs.Refusals.{Verdict}
use Prim.Native.Nat.{ℕ}
use mathlib.Core.Path.{◌≡◌, refl, ap, ap₂, ◌∙◌}
use mathlib.Core.List.{List, ◌++◌}
use lib.ListN.{length}
use Rattle.scene.specs.declared.Shape.{Shape}
use Rattle.scene.specs.declared.Shape.TheVariants.{Points, Line, Region}
use Rattle.scene.specs.declared.Layout.{Layout}
use Rattle.scene.specs.declared.Scene.{Scene}
use Rattle.scene.specs.Read.{kind_of, shape_of, record_at, elements_from, read_object, read_alone, IsScene}
use Rattle.scene.specs.Conditions.{Rule, rule, segments, touching, out_of_order, unpaired, touching_itself, odd_end, wrong_ia, or_else, over_both, touching_across, check_scene}
use Rattle.scene.proofs.Taken.{Arranged, layout, taken_alone}
use Rattle.scene.proofs.Moved.{moved, moved_fault, unmoved_fault}
use Rattle.scene.proofs.Standing.{moved_faults}
use Rattle.scene.proofs.SideBySide.{first_stands, second_stands, beside, beside_read, beside_given}
use Rattle.check_verdict.specs.Refusals.{settle, object_verdict, geometry_verdict}
use Rattle.check_verdict.proofs.EitherOrder.{across_none, checked}
use Rattle.whole.proofs.Logic.{in_nil}
use Rattle.check_alone.specs.Beside.{empty_of}

-- ---- the empty object

abbrev pub nothing : Shape → Layout
nothing k = layout k 0 0

pub empty_read : (k : Shape) → read_alone (empty_of k) ≡ Ok (nothing k)
unfolding read_alone read_object record_at elements_from kind_of shape_of
empty_read Points = refl
empty_read Line = refl
empty_read Region = refl

pub empty_faultless : (k : Shape)
    → (out_of_order (empty_of k) (nothing k) ≡ None) × (unpaired (empty_of k) (nothing k) ≡ None) × (touching_itself (empty_of k) (nothing k) ≡ None)
    × (odd_end (empty_of k) (nothing k) ≡ None) × (wrong_ia (empty_of k) (nothing k) ≡ None)
unfolding out_of_order unpaired touching_itself touching odd_end wrong_ia
empty_faultless k = (refl, refl, refl, refl, refl)

-- ---- beside it

module _ (a : List ℕ) (l : Layout) (k : Shape) (read : read_alone a ≡ Ok l) where
  abbrev pub scene : Scene
  scene = beside a (empty_of k) l (nothing k)

  given : Arranged l (moved (length a) (nothing k)) scene
  given = beside_given a (empty_of k) l (nothing k) read (empty_read k)

  pub is_scene : IsScene (a ++ empty_of k) scene
  is_scene = beside_read a (empty_of k) l (nothing k) read (empty_read k)

  nothing_found : (f : Fault) → or_else f None ≡ f
  nothing_found (Some p) = refl
  nothing_found None = refl

  -- a rule over both finds what it finds in the object, and at the same place
  found : (r : Rule Layout) → r.fault (a ++ empty_of k) l ≡ moved_fault 0 (r.fault a l) → r.fault (a ++ empty_of k) (moved (length a) (nothing k)) ≡ moved_fault (length a) None
      → (over_both r).fault (a ++ empty_of k) scene ≡ r.fault a l
  found r x y =
      ap₂ or_else (ap (r.fault (a ++ empty_of k)) given.first ∙ x ∙ unmoved_fault (r.fault a l)) (ap (r.fault (a ++ empty_of k)) given.second ∙ y)
      ∙ nothing_found (r.fault a l)

  none_across : touching_across (a ++ empty_of k) scene ≡ None
  unfolding segments
  none_across = (across_none a (empty_of k) l (nothing k) read (empty_read k)).1 (λ t u m i n p. absurd (in_nil i))

  pub verdict_same : geometry_verdict (a ++ empty_of k) scene ≡ object_verdict a l
  unfolding geometry_verdict object_verdict
  verdict_same =
      let x = moved_faults (first_stands a (empty_of k) l (taken_alone a l read).read) in
      let y = moved_faults (second_stands a (empty_of k) (nothing k) (taken_alone (empty_of k) (nothing k) (empty_read k)).read) in
      let n = empty_faultless k in
      rw (
        found (rule (Flawed Misplaced) out_of_order) x.0 (y.0 ∙ ap (moved_fault (length a)) n.0),
        found (rule (Flawed Unpaired) unpaired) x.1.0 (y.1.0 ∙ ap (moved_fault (length a)) n.1),
        found (rule (Flawed Touching) touching_itself) x.1.1.0 (y.1.1.0 ∙ ap (moved_fault (length a)) n.2),
        found (rule (Flawed OddEnd) odd_end) x.1.1.1.0 (y.1.1.1.0 ∙ ap (moved_fault (length a)) n.3),
        found (rule (Flawed WrongIa) wrong_ia) x.1.1.1.1.0 (y.1.1.1.1.0 ∙ ap (moved_fault (length a)) n.4),
        none_across,
      )

  -- the check of the scene is that of the object
  pub checked_beside : check_scene (a ++ empty_of k) ≡ settle Err (object_verdict a l) (Ok scene)
  checked_beside = checked (a ++ empty_of k) scene is_scene ∙ ap (λ (v : Verdict). settle Err v (Ok scene)) verdict_same
