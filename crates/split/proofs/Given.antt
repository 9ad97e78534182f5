-- What a pair that is not refused gives: two sound objects, no crossing off the grid, and pieces that are few enough.
use Prim.Native.Nat.{ℕ, ◌*◌, ◌≤◌, ◌<◌}
use mathlib.Core.Path.{◌≡◌, refl, sym, ap, ◌∙◌, subst}
use mathlib.Core.Bool.{Bool, true, false, not, ◌&&◌, cond, true≢false}
use mathlib.Core.Logic.{◌⊎◌, inl, inr, ⊎_elim}
use mathlib.Core.List.{List, [], ◌∷◌}
use Rattle.std.specs.Prelude.{Ok, Err, Some, None}
use borrow.Author.Tests.{leb-true}
use lib.Dec.{T, leb}
use lib.ListN.{length}
use Rattle.whole.specs.Count.{some, ◌∈◌}
use Rattle.whole.proofs.Logic.{true_is, and_make, is_true, some_make, in_nil, Sorted, sorted_nil, sorted_cons}
use Rattle.plane.specs.declared.Segment.{Segment}
use Rattle.plane.specs.Plane.{touch, Object}
use Rattle.plane.proofs.Order.{half_of, LeftBefore, comes_irreflexive}
use Rattle.scene.specs.declared.Shape.{Shape}
use Rattle.scene.specs.declared.Shape.TheVariants.{Points, Line, Region}
use Rattle.scene.specs.declared.Layout.{Layout}
use Rattle.scene.specs.declared.Scene.{Scene}
use Rattle.scene.specs.Read.{CheckedScene, Fault, Condition, decide, judge, most, unless, given_first, given_second, read_scene, IsObject}
use Rattle.scene.specs.Conditions.{Rule, conditions, or_else, has_segments, half, left_test, segments, object_rules, object, checked_scene, check_scene_by}
use Rattle.scene.proofs.Taken.{layout}
use Rattle.scene.proofs.Outcomes.{never_taken, same_taken}
use Rattle.scene_segments.proofs.Walk.{no_segments}
use Rattle.scene.proofs.Given.{NoFault, neither, in_neither, checked_scene_lem}
use Rattle.scene.proofs.Indices.{not_nothing, none_wrong}
use Rattle.sweep_laws.proofs.SoundObject.{SoundObject, split, in_left, segments_sorted}
use Rattle.split_pieces.proofs.Different.{AllDiffer}
use Rattle.split_crossing.specs.Cuts.{SameParts}
use Rattle.split_crossing.proofs.Cutting.{OnGrid}
use Rattle.split_crossing.proofs.SplitWell.{SplitWell, first_well, second_well, nothing_touches}
use Rattle.split_cuts.specs.Split as split_cuts
use Rattle.split_cuts.specs.Split.{crosses_off, is_off_grid, off_grid}
use Rattle.split.specs.Split.{split_of, split_object, is_copied, is_off, too_many, are_too_many, raw_rules, check_raw, split_rules, check_split}

-- a test that finds no fault
unless_holds : (b : Bool) (p : ℕ) → unless b p ≡ None → b ≡ true
unless_holds true p e = refl
unless_holds false p e = absurd (not_nothing e)

sound : (s : List ℕ) (l : Layout) → IsObject s l → NoFault s l object_rules → SoundObject s l
sound s l r n = record { read = r; order = n.0; paired = n.1.0; apart = n.1.1.0; even = n.1.1.1.0; right_ia = n.1.1.1.1.0 }

pub faultless : {s : List ℕ} {l : Layout} → SoundObject s l → NoFault s l object_rules
faultless o = (o.order, (o.paired, (o.apart, (o.even, (o.right_ia, tt)))))

-- 19
grid_of : (s : List ℕ) (own other : Layout) → SoundObject s own → off_grid s own (segments s other) ≡ None → OnGrid (segments s own) (segments s other)
unfolding off_grid
grid_of s own other o none t u m k e = true≢false (sym yes ∙ no)
  where
    w : (i : ℕ) × (i < own.count) × (left_test s own i ≡ true) × ((half s own i).segment ≡ t)
    w = in_left o m

    no : is_off_grid s own (segments s other) w.0 ≡ false
    no = none_wrong own (is_off_grid s own (segments s other)) none w.0 w.1

    off : T (crosses_off (half s own w.0).segment u)
    off = subst (λ x. T (crosses_off x u)) (sym w.3) (is_true (crosses_off t u) (ap split_cuts.is_off e))

    yes : is_off_grid s own (segments s other) w.0 ≡ true
    yes =
        true_is (is_off_grid s own (segments s other) w.0)
        (and_make (left_test s own w.0) (some (crosses_off (half s own w.0).segment) (segments s other)) (is_true (left_test s own w.0) w.2) (some_make (crosses_off (half s own w.0).segment) k off))

few_of : (s : List ℕ) (own other : Layout) → too_many s own other ≡ None → 2 * length (split_of s own other) ≤ most
few_of s own other e = leb-true (2 * length (split_of s own other)) most (unless_holds (leb (2 * length (split_of s own other)) most) own.start e)

-- 10: no segment occurs twice, so no piece does
differ_of : (s : List ℕ) (own : Layout) → SoundObject s own → AllDiffer (segments s own)
differ_of s own o = go (segments_sorted o)
  where
    go : {l : List Segment} → Sorted LeftBefore l → AllDiffer l
    go sorted_nil = sorted_nil
    go (sorted_cons {a = a} first rest) = sorted_cons (λ b m k. comes_irreflexive (half_of true a) (subst (λ (x : Segment). LeftBefore a x) (sym k) (first b m))) (go rest)

-- every point keeps its part
pub unaltered : (o : Object) → SameParts o o
unaltered o = record { interior = λ z. refl; boundary = λ z. refl; exterior = λ z. refl }

pub parts_kept : (s : List ℕ) (other : Layout) (k : Shape) (start count : ℕ)
    → SplitWell (segments s (layout k start count)) (segments s other) → SameParts (object s (layout k start count)) (split_object s (layout k start count) other)
unfolding object split_object
parts_kept s other Points start count w = unaltered (object s (layout Points start count))
parts_kept s other Line start count w = w.line_kept
parts_kept s other Region start count w = w.region_kept

-- ---- a scene that can be split

-- what the checks before 21 leave: two sound objects, no crossing off the grid, and pieces that are few enough
pub record Splittable (s : List ℕ) (sc : Scene) : Type 0 where
  pub read : read_scene s ≡ Ok sc
  pub first_sound : SoundObject s (given_first sc)
  pub second_sound : SoundObject s (given_second sc)
  pub on_grid : is_off s sc ≡ None
  pub fits : are_too_many s sc ≡ None

-- of two tests
pub both_true : (a b : Bool) → not (a && b) ≡ false → (a ≡ true) × (b ≡ true)
both_true true true e = (refl, refl)
both_true true false e = absurd (true≢false e)
both_true false b e = absurd (true≢false e)

pub one_false : (a b : Bool) → not (a && b) ≡ true → (a ≡ false) ⊎ (b ≡ false)
one_false true true e = absurd (true≢false (sym e))
one_false true false e = inr refl
one_false false b e = inl refl

-- points have no segments
pub none_in : (s : List ℕ) (l : Layout) → has_segments l.shape ≡ false → {t : Segment} → t ∈ segments s l → ⊥
none_in s l e {t} m = in_nil (subst (λ (x : List Segment). t ∈ x) (no_segments s l e) m)

module _ {s : List ℕ} {sc : Scene} (w : Splittable s sc) where
  abbrev pub first : Layout
  first = given_first sc

  abbrev pub second : Layout
  second = given_second sc

  -- of a copied scene, one object has no segments
  pub one_empty : is_copied sc ≡ true → (t u : Segment) → t ∈ segments s first → u ∈ segments s second → ⊥
  one_empty h t u m k = ⊎_elim (λ e. none_in s first e m) (λ e. none_in s second e k) (one_false (has_segments first.shape) (has_segments second.shape) h)

  pub grids : OnGrid (segments s first) (segments s second)
  grids = go (is_copied sc) refl
    where
      go : (b : Bool) → is_copied sc ≡ b → OnGrid (segments s first) (segments s second)
      go true h = λ t u m k e. one_empty h t u m k
      go false h = grid_of s first second w.first_sound (ap (λ b. cond b None (off_grid s first (segments s second))) (sym h) ∙ w.on_grid)

  module _ (h : is_copied sc ≡ false) where
    pub have_segments : (has_segments first.shape ≡ true) × (has_segments second.shape ≡ true)
    have_segments = both_true (has_segments first.shape) (has_segments second.shape) h

    many : (too_many s first second ≡ None) × (too_many s second first ≡ None)
    many = neither (too_many s first second) (too_many s second first) (ap (λ b. cond b None (or_else (too_many s first second) (too_many s second first))) (sym h) ∙ w.fits)

    pub first_few : 2 * length (split_of s first second) ≤ most
    first_few = few_of s first second many.0

    pub second_few : 2 * length (split_of s second first) ≤ most
    second_few = few_of s second first many.1

  -- and so what the laws of the pieces say of the two
  pub first_split : SplitWell (segments s first) (segments s second)
  first_split = first_well (segments s first) (segments s second) (split w.first_sound) (split w.second_sound) grids

  pub second_split : SplitWell (segments s second) (segments s first)
  second_split = second_well (segments s first) (segments s second) (split w.first_sound) (split w.second_sound) grids

  pub pieces_clear : (a b : Segment) → a ∈ split_of s first second → b ∈ split_of s second first → touch a b ≡ false
  pieces_clear = nothing_touches (segments s first) (segments s second) (split w.first_sound) (split w.second_sound) grids

  pub first_differ : AllDiffer (split_of s first second)
  first_differ = first_split.different (differ_of s first w.first_sound)

  pub second_differ : AllDiffer (split_of s second first)
  second_differ = second_split.different (differ_of s second w.second_sound)

-- ---- a pair that is taken can be split

-- a list of conditions that takes a scene takes the one that was read
same_judged : (o sc : Scene) (cs : List Condition) → judge Err (Ok o) cs ≡ Ok sc → o ≡ sc
same_judged o sc [] e = same_taken e
same_judged o sc (c ∷ cs) e = go c.fault e (same_judged o sc cs)
  where
    go : (f : Fault) → decide Err c.reason f (judge Err (Ok o) cs) ≡ Ok sc → (judge Err (Ok o) cs ≡ Ok sc → o ≡ sc) → o ≡ sc
    go (Some p) x later = absurd (never_taken x)
    go None x later = later x

was_read : (rules : List (Rule Scene)) (s : List ℕ) (sc : Scene) → check_scene_by rules s ≡ Ok sc → read_scene s ≡ Ok sc
unfolding check_scene_by
was_read rules s sc e = go (read_scene s) refl e
  where
    go : (r : CheckedScene) → read_scene s ≡ r → checked_scene rules s r ≡ Ok sc → read_scene s ≡ Ok sc
    go (Err r) q x = absurd (never_taken x)
    go (Ok o) q x = q ∙ ap (λ (z : Scene). Ok z) (same_judged o sc (conditions rules s o) x)

pub raw_read_as : (s : List ℕ) (sc : Scene) → check_raw s ≡ Ok sc → read_scene s ≡ Ok sc
unfolding check_raw
raw_read_as s sc e = was_read raw_rules s sc e

-- two objects that are taken, each by itself
pub both_sound : (s : List ℕ) (sc : Scene) → check_raw s ≡ Ok sc → SoundObject s (given_first sc) × SoundObject s (given_second sc)
unfolding check_raw
both_sound s sc e =
    let w = checked_scene_lem raw_rules s sc e in
    let n = in_neither s sc object_rules w.1 in
    (sound s (given_first sc) w.0.first_read n.0, sound s (given_second sc) w.0.second_taken.read n.1)

pub splittable : (s : List ℕ) (room : ℕ) (sc : Scene) → check_split s room ≡ Ok sc → Splittable s sc
unfolding check_split
splittable s room sc e =
    let w = checked_scene_lem (split_rules room) s sc e in
    let n = w.1 in
    let o = in_neither s sc object_rules (n.0, (n.1.0, (n.1.1.0, (n.1.1.1.0, (n.1.1.1.1.0, tt))))) in
    record {
      read = was_read (split_rules room) s sc e;
      first_sound = sound s (given_first sc) w.0.first_read o.0;
      second_sound = sound s (given_second sc) w.0.second_taken.read o.1;
      on_grid = n.1.1.1.1.1.0;
      fits = n.1.1.1.1.1.1.0;
    }
