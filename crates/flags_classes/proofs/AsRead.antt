-- The classes by notes that bytes hold are those by the bytes: the tests only ask whether a note is 0, and no element has one beyond the first 2,048.
use Rattle.std.specs.Prelude.{map}
use Prim.Native.Nat.{ℕ, ◌+◌, ◌<◌, ◌≤◌}
use native.Mathlib.Omega.{arith}
use mathlib.Core.Path.{◌≡◌, ap, ◌∙◌}
use mathlib.Core.Bool.{Bool, not, ◌&&◌}
use mathlib.Core.List.{List}
use lib.Dec.{eqb}
use lib.ListN.{get_or, take}
use Rattle.scene.specs.declared.Layout.{Layout}
use Rattle.scene.specs.declared.Scene.{Scene}
use Rattle.scene.specs.Conditions.{elements, ia, left_test}
use Rattle.scene_segments.proofs.Indices.{in_element}
use Rattle.sweep_notes.specs.Numbers.{as_read}
use Rattle.sweep_notes.proofs.AsRead.{even_read, note_read}
use Rattle.flags.proofs.Elements.{some_on}
use Rattle.flags_classes.specs.Classed.{some_left, is_shared, both_above_test, both_below_test, opposite, classes, classes_of_f, classes_of_g}

module _ (s : List ℕ) (own other : Layout) (a b : ℕ → ℕ) (same : (i : ℕ) → i < own.count → eqb (a i) 0 ≡ eqb (b i) 0) where
  some_same_lem : (t : Bool → ℕ → Bool) → some_left s own (λ i. t (eqb (a i) 0) i) ≡ some_left s own (λ i. t (eqb (b i) 0) i)
  some_same_lem t = some_on (λ i. left_test s own i && t (eqb (a i) 0) i) (λ i. left_test s own i && t (eqb (b i) 0) i) (elements own) (λ i m. ap (λ e. left_test s own i && t e i) (same i (in_element own i m)))

  classes_same : classes s own other a ≡ classes s own other b
  classes_same = λ i. record {
    above_outside = some_same_lem (λ e i. ia s own i && (not (is_shared s own other i) && e)) i;
    below_outside = some_same_lem (λ e i. not (ia s own i) && (not (is_shared s own other i) && e)) i;
    above_inside = some_same_lem (λ e i. ia s own i && (not (is_shared s own other i) && not e)) i;
    below_inside = some_same_lem (λ e i. not (ia s own i) && (not (is_shared s own other i) && not e)) i;
    both_above = some_left s own (both_above_test s own other);
    both_below = some_left s own (both_below_test s own other);
    opposite = some_left s own (opposite s own other);
  }

module _ (s : List ℕ) (sc : Scene) (bytes : List ℕ) where
  abbrev notes : List ℕ
  notes = map as_read (take 2048 bytes)

  even_note : (k : ℕ) → k < 2048 → eqb (get_or notes k 0) 0 ≡ eqb (get_or bytes k 0) 0
  even_note k h = ap (λ n. eqb n 0) (note_read bytes k h) ∙ even_read (get_or bytes k 0)

  pub classes_read_f : sc.f.count ≤ 1024 → classes_of_f s sc notes ≡ classes_of_f s sc bytes
  classes_read_f few = classes_same s sc.f sc.g (λ i. get_or notes i 0) (λ i. get_or bytes i 0) (λ i h. even_note i (omega (arith, few, h)))

  pub classes_read_g : sc.g.count ≤ 1024 → classes_of_g s sc notes ≡ classes_of_g s sc bytes
  classes_read_g few = classes_same s sc.g sc.f (λ j. get_or notes (1024 + j) 0) (λ j. get_or bytes (1024 + j) 0) (λ j h. even_note (1024 + j) (omega (arith, few, h)))
