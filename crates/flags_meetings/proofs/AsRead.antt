-- The meetings by notes that bytes hold are those by the bytes: each test takes every number above 1 alike, and no element of F has a note beyond the first 1,024.
use Rattle.std.specs.Prelude.{map}
use Prim.Native.Nat.{ℕ, ◌≤◌}
use native.Mathlib.Omega.{arith}
use mathlib.Core.Path.{◌≡◌, refl, ap, ◌∙◌}
use mathlib.Core.Bool.{Bool, ◌&&◌}
use mathlib.Core.List.{List}
use lib.Dec.{eqb}
use lib.ListN.{get_or, take}
use Rattle.whole.specs.Count.{◌∈◌}
use Rattle.plane.specs.Plane.{is_boundary}
use Rattle.scene.specs.declared.Scene.{Scene}
use Rattle.scene.specs.Conditions.{elements}
use Rattle.scene_segments.proofs.Indices.{in_element}
use Rattle.scene_keys.specs.Keyed.{element_point}
use Rattle.sweep_notes.specs.Numbers.{as_read}
use Rattle.sweep_notes.proofs.AsRead.{even_read, odd_read, on_read, note_read}
use Rattle.flags.proofs.Elements.{some_on}
use Rattle.flags_meetings.specs.Met.{degree, Test, bound_outside_test, bound_inside_test, bound_on_test, bound_bound_test, bound_inner_test, inner_bound_test, inner_inner_test, bound_of_g_test, some_of_f, some_of_g, meetings}

module _ (s : List ℕ) (sc : Scene) (few : sc.f.count ≤ 1024) (bytes : List ℕ) where
  abbrev notes : List ℕ
  notes = map as_read (take 2048 bytes)

  some_read : (t : Test) → ((a b n : ℕ) → t a b (as_read n) ≡ t a b n) → some_of_f s sc notes t ≡ some_of_f s sc bytes t
  some_read t same = some_on (test notes) (test bytes) (elements sc.f) one
    where
      test : List ℕ → ℕ → Bool
      test l i = t (degree s sc.f (element_point s sc.f i)) (degree s sc.g (element_point s sc.f i)) (get_or l i 0)

      one : (i : ℕ) → i ∈ elements sc.f → test notes i ≡ test bytes i
      one i m =
          ap (t (degree s sc.f (element_point s sc.f i)) (degree s sc.g (element_point s sc.f i))) (note_read bytes i (omega (arith, few, in_element sc.f i m)))
          ∙ same (degree s sc.f (element_point s sc.f i)) (degree s sc.g (element_point s sc.f i)) (get_or bytes i 0)

  pub meetings_read : meetings s sc notes ≡ meetings s sc bytes
  meetings_read = λ i. record {
    bound_outside = some_read bound_outside_test (λ a b n. ap (λ e. is_boundary a && (eqb b 0 && e)) (even_read n)) i;
    bound_inside = some_read bound_inside_test (λ a b n. ap (λ e. is_boundary a && (eqb b 0 && e)) (odd_read n)) i;
    bound_on = some_read bound_on_test (λ a b n. ap (λ e. is_boundary a && (eqb b 0 && e)) (on_read n)) i;
    bound_bound = some_read bound_bound_test (λ a b n. refl) i;
    bound_inner = some_read bound_inner_test (λ a b n. refl) i;
    inner_bound = some_read inner_bound_test (λ a b n. refl) i;
    inner_inner = some_read inner_inner_test (λ a b n. refl) i;
    bound_of_g = some_of_g s sc bound_of_g_test;
  }
