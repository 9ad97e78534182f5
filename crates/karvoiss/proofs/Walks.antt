-- A state that was given away and comes back is the same again.
use Rattle.std.specs.Prelude.{Some, None}
use Prim.Native.Nat.{ℕ}
use mathlib.Core.Path.{◌≡◌, refl, ap, ap₂, ◌∙◌}
use mathlib.Core.Bool.{Bool, true, false, cond, not, ◌&&◌}
use mathlib.Core.List.{List}
use Rattle.std.specs.Prelude.{eqb}
use Rattle.whole.specs.Count.{bit}
use Rattle.scene.specs.declared.Shape.{Shape}
use Rattle.scene.specs.declared.Shape.TheVariants.{Points, Line, Region}
use Rattle.scene.specs.Read.{shape_number, shape_of}
use Rattle.walk.specs.declared.Walk.{Walk}
use Rattle.walk.specs.Walked.{portion_of}
use Rattle.karvoiss.specs.Walks.{state_for_c, walk_for_c, type_test, is_turned, read_state, state_of, portion_if, portion_for_c}

is_type : (k : Shape) → type_test (shape_number k) ≡ true
is_type Points = refl
is_type Line = refl
is_type Region = refl

are_types : (b : Bool) (k l : Shape) → type_test (cond b (shape_number k) (shape_number l)) ≡ true
are_types true k l = is_type k
are_types false k l = is_type l

shape_back : (k : Shape) → shape_of (shape_number k) ≡ k
unfolding shape_of
shape_back Points = refl
shape_back Line = refl
shape_back Region = refl

bit_back : (b : Bool) → not (eqb (bit b) 0) ≡ b
bit_back true = refl
bit_back false = refl

twice : (b : Bool) (x y : ℕ) → cond b (cond b x y) (cond b y x) ≡ x
twice true x y = refl
twice false x y = refl

module _ (w : Walk) where
  -- exchanged and exchanged back
  given_back : (x y : ℕ) → cond (is_turned (state_for_c w)) (cond w.is_turned x y) (cond w.is_turned y x) ≡ x
  given_back x y = ap (λ t. cond t (cond w.is_turned x y) (cond w.is_turned y x)) (bit_back w.is_turned) ∙ twice w.is_turned x y

  state_back : read_state (state_for_c w) ≡ w
  state_back =
      let f = ap shape_of (given_back (shape_number w.f) (shape_number w.g)) ∙ shape_back w.f in
      let g = ap shape_of (given_back (shape_number w.g) (shape_number w.f)) ∙ shape_back w.g in
      let t = bit_back w.is_turned in
      let want_f = given_back w.want.f w.want.g in
      let want_g = given_back w.want.g w.want.f in
      let found_f = given_back w.found.f w.found.g in
      let found_g = given_back w.found.g w.found.f in
      λ i. record {
        f = f i;
        g = g i;
        is_turned = t i;
        want = record { f = want_f i; g = want_g i };
        events = w.events;
        taken = w.taken;
        found = record { f = found_f i; g = found_g i };
      }

  comes_back : state_of (state_for_c w) ≡ Some w
  comes_back =
      ap (λ b. cond b (Some (read_state (state_for_c w))) None) (ap₂ ◌&&◌ (are_types w.is_turned w.g w.f) (are_types w.is_turned w.f w.g)) ∙ ap Some state_back

  pub portion_back : (g : List ℕ) (n : ℕ) → portion_for_c g (state_for_c w) n ≡ walk_for_c (portion_of g w n)
  portion_back g n = ap (λ x. walk_for_c (portion_if g x n)) comes_back
