-- One pass for 10 over the elements of an object: how far it has come, and one step of it.
use Rattle.std.specs.Prelude.{None}
use Prim.Native.Nat.{ℕ, ◌+◌, ◌-◌, ◌<◌, ◌≤◌}
use native.Mathlib.Decide.{dec_lt}
use native.Mathlib.Omega.{arith}
use mathlib.Core.Path.{◌≡◌, refl, sym, ap, ◌∙◌}
use mathlib.Core.Bool.{Bool, true, false, not}
use mathlib.Core.List.{List}
use borrow.Author.Tests.{lt-ltb}
use Rattle.scene.specs.declared.Layout.{Layout}
use Rattle.scene.specs.Read.{size, place}
use Rattle.scene.specs.Conditions.{earliest, is_in_order, is_misplaced, out_of_order}
use Rattle.scene_segments.proofs.Indices.{not_nothing}
use Rattle.scene_segments.proofs.Walk.{between, all_between, earliest_here, earliest_later, earliest_none}

-- the element before i stands at the offset, and none before i is at fault, so the answer is that of the rest
pub record Reached (s : List ℕ) (l : Layout) (at i : ℕ) : Type 0 where
  pub after_first : 0 < i
  pub here : at ≡ place l (i - 1)
  pub rest : out_of_order s l ≡ earliest l (is_misplaced s l) (between i l.count)

-- a turn at the element i, whose records take `step` bytes each
pub record Turn (s : List ℕ) (l : Layout) (step at i : ℕ) : Type 0 where
  pub next : at + step ≡ place l i
  pub on : is_in_order s l (i - 1) i ≡ true → Reached s l (at + step) (i + 1)
  pub off : is_in_order s l (i - 1) i ≡ false → out_of_order s l ≡ None → ⊥

module _ (s : List ℕ) (l : Layout) where
  pub begin : Reached s l (l.start + 2) 1
  unfolding out_of_order
  begin = record {
    after_first = omega arith;
    here = omega arith;
    rest = ap (earliest l (is_misplaced s l)) (all_between l.count) ∙ go (dec_lt 0 l.count);
  }
    where
      go : Dec (0 < l.count) → earliest l (is_misplaced s l) (between 0 l.count) ≡ earliest l (is_misplaced s l) (between 1 l.count)
      go (yes h) = earliest_later l (is_misplaced s l) 0 l.count h refl
      go (no h) = earliest_none l (is_misplaced s l) 0 l.count (omega arith) ∙ sym (earliest_none l (is_misplaced s l) 1 l.count (omega arith))

  pub done : {at i : ℕ} → Reached s l at i → l.count ≤ i → out_of_order s l ≡ None
  done {at} {i} r h = r.rest ∙ earliest_none l (is_misplaced s l) i l.count h

  pub turn : {step at i : ℕ} → step ≡ size l.shape → Reached s l at i → i < l.count → Turn s l step at i
  turn {step} {at} {i} e r h = record {
    next = next;
    on = λ o. record {
      after_first = omega arith;
      here = next ∙ ap (place l) back;
      rest = r.rest ∙ earliest_later l (is_misplaced s l) i l.count h (misplaced o);
    };
    off = λ o none. not_nothing (sym (earliest_here l (is_misplaced s l) i l.count h (misplaced o)) ∙ sym r.rest ∙ none);
  }
    where
      beyond : at + step ≡ place l (i - 1 + 1)
      beyond = omega arith

      on_one : i - 1 + 1 ≡ i
      on_one = omega arith

      back : i ≡ i + 1 - 1
      back = omega arith

      next : at + step ≡ place l i
      next = beyond ∙ ap (place l) on_one

      misplaced : {b : Bool} → is_in_order s l (i - 1) i ≡ b → is_misplaced s l i ≡ not b
      misplaced o = rw (lt-ltb 0 i r.after_first) (ap not o)
