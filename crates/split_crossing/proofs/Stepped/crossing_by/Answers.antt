-- Where they cross, the side value of the left end is the change with each step so many times, and perhaps a rest.
use Rattle.std.proofs.Common.{◌≡◌, ◌∙◌, refl, sym, ap, subst, arith, ℕ, ◌%◌, ◌≤◌, Bool, true, false, Some, None}
use Rattle.std.specs.Prelude.{cond}
use Rattle.std.proofs.lemmas.Option.{none-some, same_Some}
use borrow.Author.Tests.{eqb-true, eqb-false}
use Rattle.plane.proofs.Machine.{turn_asks, small_fits, left_in_range}
use Rattle.split_crossing.proofs.BySides.{apart_is, by_step, machine_cross, size_is, change_is, all_fit, before_back, step_held, step_back, all_back, count_back, step_small, all_small, total_small}
use Rattle.split_crossing.specs.declared.Crossing.TheVariants.{At}
use Rattle.split_crossing.specs.Steps.{reached}
use Rattle.split_crossing.proofs.Crossings.{with_meaning}
use Rattle.split_crossing.proofs.Reached.{above, few, there, nowhere}
use Rattle.split_crossing.proofs.Stepped.crossing_by.Goals as goal

-- the number of steps, if it is whole
told : (b : Bool) {n k : ℕ} → cond b (Some n) None ≡ Some k → (b ≡ true) × (n ≡ k)
told true {n} {k} e = (refl, same_Some n k e)
told false {n} {k} e = absurd (none-some k e)

untold : (b : Bool) (n : ℕ) → cond b (Some n) None ≡ None → b ≡ false
untold true n e = absurd (none-some n (sym e))
untold false n e = refl

pub side-before-requires : goal.side-before-requires
side-before-requires c = turn_asks c.args.t c.args.self.segment.left c.requires.0 (left_in_range c.args.self.segment c.args.self.in_range)

pub overflow_sub-change : goal.overflow_sub-change
overflow_sub-change c =
    let a = c.args in
    rw (step_held a.self a.t c.requires.0 a.left a.right c.requires.1)
    (small_fits (by_step a.self a.t c.requires.0 a.left a.right c.requires.1) (omega (arith, step_small a.self a.t c.requires.0 a.left a.right c.requires.1)))

pub overflow_mul-self : goal.overflow_mul-self
overflow_mul-self c =
    let a = c.args in
    rw (count_back a.self a.t c.requires.0 a.left a.right c.requires.1, step_held a.self a.t c.requires.0 a.left a.right c.requires.1, step_back a.self a.t c.requires.0 a.left a.right c.requires.1)
    (small_fits _ (omega (arith, all_small a.self a.t c.requires.0 a.left a.right c.requires.1)))

pub overflow_sub-before : goal.overflow_sub-before
overflow_sub-before c =
    let a = c.args in
    rw (
      before_back a.self a.t c.requires.0 a.left a.right c.requires.1 c.side-before.ensures,
      count_back a.self a.t c.requires.0 a.left a.right c.requires.1,
      step_held a.self a.t c.requires.0 a.left a.right c.requires.1,
      step_back a.self a.t c.requires.0 a.left a.right c.requires.1,
      all_back a.self a.t c.requires.0 a.left a.right c.requires.1,
    )
    (small_fits _ (omega (arith, total_small a.self a.t c.requires.0 a.left a.right c.requires.1)))

pub returns-then-not-are_opposite : goal.returns-then-not-are_opposite
returns-then-not-are_opposite c =
    let a = c.args in
    let x = c.are_opposite.ensures ∙ machine_cross a.self a.t c.requires.0 a.left a.right c.requires.1 c.requires.2 c.side-before.ensures in
    with_meaning a.self.segment a.t (apart_is a.self.segment a.t (sym x ∙ c.if-not-are_opposite.true))

pub times_in-requires : goal.times_in-requires
times_in-requires c =
    let a = c.args in
    let x = sym c.if-not-are_opposite.false ∙ c.are_opposite.ensures ∙ machine_cross a.self a.t c.requires.0 a.left a.right c.requires.1 c.requires.2 c.side-before.ensures in
    let e = size_is a.self a.t c.requires.0 a.left a.right c.requires.1 c.side-before.ensures c.unsigned_abs-2.ensures.value in
    let f = change_is a.self a.t c.requires.0 a.left a.right c.requires.1 c.unsigned_abs.ensures.value in (
      above a.self a.t x c.unsigned_abs-2.result c.unsigned_abs.result e f,
      few a.self a.t x c.unsigned_abs-2.result c.unsigned_abs.result e f,
      omega (arith, all_fit a.self a.t c.requires.0 a.left a.right c.requires.1 c.unsigned_abs.ensures.value),
    )

pub reached-requires : goal.reached-requires
reached-requires c =
    let a = c.args in
    let x = sym c.if-not-are_opposite.false ∙ c.are_opposite.ensures ∙ machine_cross a.self a.t c.requires.0 a.left a.right c.requires.1 c.requires.2 c.side-before.ensures in
    let e = size_is a.self a.t c.requires.0 a.left a.right c.requires.1 c.side-before.ensures c.unsigned_abs-2.ensures.value in
    let f = change_is a.self a.t c.requires.0 a.left a.right c.requires.1 c.unsigned_abs.ensures.value in
    subst (λ n. n ≤ a.self.count) (told _ (sym c.times_in.ensures ∙ c.in-Some.is)).1 (few a.self a.t x c.unsigned_abs-2.result c.unsigned_abs.result e f)

pub returns-in-Some : goal.returns-in-Some
returns-in-Some c =
    let a = c.args in
    let x = sym c.if-not-are_opposite.false ∙ c.are_opposite.ensures ∙ machine_cross a.self a.t c.requires.0 a.left a.right c.requires.1 c.requires.2 c.side-before.ensures in
    let e = size_is a.self a.t c.requires.0 a.left a.right c.requires.1 c.side-before.ensures c.unsigned_abs-2.ensures.value in
    let f = change_is a.self a.t c.requires.0 a.left a.right c.requires.1 c.unsigned_abs.ensures.value in
    let w = told _ (sym c.times_in.ensures ∙ c.in-Some.is) in
    with_meaning a.self.segment a.t
    (ap At (c.reached.ensures ∙ ap (reached a.self.segment a.self.next) (sym w.1))
    ∙ there a.self a.t x c.unsigned_abs-2.result c.unsigned_abs.result e f (eqb-true (c.unsigned_abs-2.result % c.unsigned_abs.result) 0 w.0))

pub returns-in-None : goal.returns-in-None
returns-in-None c =
    let a = c.args in
    let x = sym c.if-not-are_opposite.false ∙ c.are_opposite.ensures ∙ machine_cross a.self a.t c.requires.0 a.left a.right c.requires.1 c.requires.2 c.side-before.ensures in
    let e = size_is a.self a.t c.requires.0 a.left a.right c.requires.1 c.side-before.ensures c.unsigned_abs-2.ensures.value in
    let f = change_is a.self a.t c.requires.0 a.left a.right c.requires.1 c.unsigned_abs.ensures.value in
    with_meaning a.self.segment a.t
    (nowhere a.self a.t x c.unsigned_abs-2.result c.unsigned_abs.result e f
    (eqb-false (c.unsigned_abs-2.result % c.unsigned_abs.result) 0 (untold _ _ (sym c.times_in.ensures ∙ c.in-None.is))))
