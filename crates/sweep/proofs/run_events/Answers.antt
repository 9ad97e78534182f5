use Rattle.std.proofs.Common.{◌≡◌, ℕ, ◌≤◌, Bool, true, false, cond, List, sym, ap, ◌∙◌, arith}
use Rattle.whole.proofs.Deciding.{no}
use Rattle.scene.specs.declared.Layout.{Layout}
use Rattle.scene.specs.declared.Scene.{Scene}
use Rattle.scene_keys.specs.declared.Cursor.{Cursor}
use Rattle.sweep_laws.specs.Swept.{object_of, total}
use Rattle.sweep_laws.proofs.Objects.{few_events}
use Rattle.sweep.specs.Walk.{Walks}
use Rattle.sweep.proofs.Turn.{Turn, none_yet, at_end, within, short, on_first, on_second, held, can_take, taken_on}
use Rattle.sweep.proofs.run_events.Goals.{After-takes_first-first, After-take_event, then-first, else-first, then-first-2, else-first-2}
use Rattle.sweep.proofs.run_events.Goals as goal

-- a cursor of an object of the scene walks over that object
walks : (s : List ℕ) (sc : Scene) (first : Bool) {bytes : List ℕ} {l : Layout} → (bytes ≡ s) × (l ≡ object_of s sc first)
    → (c : Cursor) → (c.object.bytes.now ≡ bytes) × (c.object.layout ≡ l) → c.index ≤ total s sc first → Walks s sc first c
walks s sc first is c of most = record { same_bytes = of.0 ∙ is.0; same_object = of.1 ∙ is.1; within = most }

chosen : {first b : Bool} → first ≡ b → (i j : ℕ) {k : ℕ} → k ≡ cond b i j → k ≡ cond first i j
chosen e i j k_is = k_is ∙ ap (λ (b : Bool). cond b i j) (sym e)

turn : (c : After-takes_first-first) {k : ℕ} → k ≡ cond c.takes_first-first.result c.loop.f.index c.loop.g.index
    → Turn c.args.ordered.read.bytes.now c.args.ordered.read.scene c.loop.f.index c.loop.g.index c.takes_first-first.result k
turn c index = record {
  scene = c.args.ordered.read.read;
  order = c.args.ordered.in_order;
  within_f = c.loop.invariant.of_f.within;
  within_g = c.loop.invariant.of_g.within;
  left = omega arith;
  by_order = c.takes_first-first.ensures;
  index = index;
}

its_index : (c : After-take_event) → c.if-first.k ≡ cond c.takes_first-first.result c.loop.f.index c.loop.g.index
its_index c =
    let f = c.loop.f.index in
    let g = c.loop.g.index in
    elim c.if-first.branch [ then-first w ↦ chosen w.if-first.true f g w.k-is | else-first w ↦ chosen w.if-first.false f g w.k-is ]

pub overflow_add-all : goal.overflow_add-all
overflow_add-all c =
    let few = few_events c.args.ordered.read.bytes.now c.args.ordered.read.scene c.args.ordered.read.read in
    omega (arith, few true, few false)

pub loop-init : goal.loop-init
loop-init c =
    let s = c.args.ordered.read.bytes.now in
    let sc = c.args.ordered.read.scene in
    record {
      of_f = walks s sc true c.object.ensures c.first-f.result c.first-f.ensures.of (omega (arith, c.first-f.ensures.index));
      of_g = walks s sc false c.object-2.ensures c.first-g.result c.first-g.ensures.of (omega (arith, c.first-g.ensures.index));
      turns = omega (arith, c.first-f.ensures.index, c.first-g.ensures.index);
      so_far = rw (c.first-f.ensures.index, c.first-g.ensures.index, c.new-status.ensures) (none_yet s sc c.args.notes.now);
    }

pub take_event-requires : goal.take_event-requires
take_event-requires c =
    let f = c.loop.f.index in
    let g = c.loop.g.index in
    let index : c.if-first.k ≡ cond c.takes_first-first.result f g = elim c.if-first.branch [ then-first w ↦ chosen w.if-first.true f g w.k-is | else-first w ↦ chosen w.if-first.false f g w.k-is ] in
    let t = turn (goal.at.take_event-requires c).After-takes_first-first index in
    (within t, held t c.loop.invariant.so_far)

pub returns-in_default : goal.returns-in_default
returns-in_default c =
    let t = turn (goal.at.returns-in_default c).After-takes_first-first (its_index (goal.at.returns-in_default c).After-take_event) in
    (no (λ pass. c.take_event.ensures.goes_on (can_take t c.loop.invariant.so_far pass) c.in_default.is), λ t. absurd t)

pub write-requires : goal.write-requires
write-requires c = short (turn (goal.at.write-requires c).After-takes_first-first (its_index (goal.at.write-requires c).After-take_event))

pub loop-preserved : goal.loop-preserved
loop-preserved c =
    let s = c.args.ordered.read.bytes.now in
    let sc = c.args.ordered.read.scene in
    let i = c.loop.invariant in
    let t = turn (goal.at.loop-preserved c).After-takes_first-first (its_index (goal.at.loop-preserved c).After-take_event) in
    let taken = c.take_event.ensures.done c.in-Some.note c.in-Some.is in
    elim c.if-first-2.branch [
      | then-first-2 w ↦
          let next = on_first t w.if-first-2.true w.advance.ensures.index in
          rw (w.f-is, w.g-is) (record {
            of_f = walks s sc true (i.of_f.same_bytes, i.of_f.same_object) w.advance.new.self w.advance.ensures.of next.0;
            of_g = i.of_g;
            turns = omega (arith, w.advance.ensures.index, i.turns);
            so_far = rw c.write.ensures.is (taken_on t i.so_far taken next.1 (omega (arith, c.write.ensures.room)));
          })
      | else-first-2 w ↦
          let next = on_second t w.if-first-2.false w.advance-else-first-2.ensures.index in
          rw (w.f-is, w.g-is) (record {
            of_f = i.of_f;
            of_g = walks s sc false (i.of_g.same_bytes, i.of_g.same_object) w.advance-else-first-2.new.self w.advance-else-first-2.ensures.of next.0;
            turns = omega (arith, w.advance-else-first-2.ensures.index, i.turns);
            so_far = rw c.write.ensures.is (taken_on t i.so_far taken next.1 (omega (arith, c.write.ensures.room)));
          })
    ]

pub returns : goal.returns
returns c =
    let i = c.loop.invariant in
    at_end c.args.ordered.read.read c.args.ordered.in_order c.requires (omega (arith, i.of_f.within, i.of_g.within)) (omega (arith, i.of_f.within, i.of_g.within)) i.so_far c.is_empty.ensures
