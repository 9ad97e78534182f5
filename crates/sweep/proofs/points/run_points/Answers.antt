use Rattle.std.proofs.Common.{◌≡◌, ℕ, ◌+◌, ◌<◌, ◌≤◌, true, false, List, [], T, length, refl, sym, subst, ◌∙◌, arith}
use lib.Dec.{eqb→eq}
use lib.Seq.{get_or-set_other}
use Rattle.whole.proofs.Deciding.{no}
use Rattle.scene.specs.declared.Scene.{Scene}
use Rattle.sweep_laws.specs.Swept.{total}
use Rattle.sweep_laws.specs.Located.{is_point_next, PointsTaken}
use Rattle.sweep_laws.specs.Noted.{Noted}
use Rattle.sweep_laws.proofs.Lasting.{at_end_lem}
use Rattle.sweep_laws.proofs.Objects.{few_elements}
use Rattle.sweep_laws.proofs.PointRun.{Passed, passed_none, still_noted, no_events, passed_points, passed_event, all_noted}
use Rattle.sweep_notes.specs.Numbers.{note_number}
use Rattle.sweep_notes.proofs.Kept.{once_laid}
use Rattle.sweep.proofs.Turn.{SoFar, none_yet, point_turn, at_end, short, on_second, can_take, taken_on, before}
use Rattle.sweep.proofs.points.run_points.Goals as goal

-- where points are noted, what holds of the events so far still does
still : {s : List ℕ} {sc : Scene} {j : ℕ} {entries : List ℕ} {i i' : ℕ} {old new : List ℕ} → PointsTaken s sc j entries i i' old new → i' ≤ 1024 → SoFar s sc 0 j entries old → SoFar s sc 0 j entries new
still {s} {sc} points few so_far = record { run = so_far.run; noted = still_noted s sc points few so_far.noted; after = so_far.after; later = so_far.later }

pub loop-j-init : goal.loop-j-init
loop-j-init c =
    let s = c.args.ordered.read.bytes.now in
    let sc = c.args.ordered.read.scene in
    rw c.new-status.ensures (record { within_f = omega arith; so_far = none_yet s sc c.args.notes.now; passed = passed_none s sc [] c.args.notes.now })

pub returns-in_default : goal.returns-in_default
returns-in_default c =
    let t = point_turn c.args.ordered.read.read c.args.ordered.in_order c.requires.0 c.requires.1 {j = c.loop-j.j} (omega arith) in
    record {
      is = (no (λ pass. c.take_event.ensures.goes_on (can_take t c.loop-j.invariant.so_far pass) c.in_default.is), λ t. absurd t);
      lent = once_laid c.args.ordered.read.read (λ t. absurd t);
    }

pub write-requires : goal.write-requires
write-requires c = short (point_turn c.args.ordered.read.read c.args.ordered.in_order c.requires.0 c.requires.1 {j = c.loop-j.j} (omega arith))

pub loop-j-preserved : goal.loop-j-preserved
loop-j-preserved c =
    let s = c.args.ordered.read.bytes.now in
    let sc = c.args.ordered.read.scene in
    let is = c.args.ordered.read.read in
    let order = c.args.ordered.in_order in
    let r = c.requires in
    let j = c.loop-j.j in
    let inv = c.loop-j.invariant in
    let p = c.note_points-i.ensures in
    let more : j < total s sc false = omega arith in
    let few = few_elements s sc is true in
    let t = point_turn is order r.0 r.1 more in
    let next = on_second t refl {j' = j + 1} refl in
    let so_far = still p.2 (omega (arith, p.0, few)) inv.so_far in
    let taken = c.take_event.ensures.done c.in-Some.note c.in-Some.is in
    let passed = passed_points s sc is order r.0 r.1 inv.so_far.run (omega arith) inv.passed p.0 p.2 in
    rw c.write.ensures.is (record {
      within_f = p.0;
      so_far = taken_on t so_far taken next.1 (omega (arith, c.write.ensures.room));
      passed = passed_event s sc is order r.0 r.1 passed p.1 more (before t so_far taken next.1)
          (λ k h. get_or-set_other c.note_points-i.new.notes (1024 + j) k (note_number c.in-Some.note) 0 (λ q. omega (arith, q, h, p.0, few)));
    })

pub returns : goal.returns
returns c =
    let s = c.args.ordered.read.bytes.now in
    let sc = c.args.ordered.read.scene in
    let is = c.args.ordered.read.read in
    let order = c.args.ordered.in_order in
    let r = c.requires in
    let inv = c.loop-j.invariant in
    let p = c.note_points.ensures in
    let notes = c.note_points.new.notes in
    let i = c.note_points.result in
    let of_f : 0 ≡ total s sc true = sym (no_events s sc is order r.0 r.1) in
    let of_g : c.loop-j.j ≡ total s sc false = omega arith in
    let all : c.event_count-all.result ≡ c.loop-j.j = omega arith in
    let points = subst (λ (j : ℕ). PointsTaken s sc j c.loop-j.status c.loop-j.i i c.loop-j.notes notes) all p.2 in
    let so_far = still points (omega (arith, p.0, few_elements s sc is true)) inv.so_far in
    let decided = at_end is order r.2 of_f of_g so_far c.is_empty.ensures in
    let noted : T c.is_empty.result → Noted s sc notes = λ t.
    let none = eqb→eq (length c.loop-j.status) 0 (subst T c.is_empty.ensures t) in
    record {
      of_segments = decided.1 t;
      of_points = all_noted s sc is order r.0 r.1
          (at_end_lem s sc c.loop-j.status of_f of_g (λ k j l. Passed s sc i j l notes) none (passed_points s sc is order r.0 r.1 inv.so_far.run (omega arith) inv.passed p.0 points))
          (subst (λ (j : ℕ). is_point_next s sc i j ≡ false) (all ∙ of_g) p.1);
    }
    in
    record { is = (decided.0, noted); lent = once_laid is noted }
