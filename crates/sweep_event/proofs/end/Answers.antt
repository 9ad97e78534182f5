-- The tests are those of a segment that ends at the place, and the entry's element is of the same object.
use Rattle.std.proofs.Common.{ℕ, ◌<◌, List, T, length, get_or, sym, ap, subst, ◌∙◌, arith}
use Rattle.whole.proofs.Logic.{is_true}
use Rattle.sweep_laws.specs.Kept.{Strand}
use Rattle.sweep_laws.specs.Swept.{object_of}
use Rattle.sweep_laws.specs.Event.{OwnAt, CanMeet}
use Rattle.sweep_laws.specs.Held.{Placed, Readable}
use Rattle.sweep_laws.proofs.Entries.{entry_placed, held_entry, held_readable}
use Rattle.sweep_event.proofs.Answers.{stops, on}
use Rattle.sweep_event.proofs.end.Goals.{In_ok-k}
use Rattle.sweep_event.proofs.end.Given.{Over}
use Rattle.sweep_event.proofs.end.Goals as goal

-- the entry that was found, among those of the status
found : (g : Over) (c : In_ok-k g) → OwnAt c.args.event.read.bytes.now c.args.event.read.scene c.args.event.first c.args.event.at c.args.status.now c.args.top c.in_ok-k.k
found g c =
    let e = c.args.event in
    subst (λ (l : List ℕ). OwnAt e.read.bytes.now e.read.scene e.first e.at l c.args.top c.in_ok-k.k) c.entries.ensures c.in_ok-k.ensures.found

pub invariant_of-entries : goal.invariant_of-entries
invariant_of-entries g c =
    let r = c.args.event.read in
    record { readable = subst (Readable r.bytes.now) (sym c.entries.ensures) (held_readable c.requires.0 r.read) }

pub returns-then-not-can_meet : goal.returns-then-not-can_meet
returns-then-not-can_meet g c =
    let s = c.args.event.read.bytes.now in
    let k = c.in_ok-k.k in
    let own = found g (goal.at.returns-then-not-can_meet g c).In_ok-k in
    stops (λ can. subst T c.if-not-can_meet.true (c.can_meet.ensures.complete (subst (λ (l : List ℕ). CanMeet s l k) (sym c.entries.ensures) (can.meeting k own))))

pub note_at-note-requires : goal.note_at-note-requires
note_at-note-requires g c =
    let event = c.args.event in
    let s = event.read.bytes.now in
    let sc = event.read.scene in
    let k = c.in_ok-k.k in
    let own = found g (goal.at.note_at-note-requires g c).In_ok-k in
    let within : k < length c.args.status.now = omega (arith, own.below, c.requires.1.within) in
    λ s'. subst (Placed (object_of s' sc event.first)) (sym (ap (λ (l : List ℕ). get_or l k 0) c.entries.ensures))
    (entry_placed s sc event.read.read (ap (λ (b : Strand). b.first) own.own) (held_entry c.requires.0 k within) s')

pub returns : goal.returns
returns g c =
    let s = c.args.event.read.bytes.now in
    let k = c.in_ok-k.k in
    let e = c.entries.ensures in
    on (record {
      position = k;
      top = c.args.top;
      at_place = c.requires.1;
      found = found g (goal.at.returns g c).In_ok-k;
      meeting = subst (λ (l : List ℕ). CanMeet s l k) e (c.can_meet.ensures.sound (is_true _ c.if-not-can_meet.false));
      new_is = c.remove.ensures;
      noted = λ i is. c.note_at-note.ensures s i (ap (λ (l : List ℕ). get_or l k 0) e ∙ is);
    })
