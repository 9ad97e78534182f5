-- The tests are those of a segment that fits at the place, and the parities are those of the entries below it.
use Rattle.std.proofs.Common.{◌≡◌, ℕ, ◌+◌, Bool, not, List, T, length, take, length-take-le, sym, ap, subst, ◌∙◌, arith}
use Rattle.std.specs.Bool.{beq}
use Rattle.whole.specs.Count.{count}
use Rattle.whole.proofs.Logic.{is_true}
use Rattle.sweep_laws.specs.Status.{AtPlace, BelowPlace}
use Rattle.sweep_laws.specs.Swept.{is_first}
use Rattle.sweep_laws.specs.Event.{FitsOver, LowerNext, odd_of}
use Rattle.sweep_laws.specs.Held.{Readable}
use Rattle.sweep_laws.proofs.Entries.{entry_readable, entry_small, start_small, held_readable, own_and_other}
use Rattle.sweep_event.proofs.Answers.{stops, on}
use Rattle.sweep_event.proofs.begin.Goals.{then-not-fits_over-via-then-not-fits_over, then-not-fits_over-via-else-not-fits_over+then-not-fits_under}
use Rattle.sweep_event.proofs.begin.Goals as goal

pub invariant_of-entries : goal.invariant_of-entries
invariant_of-entries g c =
    let r = c.args.event.read in
    record { readable = subst (Readable r.bytes.now) (sym c.entries.ensures) (held_readable c.requires.0 r.read) }

pub fits_over-requires : goal.fits_over-requires
fits_over-requires g c =
    let r = c.args.event.read in
    (entry_readable r.bytes.now r.scene r.read c.args.event.recorded, omega (arith, c.requires.1.within, ap length c.entries.ensures))

pub fits_under-requires : goal.fits_under-requires
fits_under-requires g c = let r = c.args.event.read in entry_readable r.bytes.now r.scene r.read c.args.event.recorded

pub returns-then-not-fits_over : goal.returns-then-not-fits_over
returns-then-not-fits_over g c =
    let a = c.args in
    let s = a.event.read.bytes.now in
    let e = sym c.entries.ensures in
    stops (λ can. elim c.then-not-fits_over.branch [
      | then-not-fits_over-via-then-not-fits_over w ↦
          let over = subst (λ (l : List ℕ). BelowPlace l a.k (FitsOver s a.event.read.scene a.event.first a.event.at)) e can.1.over in
          subst T w.if-not-fits_over.true (c.fits_over.ensures.complete over)
      | then-not-fits_over-via-else-not-fits_over+then-not-fits_under w ↦
          let under = subst (λ (l : List ℕ). AtPlace l a.k (LowerNext s a.event.at)) e can.1.under in
          subst T w.if-not-fits_under.true (w.fits_under.ensures.complete under)
    ])

pub has_odd_of-own-requires : goal.has_odd_of-own-requires
has_odd_of-own-requires g c = let r = c.args.event.read in start_small r.bytes.now r.scene r.read

pub overflow_cast-event : goal.overflow_cast-event
overflow_cast-event g c = let r = c.args.event.read in omega (arith, entry_small r.bytes.now r.scene r.read c.args.event.recorded)

pub returns : goal.returns
returns g c =
    let a = c.args in
    let s = a.event.read.bytes.now in
    let sc = a.event.read.scene in
    let first = a.event.first in
    let at = a.event.at in
    let old = a.status.now in
    let below = take a.k old in
    let e = c.entries.ensures in
    let own = c.has_odd_of-own.ensures s ∙ ap (λ (l : List ℕ). odd_of s sc first (take a.k l)) e in
    let of : Bool → ℕ = λ object. count (λ e. beq object (is_first s sc e)) below in
    let all : of first + of (not first) ≡ a.k = own_and_other first (is_first s sc) below ∙ length-take-le a.k old c.requires.1.within in
    on (record {
      position = a.k;
      at_place = c.requires.1;
      fits = record {
        over = subst (λ (l : List ℕ). BelowPlace l a.k (FitsOver s sc first at)) e (c.fits_over.ensures.sound (is_true _ c.if-not-fits_over.false));
        under = subst (λ (l : List ℕ). AtPlace l a.k (LowerNext s at)) e (c.fits_under.ensures.sound (is_true _ c.if-not-fits_under.false));
        right_ia = λ region. sym own ∙ c.has_right_ia.ensures.sound (is_true _ c.if-not-has_right_ia.false) region;
      };
      new_is = c.insert.ensures;
      noted = c.other_note.ensures (of first) (of (not first)) all own;
    })
