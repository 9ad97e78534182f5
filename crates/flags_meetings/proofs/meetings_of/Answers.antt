-- A turn passes the runs of one key, and past the last key no element is left.
use Rattle.std.proofs.Common.{arith, bit_or, sym, ap, ap₂, subst, ◌∙◌, min}
use Rattle.scene.specs.declared.Layout.{Layout}
use Rattle.scene.proofs.Taken.{taken_object}
use Rattle.flags_meetings.specs.Met.{meetings}
use Rattle.flags_meetings.proofs.AsRead.{meetings_read}
use Rattle.flags_meetings.proofs.Walking.{Walking, walked, walked_on}
use Rattle.flags_meetings.proofs.meetings_of.Goals as goal

pub meeting-requires : goal.meeting-requires
meeting-requires c =
    let p = c.args.pair in
    let f = c.pass in
    (f.ensures.passed.on, omega (arith, f.new.c.within, ap (λ (l : Layout). l.count) (f.ensures.of.1 ∙ c.loop-k.invariant.layout_f), (taken_object p.bytes.now p.own.start p.own p.own_read).few))

pub loop-k-preserved : goal.loop-k-preserved
loop-k-preserved c =
    let p = c.args.pair in
    let h = c.loop-k.invariant in
    let f = c.pass in
    let g = c.pass-in-loop-k in
    let bytes_f = f.ensures.of.0 ∙ h.bytes_f in
    let layout_f = f.ensures.of.1 ∙ h.layout_f in
    let bytes_g = g.ensures.of.0 ∙ h.bytes_g in
    let layout_g = g.ensures.of.1 ∙ h.layout_g in
    record {
      bytes_f = bytes_f;
      layout_f = layout_f;
      bytes_g = bytes_g;
      layout_g = layout_g;
      walking =
          subst (Walking p.bytes.now (record { f = p.own; g = p.other }) c.args.notes.now f.new.c.index g.new.c.index c.min-k-in-loop-k.result)
          (sym (c.with-sofar.ensures ∙ ap (bit_or c.loop-k.sofar.0) c.meeting.ensures))
          (walked_on p.bytes.now (record { f = p.own; g = p.other }) c.args.notes.now p.own_read p.other_read c.requires.0 c.requires.1 h.walking c.loop-k-test.true
          (rw layout_f at f.new.c.within) (rw layout_g at g.new.c.within)
          (rw (h.bytes_f, h.layout_f) at f.ensures.passed) (rw (h.bytes_g, h.layout_g) at g.ensures.passed)
          (c.min-k-in-loop-k.ensures ∙ ap₂ min (rw (bytes_f, layout_f) at f.new.c.key_is) (rw (bytes_g, layout_g) at g.new.c.key_is)));
    }

pub returns : goal.returns
returns c =
    let p = c.args.pair in
    let is =
    c.into.ensures
    ∙ walked p.bytes.now (record { f = p.own; g = p.other }) c.args.notes.now p.own_read p.other_read c.requires.0 c.requires.1 c.loop-k.invariant.walking c.loop-k-test.false in
    record {
      is = is;
      of_bytes = λ bytes e.
          is
          ∙ ap (meetings p.bytes.now (record { f = p.own; g = p.other })) e
          ∙ meetings_read p.bytes.now (record { f = p.own; g = p.other }) (taken_object p.bytes.now p.own.start p.own p.own_read).few bytes;
    }
