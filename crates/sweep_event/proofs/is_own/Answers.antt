-- The object, the segment and the ia are the same, each by its test.
use Rattle.std.proofs.Common.{◌≡◌, ℕ, List, Bool, true, false, not, ◌&&◌, sym, ap, ◌∙◌}
use Rattle.std.specs.Bool.{beq}
use lib.Dec.{T_not}
use borrow.Author.Tests.{not-false}
use Rattle.whole.proofs.Logic.{is_true, true_is, beq_same, beq_refl}
use Rattle.whole.proofs.Deciding.{yes, no}
use Rattle.scene.specs.Read.{ia_at}
use Rattle.scene.specs.Conditions.{is_region}
use Rattle.scene.specs.declared.Scene.{Scene}
use Rattle.sweep_laws.specs.Swept.{object_of, is_first, strand_of, strand_at}
use Rattle.sweep_laws.specs.Kept.{Strand}
use Rattle.sweep_laws.proofs.Entries.{entry_readable, entry_ia, same_strand, and_none}
use Rattle.sweep_event.proofs.Read.{alike, region_is}
use Rattle.sweep_event.proofs.is_own.Goals as goal

-- the entry is of the same object
same_object : (s : List ℕ) (sc : Scene) (e : ℕ) (first : Bool) {r : Bool} → r ≡ is_first s sc e → not (beq first r) ≡ false → is_first s sc e ≡ first
same_object s sc e first {r} is h = sym is ∙ sym (beq_same first r (not-false (beq first r) h))

pub returns-then-event-is_first : goal.returns-then-event-is_first
returns-then-event-is_first c =
    let a = c.args in
    let o = c.is_first in
    no (λ w. T_not (beq a.event.first o.result) (is_true _ c.if-event-is_first.true)
    (is_true _ (ap (beq a.event.first) (o.ensures a.event.read.bytes.now ∙ ap (λ (b : Strand). b.first) w) ∙ beq_refl a.event.first)))

pub segment-requires : goal.segment-requires
segment-requires c = let r = c.args.event.read in (entry_readable r.bytes.now r.scene r.read c.requires).there

pub segment-requires-2 : goal.segment-requires-2
segment-requires-2 c = let r = c.args.event.read in (entry_readable r.bytes.now r.scene r.read c.args.event.recorded).there

pub returns-then-not-is_region : goal.returns-then-not-is_region
returns-then-not-is_region c =
    let a = c.args in
    let s = a.event.read.bytes.now in
    let sc = a.event.read.scene in
    let own : is_first s sc a.e ≡ a.event.first = same_object s sc a.e a.event.first (c.is_first.ensures s) c.if-event-is_first.false in
    let segment = alike c.ne.ensures c.segment.ensures c.segment-2.ensures c.if-ne.false in
    let none = region_is c.is_region.ensures c.object.ensures c.if-not-is_region.true in
    rw (c.if-not-is_region.true) (yes (same_strand s sc a.event.first a.event.at a.e own segment (and_none _ _ _ none)))

pub ia-requires : goal.ia-requires
ia-requires c =
    let a = c.args in
    let s = a.event.read.bytes.now in
    let sc = a.event.read.scene in
    let own : is_first s sc a.e ≡ a.event.first = same_object s sc a.e a.event.first (c.is_first.ensures s) c.if-event-is_first.false in
    entry_ia s sc a.event.read.read own c.requires (is_true _ (region_is c.is_region.ensures c.object.ensures c.if-not-is_region.false))

pub ia-requires-else-not-is_region : goal.ia-requires-else-not-is_region
ia-requires-else-not-is_region c =
    let r = c.args.event.read in
    entry_ia r.bytes.now r.scene r.read c.args.event.owned c.args.event.recorded (is_true _ (region_is c.is_region.ensures c.object.ensures c.if-not-is_region.false))

pub returns-else-not-is_region : goal.returns-else-not-is_region
returns-else-not-is_region c =
    let a = c.args in
    let s = a.event.read.bytes.now in
    let sc = a.event.read.scene in
    let first = a.event.first in
    let ia = c.ia.result in
    let other = c.ia-else-not-is_region in
    let own : is_first s sc a.e ≡ first = same_object s sc a.e first (c.is_first.ensures s) c.if-event-is_first.false in
    let region : is_region (object_of s sc first).shape ≡ true = region_is c.is_region.ensures c.object.ensures c.if-not-is_region.false in
    let same_ia : strand_at s sc a.e ≡ strand_of s sc first a.event.at → ia ≡ other.result =
    λ w. c.ia.ensures
    ∙ sym (ap (λ (b : Bool). b && ia_at s a.e) region)
    ∙ ap (λ (b : Bool). is_region (object_of s sc b).shape && ia_at s a.e) (sym own)
    ∙ ap (λ (b : Strand). b.ia) w
    ∙ ap (λ (b : Bool). b && ia_at s a.event.at) region
    ∙ sym other.ensures in
    record {
      sound = λ t. same_strand s sc first a.event.at a.e own (alike c.ne.ensures c.segment.ensures c.segment-2.ensures c.if-ne.false)
          (ap (λ (b : Bool). is_region (object_of s sc first).shape && b) (sym c.ia.ensures ∙ beq_same ia other.result (true_is _ t) ∙ other.ensures));
      complete = λ w. is_true _ (ap (beq ia) (sym (same_ia w)) ∙ beq_refl ia);
    }
