-- The element's record is an entry of its object, and the place that is found is one for its point.
use Rattle.std.proofs.Common.{arith, ◌≡◌, ℕ, Bool, List, T, sym, ap, ap₂, subst, ◌∙◌}
use Rattle.plane.specs.declared.Point.{Point}
use Rattle.plane.specs.declared.Halfsegment.{Halfsegment}
use Rattle.plane.specs.Plane.{in_range, dominating, choose}
use Rattle.scene.specs.declared.Layout.{Layout}
use Rattle.scene.specs.Read.{segment_at, halfsegment_at, place}
use Rattle.scene.specs.Conditions.{half}
use Rattle.scene_keys.proofs.Elements.{dominating_in_range}
use Rattle.sweep_laws.specs.Held.{Readable}
use Rattle.sweep_laws.specs.Swept.{object_of, is_first, is_beginning, Entry}
use Rattle.sweep_laws.specs.Event.{Place, Began, Ended, CanBegin, CanEnd, it_began, it_ended}
use Rattle.sweep_laws.proofs.Objects.{owned, entry}
use Rattle.sweep_laws.proofs.Entries.{held_readable}
use Rattle.sweep_notes.specs.Numbers.{note_number}
use Rattle.sweep.proofs.take_event.Goals.{After-find-place}
use Rattle.sweep.proofs.take_event.Goals as goal

-- the element's record
at_is : (c : After-find-place) → c.place.result ≡ place (object_of c.args.read.now.bytes.now c.args.read.now.scene c.args.first) c.args.k
at_is c = c.place.ensures.is ∙ ap (λ (l : Layout). place l c.args.k) c.object-object.ensures.1

read_at : (c : After-find-place) → c.half-h.result ≡ halfsegment_at c.args.read.now.bytes.now c.place.result
read_at c =
    let o = c.object-object.ensures in
    c.half-h.ensures.is ∙ ap₂ (λ (s : List ℕ) (l : Layout). half s l c.args.k) o.0 o.1 ∙ ap (halfsegment_at c.args.read.now.bytes.now) (sym (at_is c))

recorded : (c : After-find-place) → Entry c.args.read.now.bytes.now c.args.read.now.scene c.place.result
recorded c =
    let a = c.args in
    let s = a.read.now.bytes.now in
    subst (Entry s a.read.now.scene) (sym (at_is c)) (entry s a.read.now.scene a.read.now.read a.first a.k c.requires.0)

of_object : (c : After-find-place) → is_first c.args.read.now.bytes.now c.args.read.now.scene c.place.result ≡ c.args.first
of_object c =
    let a = c.args in
    let s = a.read.now.bytes.now in
    ap (is_first s a.read.now.scene) (at_is c) ∙ owned s a.read.now.scene a.read.now.read a.first a.k c.requires.0

-- it begins, or not
module _ (c : After-find-place) {left : Bool} (side : c.half-h.result.is_left ≡ left) where
  beginning_is : is_beginning c.args.read.now.bytes.now c.args.read.now.scene c.args.first c.args.k ≡ left
  beginning_is = ap (λ (at : ℕ). (halfsegment_at c.args.read.now.bytes.now at).is_left) (sym (at_is c)) ∙ ap (λ (h : Halfsegment). h.is_left) (sym (read_at c)) ∙ side

  -- a place for its point
  found : let t = segment_at c.args.read.now.bytes.now c.place.result in Place c.args.read.now.bytes.now c.args.status.now (choose left t.left t.right) c.find-place.result
  unfolding dominating
  found =
      let s = c.args.read.now.bytes.now in
      let t = segment_at s c.place.result in
      let point_is = c.dominating_point.ensures ∙ ap dominating (read_at c) ∙ ap (λ (b : Bool). choose b t.left t.right) (ap (λ (h : Halfsegment). h.is_left) (sym (read_at c)) ∙ side) in
      subst (λ (l : List ℕ). Place s l (choose left t.left t.right) c.find-place.result) c.entries.ensures
      (subst (λ (v : Point). Place s c.entries.result.now v c.find-place.result) point_is c.find-place.ensures)

pub invariant_of-event : goal.invariant_of-event
invariant_of-event c = let f = (goal.at.invariant_of-event c).After-find-place in record { recorded = recorded f; owned = of_object f }

pub invariant_of-event-else-h : goal.invariant_of-event-else-h
invariant_of-event-else-h c = let f = (goal.at.invariant_of-event-else-h c).After-find-place in record { recorded = recorded f; owned = of_object f }

pub invariant_of-entries : goal.invariant_of-entries
invariant_of-entries c =
    let r = c.args.read.now in
    record { readable = subst (Readable r.bytes.now) (sym c.entries.ensures) (held_readable c.requires.1 r.read) }

pub find-place-requires : goal.find-place-requires
find-place-requires c = subst (λ (p : Point). T (in_range p)) (sym c.dominating_point.ensures) (dominating_in_range c.half-h.result c.half-h.ensures.in_range)

pub begin-requires : goal.begin-requires
begin-requires c = let f = (goal.at.begin-requires c).After-find-place in (omega arith, (c.requires.1, found f c.if-h.true))

pub end-requires : goal.end-requires
end-requires c = let f = (goal.at.end-requires c).After-find-place in (omega arith, (c.requires.1, found f c.if-h.false))

pub returns-then-h : goal.returns-then-h
returns-then-h c =
    let r = c.args.read.now in
    let f = (goal.at.returns-then-h c).After-find-place in
    let begins = beginning_is f c.if-h.true in
    record {
      done = λ note q. it_began begins (subst (λ (at : ℕ). Began r.bytes.now r.scene c.args.first at c.args.status.now c.begin.new.status (note_number note)) (at_is f) (c.begin.ensures.done note q));
      goes_on = λ can. c.begin.ensures.goes_on
          (can.0 begins, subst (λ (at : ℕ). CanBegin r.bytes.now r.scene c.args.first at c.args.status.now) (sym (at_is f)) (can.1.can_begin begins) c.find-place.result (found f c.if-h.true));
    }

pub returns-else-h : goal.returns-else-h
returns-else-h c =
    let r = c.args.read.now in
    let f = (goal.at.returns-else-h c).After-find-place in
    let ends = beginning_is f c.if-h.false in
    record {
      done = λ note q. it_ended ends (subst (λ (at : ℕ). Ended r.bytes.now r.scene c.args.first at c.args.status.now c.args.notes.now c.end.new.status (note_number note)) (at_is f) (c.end.ensures.done note q));
      goes_on = λ can. c.end.ensures.goes_on
          (subst (λ (at : ℕ). CanEnd r.bytes.now r.scene c.args.first at c.args.status.now) (sym (at_is f)) (can.1.can_end ends) c.find-place.result (found f c.if-h.false));
    }
