use Rattle.std.proofs.Common.{◌≡◌, ◌∙◌, ap₂, sym, subst, not, ◌&&◌, ◌++◌, true, false, List, ℕ, length, Ok, Err}
use Rattle.scene.proofs.Outcomes.{handed_on}
use Rattle.scene.specs.declared.Layout.{Layout}
use Rattle.scene.specs.Read.{given_first, given_second}
use Rattle.scene.specs.Conditions.{has_segments, object}
use Rattle.scene_written.specs.Arranged.{object_bytes}
use Rattle.split_cuts.specs.Listed.{segments_of}
use Rattle.split.specs.Split.{of_shape, is_copied}
use Rattle.split.specs.Cut.{cut_verdict, CutRight}
use Rattle.split.proofs.Given.{raw_read_as}
use Rattle.split.proofs.Kept.{promised}
use Rattle.split.proofs.Nineteen.{off_grid_means}
use Rattle.split.proofs.Answered.{raw_refused, copied, cut_refused, both_ready, written}
use Rattle.split.proofs.split.Goals as goal

-- of other bytes and layouts that are the same
moved : (P : List ℕ → Layout → Layout → Type 0) {b s : List ℕ} {own other x y : Layout} → b ≡ s → own ≡ x → other ≡ y → P b own other → P s x y
moved P {b} {s} {own} {other} {x} {y} e f g p = subst (λ z. P z x y) e (subst (λ z. P b z y) f (subst (P b own) g p))

pub returns-in_err-checked : goal.returns-in_err-checked
returns-in_err-checked c =
    let s = c.args.scene.now in
    let e = handed_on c.from_residual.result c.from_residual.ensures.1 in
    let w = raw_refused s c.args.out.now c.in_err-checked.field-0.0 (sym c.check.ensures ∙ c.in_err-checked.was) in
    record { is = e ∙ w.is; buffer = w.buffer; promised = promised s (length c.args.out.now); off_grid = off_grid_means s (length c.args.out.now) }

pub invariant_of-as_given : goal.invariant_of-as_given
invariant_of-as_given c = record { read = raw_read_as c.args.scene.now c.in_ok-checked.checked (sym c.check.ensures ∙ c.in_ok-checked.was) }

pub returns-then-is_copied : goal.returns-then-is_copied
returns-then-is_copied c =
    let s = c.args.scene.now in
    let sc = c.in_ok-checked.checked in
    let given = c.as_given-pair.ensures in
    let h : is_copied sc ≡ true = ap₂ (λ (x y : Layout). not (has_segments x.shape && has_segments y.shape)) (sym given.1) (sym given.2) ∙ sym c.is_copied.ensures ∙ c.if-is_copied.true in
    let w = copied s c.args.out.now sc (sym c.check.ensures ∙ c.in_ok-checked.was) h c.hand_over.ensures.0 c.hand_over.ensures.1 in
    record { is = w.is; buffer = w.buffer; promised = promised s (length c.args.out.now); off_grid = off_grid_means s (length c.args.out.now) }

pub returns-in_err-cut : goal.returns-in_err-cut
returns-in_err-cut c =
    let s = c.args.scene.now in
    let sc = c.in_ok-checked.checked in
    let given = c.as_given-pair.ensures in
    let h : is_copied sc ≡ false = ap₂ (λ (x y : Layout). not (has_segments x.shape && has_segments y.shape)) (sym given.1) (sym given.2) ∙ sym c.is_copied.ensures ∙ c.if-is_copied.false in
    let e = handed_on c.from_residual-in_err-cut.result c.from_residual-in_err-cut.ensures.1 in
    let v = moved (λ z x y. cut_verdict z x y ≡ Err c.in_err-cut.field-0.0) given.0 given.1 given.2 c.in_err-cut.ensures in
    let w = cut_refused s c.args.out.now sc (sym c.check.ensures ∙ c.in_ok-checked.was) h c.in_err-cut.field-0.0 v in
    record { is = e ∙ w.is; buffer = w.buffer; promised = promised s (length c.args.out.now); off_grid = off_grid_means s (length c.args.out.now) }

pub both-bytes-requires : goal.both-bytes-requires
both-bytes-requires c =
    let s = c.args.scene.now in
    let sc = c.in_ok-checked.checked in
    let given = c.as_given-pair.ensures in
    let cut = c.in_ok-cut.cut in
    let h : is_copied sc ≡ false = ap₂ (λ (x y : Layout). not (has_segments x.shape && has_segments y.shape)) (sym given.1) (sym given.2) ∙ sym c.is_copied.ensures ∙ c.if-is_copied.false in
    let v = moved (λ z x y. cut_verdict z x y ≡ Ok tt) given.0 given.1 given.2 c.in_ok-cut.ensures.0 in
    let f = moved (λ z x y. CutRight z x y cut.own) given.0 given.1 given.2 c.in_ok-cut.ensures.1 in
    let g = moved (λ z x y. CutRight z y x cut.other) given.0 given.1 given.2 c.in_ok-cut.ensures.2 in
    let w = both_ready s c.args.out.now sc (sym c.check.ensures ∙ c.in_ok-checked.was) h v cut.own cut.other f g in
    rw (given.1, given.2) w

pub returns : goal.returns
returns c =
    let s = c.args.scene.now in
    let sc = c.in_ok-checked.checked in
    let given = c.as_given-pair.ensures in
    let cut = c.in_ok-cut.cut in
    let h : is_copied sc ≡ false = ap₂ (λ (x y : Layout). not (has_segments x.shape && has_segments y.shape)) (sym given.1) (sym given.2) ∙ sym c.is_copied.ensures ∙ c.if-is_copied.false in
    let v = moved (λ z x y. cut_verdict z x y ≡ Ok tt) given.0 given.1 given.2 c.in_ok-cut.ensures.0 in
    let f = moved (λ z x y. CutRight z x y cut.own) given.0 given.1 given.2 c.in_ok-cut.ensures.1 in
    let g = moved (λ z x y. CutRight z y x cut.other) given.0 given.1 given.2 c.in_ok-cut.ensures.2 in
    let own = object s (given_first sc) in
    let other = object s (given_second sc) in
    let bytes =
    c.as_slice.ensures.value ∙ c.both-bytes.ensures own other
    ∙ ap₂ (λ (x y : Layout). object_bytes (of_shape x.shape own (segments_of cut.own.pieces.items)) ++ object_bytes (of_shape y.shape other (segments_of cut.other.pieces.items))) given.1 given.2 in
    let w = written s c.args.out.now sc (sym c.check.ensures ∙ c.in_ok-checked.was) h v cut.own cut.other f g bytes c.hand_over-2.ensures.0 c.hand_over-2.ensures.1 in
    record { is = w.is; buffer = w.buffer; promised = promised s (length c.args.out.now); off_grid = off_grid_means s (length c.args.out.now) }
