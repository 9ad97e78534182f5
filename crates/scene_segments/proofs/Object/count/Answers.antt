use Rattle.std.proofs.Common.{◌≡◌, ◌∙◌, ◌+◌, ◌<◌, refl, sym, ap, ℕ, Bool, true, false, arith}
use mir.Val.{bool_byte}
use Rattle.whole.specs.Count.{count}
use Rattle.scene_segments.proofs.Walk.{between, left_passes, no_segments, count_on, count_segments, passes_is}
use Rattle.scene_segments.proofs.Object.count.Goals as goal
use Rattle.scene_segments.proofs.Object.count.Goals.{then-h+then-test, else-h, else-h-via-then-h+else-test, else-h-via-else-h}

further : (f : ℕ → Bool) (i n m k : ℕ) → i < n → k ≡ m + count f (between i n) → (x : ℕ) (r : Bool) → x ≡ m + bool_byte r → f i ≡ r
    → k ≡ x + count f (between (i + 1) n)
further f i n m k h e x r is q = omega (arith, is, count_on f i n m k h e q)

pub returns-then-not-has_segments : goal.returns-then-not-has_segments
returns-then-not-has_segments g c =
    λ passes told. sym (ap (count passes) (no_segments c.args.self.bytes.now c.args.self.layout (sym c.has_segments.ensures ∙ c.if-not-has_segments.true)))

pub loop-i-init : goal.loop-i-init
loop-i-init g c = record { few = omega arith; rest = λ passes told. omega (arith, count_segments c.args.self.bytes.now c.args.self.layout passes) }

pub loop-i-preserved : goal.loop-i-preserved
loop-i-preserved g c =
    let o = c.args.self in
    let h = c.half-h.result in
    let is = passes_is o.bytes.now o.layout c.loop-i.i (sym c.has_segments.ensures ∙ c.if-not-has_segments.false) c.half-h.ensures.is in
    record {
      few = elim c.if-h.branch [ then-h+then-test w ↦ omega arith | else-h w ↦ omega arith ];
      rest = λ passes told.
          let onward = further (left_passes o.bytes.now o.layout passes) c.loop-i.i o.layout.count c.loop-i.n _ c.loop-i-test.true (c.loop-i.invariant.rest passes told) c.if-h.n in
          elim c.if-h.branch [
            | then-h+then-test w ↦ onward true w.n-is (is passes ∙ rw w.if-h.true (sym (told h.segment w.test.result w.test.ensures) ∙ w.if-test.true))
            | else-h w ↦
                onward false (omega arith)
                (elim w.else-h.branch [
                  | else-h-via-then-h+else-test v ↦ is passes ∙ rw v.if-h.true (sym (told h.segment v.test.result v.test.ensures) ∙ v.if-test.false)
                  | else-h-via-else-h v ↦ is passes ∙ rw v.if-h.false refl
                ])
          ];
    }
