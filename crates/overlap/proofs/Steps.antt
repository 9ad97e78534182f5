-- A whole walk over the left halfsegments of two objects has as many steps as there are segments.
use Rattle.std.specs.Prelude.{Option, Some, None}
use Rattle.std.specs.Iterator.{YieldsThen}
use Prim.Native.Nat.{ℕ, suc}
use mathlib.Core.Path.{◌≡◌, sym, ap, ◌∙◌}
use mathlib.Core.List.{List, [], ◌∷◌}
use lib.ListN.{length}
use Rattle.flags_classes.specs.declared.merged.Merged.{Merged}
use Rattle.flags_classes.specs.declared.merged.Step.{Step}
use Rattle.flags_classes.specs.declared.merged.Step.TheVariants.{OfF, OfG, OfBoth}
use Rattle.flags_classes.specs.Walked.{Stepped, f_after, g_after}
use Rattle.overlap.specs.Walked.{merged_from}
use Rattle.overlap.proofs.Merging.{next_f, next_g, next_both, list_end}

-- as the walk promises
abbrev Steps : Merged → Option Step → Merged → Type 0
Steps w step v = Stepped w.pair.bytes.now w.pair.own w.pair.other w.i w.j step × (v.pair ≡ w.pair) × (v.i ≡ f_after w.i step) × (v.j ≡ g_after w.j step)

abbrev left : Merged → ℕ
left w = length (merged_from w.pair.bytes.now w.pair.own w.pair.other w.i w.j)

one : (w v : Merged) (step : Step) → Steps w (Some step) v → left w ≡ suc (left v)
one w v (OfF a b) h = rw (h.1, h.2, h.3) (ap length (next_f w.pair.bytes.now w.pair.own w.pair.other w.pair.own_read h.0).merged)
one w v (OfG a b) h = rw (h.1, h.2, h.3) (ap length (next_g w.pair.bytes.now w.pair.own w.pair.other w.pair.other_read h.0).merged)
one w v (OfBoth a b) h = rw (h.1, h.2, h.3) (ap length (next_both w.pair.bytes.now w.pair.own w.pair.other w.pair.own_read h.0).merged)

none : (w v : Merged) → Steps w None v → left w ≡ 0
none w v h = ap length (list_end w.pair.bytes.now w.pair.own w.pair.other h.0)

pub steps_left : (w v : Merged) (steps : List Step) → YieldsThen Steps w steps None v → length steps ≡ left w
steps_left w v [] h = sym (ap left h.1 ∙ none h.0 v h.2)
steps_left w v (step ∷ steps) h = ap suc (steps_left h.1.0 v steps (h.0, h.1.2, h.2)) ∙ sym (one w h.1.0 step h.1.1)
