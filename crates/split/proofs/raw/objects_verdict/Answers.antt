-- The second object begins where the first one's bytes end.
use Rattle.std.proofs.Common.{◌≡◌, ◌∙◌, ◌≤◌, ◌-◌, ℕ, List, sym, ap, ap₂, subst, length, take, drop, arith}
use Rattle.std.proofs.lemmas.List.{length-take-le, length-drop}
use Rattle.std.proofs.Math.Seq.{take-length}
use Rattle.scene.specs.Conditions.{check_object}
use Rattle.scene.proofs.Taken.{taken_scene, scene_short}
use Rattle.split.proofs.Joined.{at_small, first_small, second_small, objects_joined}
use Rattle.split.specs.Joined.{found, sooner}
use Rattle.split.proofs.raw.objects_verdict.Goals as goal

pub slice_bounds-verdict-end : goal.slice_bounds-verdict-end
slice_bounds-verdict-end c =
    let o = c.args.read in
    let at = c.as_given-start.result.other.start in
    sym (length-take-le at o.bytes.now (subst (λ n. n ≤ length o.bytes.now) (sym (ap (λ l. l.start) c.as_given-start.ensures.2)) (at_small o.bytes.now o.scene o.read)))

pub verdict-requires : goal.verdict-requires
verdict-requires c r e =
    let o = c.args.read in
    let w = first_small o.bytes.now o.scene o.read r (ap (λ l. check_object (take l.start o.bytes.now)) (sym c.as_given-start.ensures.2) ∙ e) in
    omega (arith, w, scene_short o.bytes.now o.scene (taken_scene o.bytes.now o.scene o.read))

pub slice_bounds-verdict-count : goal.slice_bounds-verdict-count
slice_bounds-verdict-count c =
    let o = c.args.read in
    subst (λ n. n ≤ length o.bytes.now) (sym (ap (λ l. l.start) c.as_given-start.ensures.2)) (at_small o.bytes.now o.scene o.read)

pub slice_bounds-verdict-start : goal.slice_bounds-verdict-start
slice_bounds-verdict-start c =
    let o = c.args.read in
    subst (λ n. n ≤ length o.bytes.now) (sym (ap (λ l. l.start) c.as_given-start.ensures.2)) (at_small o.bytes.now o.scene o.read)

-- a part up to the end is all that is left
to_the_end : (n : ℕ) (l : List ℕ) → take (length l - n) (drop n l) ≡ drop n l
to_the_end n l = ap (λ k. take k (drop n l)) (sym (length-drop n l)) ∙ take-length (drop n l)

pub verdict-requires-2 : goal.verdict-requires-2
verdict-requires-2 c r e =
    let o = c.args.read in
    let at = ap (λ l. l.start) c.as_given-start.ensures.2 in
    let found = ap check_object (sym (to_the_end c.as_given-start.result.other.start o.bytes.now)) ∙ e in
    let w = second_small o.bytes.now o.scene o.read r (ap (λ n. check_object (drop n o.bytes.now)) (sym at) ∙ found) in
    omega (arith, at, w, scene_short o.bytes.now o.scene (taken_scene o.bytes.now o.scene o.read))

pub returns : goal.returns
returns c =
    let o = c.args.read in
    let at = ap (λ l. l.start) c.as_given-start.ensures.2 in
    c.sooner.ensures
    ∙ ap₂ sooner (c.verdict.ensures ∙ ap (λ n. found 0 (check_object (take n o.bytes.now))) at)
    (c.verdict-2.ensures
    ∙ ap (λ l. found c.as_given-start.result.other.start (check_object l)) (to_the_end c.as_given-start.result.other.start o.bytes.now)
    ∙ ap (λ n. found n (check_object (drop n o.bytes.now))) at)
    ∙ sym (objects_joined o.bytes.now o.scene o.read)
