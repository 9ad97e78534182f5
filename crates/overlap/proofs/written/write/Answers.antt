-- `overlap::written::write` meets its contract: a byte of the list is due where a segment comes next, and there is room for it.
use Rattle.std.proofs.Common.{arith, ℕ, List, ◌∷◌, map, length, sym, ap, subst, ◌∙◌}
use Rattle.scene.specs.declared.Layout.{Layout}
use Rattle.flags.specs.Elements.{edges}
use Rattle.overlap.specs.Bytes.{byte_of}
use Rattle.overlap.specs.Walked.{NextByte}
use Rattle.overlap.proofs.BySides.{next_byte}
use Rattle.overlap.proofs.Checked.{listable}
use Rattle.overlap.proofs.Filled.{Filled, filled_none, filled_count, filled_more}
use Rattle.overlap.proofs.Listing.{all_bytes, bytes_from, bytes_start}
use Rattle.overlap.proofs.written.write.Goals as goal

-- the byte that is due
due : (s : List ℕ) (f g : Layout) (all lent buffer : List ℕ) {n i j b k m : ℕ} → NextByte s f g i j b k m → Filled all lent n (bytes_from s f g i j) buffer → Filled all lent n (b ∷ bytes_from s f g k m) buffer
due s f g all lent buffer {n} {i} {j} {b} {k} {m} next h =
    subst (λ (b : ℕ). Filled all lent n (b ∷ bytes_from s f g k m) buffer) (sym next.byte)
    (subst (λ (r : List ℕ). Filled all lent n r buffer) (ap (map (byte_of (edges s f) (edges s g))) next.next.merged) h)

pub loop-next-init : goal.loop-next-init
loop-next-init c =
    let z = c.args.regions.read in
    let w = c.of-next-items.ensures in
    let filled = filled_none (all_bytes z.bytes.now z.scene.f z.scene.g) c.args.list.now (bytes_start z.bytes.now z.scene.f z.scene.g) in
    rw (c.into_iter-next-iterator.ensures.into_iter_gives) (record { same = w.0; filled = rw (w.1, w.2) filled })

pub bounds-list-n : goal.bounds-list-n
bounds-list-n c =
    let z = c.args.regions.read in
    let lent = c.args.list.now in
    let h = c.loop-next.invariant in
    let next = next_byte z.bytes.now z.scene.f z.scene.g (rw h.same at c.in-Some.ensures.steps.1) c.byte.ensures in
    let d = due z.bytes.now z.scene.f z.scene.g (all_bytes z.bytes.now z.scene.f z.scene.g) lent c.loop-next.list next h.filled in
    let room = (listable z.bytes.now (length lent) z.scene c.requires).fits in
    omega (arith, filled_count d)

pub loop-next-preserved : goal.loop-next-preserved
loop-next-preserved c =
    let z = c.args.regions.read in
    let lent = c.args.list.now in
    let h = c.loop-next.invariant in
    let step = c.in-Some.ensures.steps in
    let next = next_byte z.bytes.now z.scene.f z.scene.g (rw h.same at step.1) c.byte.ensures in
    let d = due z.bytes.now z.scene.f z.scene.g (all_bytes z.bytes.now z.scene.f z.scene.g) lent c.loop-next.list next h.filled in
    let room = (listable z.bytes.now (length lent) z.scene c.requires).fits in
    record { same = step.0 ∙ h.same; filled = filled_more (omega (arith, filled_count d)) d }
