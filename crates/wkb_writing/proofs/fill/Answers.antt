-- The header and the count, then the parts; or 21 where they do not fit.
use Rattle.std.proofs.Common.{◌++◌, ◌≡◌, false, [], List, ℕ, Ok, arith, length, drop, length-append, sym, ap, ◌∙◌}
use Rattle.scene.specs.declared.Layout.{Layout}
use Rattle.scene.specs.Conditions.{is_region, object}
use Rattle.wkb_writing.specs.Wkb.{wkb_of}
use Rattle.wkb_writing.specs.Parts.{start_bytes, parts_from, count_from}
use Rattle.wkb_writing.specs.Writing.{WriteAnswer, buffer_after}
use Rattle.wkb_writing.proofs.Lengths.{word_long}
use Rattle.wkb_writing.proofs.OneByOne.{wkb_is}
use Rattle.wkb_writing.proofs.Halved.{parts_few, parts_fit}
use Rattle.wkb_writing.proofs.Answered.{too_short, enough}
use Rattle.wkb_writing.proofs.fill.Goals as goal

-- what stands in the vector at the end
written : (s : List ℕ) (l : Layout) → is_region l.shape ≡ false → {n : ℕ} {empty begun all bytes : List ℕ} → n ≡ count_from s l l.count 0 → empty ≡ []
    → begun ≡ empty ++ start_bytes l.shape n → all ≡ begun ++ parts_from s l l.count 0 → bytes ≡ all → bytes ≡ wkb_of (object s l)
written s l flat {n} count none start parts bytes =
    bytes
    ∙ parts
    ∙ ap (λ (w : List ℕ). w ++ parts_from s l l.count 0) (start ∙ ap (λ (w : List ℕ). w ++ start_bytes l.shape n) none)
    ∙ ap (λ (n : ℕ). start_bytes l.shape n ++ parts_from s l l.count 0) count
    ∙ wkb_is s l flat

pub overflow_cast-count : goal.overflow_cast-count
overflow_cast-count c = omega (arith, parts_few c.args.o.bytes.now c.args.o.layout c.requires.0, c.count.ensures)

pub all-requires : goal.all-requires
all-requires c =
    let s = c.args.o.bytes.now in
    let l = c.args.o.layout in
    omega (arith, parts_fit s l c.requires.0, simp length-append at (ap length c.start.ensures), ap length c.new-all.ensures, word_long)

pub returns-then-wkb-bytes : goal.returns-then-wkb-bytes
returns-then-wkb-bytes c =
    let s = c.args.o.bytes.now in
    let l = c.args.o.layout in
    let is = written s l c.requires.1 c.count.ensures c.new-all.ensures c.start.ensures c.all.ensures c.as_slice-bytes.ensures.value in (
      c.at.ensures ∙ too_short s l c.requires.1 (length c.args.wkb.now) (rw is at c.if-wkb-bytes.true),
      sym (ap (λ (r : WriteAnswer). buffer_after (wkb_of (object s l)) r c.args.wkb.now) c.at.ensures),
    )

pub returns : goal.returns
returns c =
    let s = c.args.o.bytes.now in
    let l = c.args.o.layout in
    let is = written s l c.requires.1 c.count.ensures c.new-all.ensures c.start.ensures c.all.ensures c.as_slice-bytes.ensures.value in (
      ap (λ (w : List ℕ). Ok (length w)) is ∙ enough s l c.requires.1 (length c.args.wkb.now) (rw is at c.if-wkb-bytes.false),
      ap (λ (w : List ℕ). w ++ drop (length c.as_slice-bytes.result.now) c.args.wkb.now) (c.copy_from_slice.ensures.after ∙ is),
    )
