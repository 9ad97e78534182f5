use Rattle.std.proofs.Common.{rules, ◌≡◌, ◌≤◌, length, take, ℕ, ◌+◌, List, ◌++◌, sym, ap, ◌∙◌, subst, length-take-le}
use Rattle.std.proofs.lemmas.List.{take-append-le}
use Rattle.std.proofs.Math.Seq.{take-append-add}
use Rattle.std.specs.Io.KnownBytes.{Consumes}
use Rattle.std.proofs.KnownBytes.{Consumes-trans}
use borrow.Rule.Slice.PartMut.{put_mid, post_of}
use Rattle.streams.proofs.read_full.Goals as goal

-- the first a elements of a list, and the first n of what was put after them
take-put_mid-more : (a k n : ℕ) (xs ys : List ℕ) → a ≤ length xs → n ≤ length ys → take (a + n) (put_mid a k xs ys) ≡ take a xs ++ take n ys
take-put_mid-more a k n xs ys within fits =
    let at = length-take-le a xs within in
    ap (λ m. take (m + n) (put_mid a k xs ys)) (sym at)
    ∙ take-append-add (take a xs) (ys ++ post_of a k xs) n
    ∙ ap (λ l. take a xs ++ l) (take-append-le n ys (post_of a k xs) fits)

pub loop-done-preserved : goal.loop-done-preserved
loop-done-preserved g c =
    let more = take-put_mid-more c.loop-done.done _ c.in-Ok.n c.loop-done.buf c.read.new.buf c.loop-done.invariant.1 c.in-Ok.ensures.bound.0 in
    (search rules, search rules, subst (Consumes _ _) (sym more) (Consumes-trans _ _ _ _ _ c.loop-done.invariant.2 c.in-Ok.ensures.bytes.0))
