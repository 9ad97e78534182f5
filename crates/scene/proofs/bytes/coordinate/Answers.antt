-- Four bytes make a word below 2 ^ 32, and a word is read with its sign alike.
use Rattle.std.proofs.Common.{◌≡◌, ◌∙◌, ap, ℕ, ◌+◌, ◌<◌, ◌^◌, arith, rules, to_z}
use Rattle.std.proofs.lemmas.Int.{to_z-of_z}
use borrow.Author.Tests.{lt-ltb}
use mir.Syntax.{w32}
use Rattle.scene.specs.Read.{word, signed, coordinate}
use Rattle.scene.proofs.bytes.coordinate.Goals as goal

with_sign : (n : ℕ) → n < 2 ^ 32 → to_z w32 n ≡ signed n
unfolding signed
with_sign n fits = rw (lt-ltb n (2 ^ 32) fits)

pub returns : goal.returns
unfolding coordinate
returns c =
    let s = c.args.s.now in
    let at = c.args.at in
    let fits : word s at < 2 ^ 32 = omega (arith, c.type_inv.s at, c.type_inv.s (at + 1), c.type_inv.s (at + 2), c.type_inv.s (at + 3)) in
    to_z-of_z w32 _ (search rules) ∙ c.from_le_bytes.ensures ∙ ap (to_z w32) (omega arith) ∙ with_sign (word s at) fits
