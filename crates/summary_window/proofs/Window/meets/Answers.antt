-- The edges of a good box are counted by single floats, and read back from their bits.
use Rattle.std.proofs.Common.{◌≡◌, T, ℤ, w32, to_z, of_z, sym, ap₂, subst, ◌∙◌, Float}
use Rattle.std.specs.Float.{binary32}
use Rattle.floats.specs.Value.{counted}
use Rattle.floats.proofs.Machine.{counted_back}
use Rattle.summary_window.specs.Window.{shares_of, meets}
use Rattle.summary_window.proofs.Points.{edges}
use Rattle.summary_window.proofs.Window.meets.Goals as goal

-- an edge as the machine reads it from its bits
abbrev back : ℤ → ℤ
back z = to_z w32 (of_z w32 z)

asked : (z : ℤ) → T (counted binary32 z) → T (counted binary32 (back z))
asked z t = subst (λ (x : ℤ). T (counted binary32 x)) (sym (counted_back z t)) t

read : (l g : Float) (a b : ℤ) → T (counted binary32 a) → T (counted binary32 b) → shares_of l g (back a) (back b) ≡ shares_of l g a b
read l g a b t u = ap₂ (shares_of l g) (counted_back a t) (counted_back b u)

pub shares-requires : goal.shares-requires
shares-requires c =
    let b = c.args.b in
    let e = edges b c.requires in
    (asked b.least.x e.left, asked b.greatest.x e.right)

pub shares-requires-then-shares : goal.shares-requires-then-shares
shares-requires-then-shares c =
    let b = c.args.b in
    let e = edges b c.requires in
    (asked b.least.y e.bottom, asked b.greatest.y e.top)

pub returns-then-shares : goal.returns-then-shares
unfolding meets
returns-then-shares c =
    let w = c.args.self in
    let b = c.args.b in
    let e = edges b c.requires in
    let x = read w.least_x w.greatest_x b.least.x b.greatest.x e.left e.right in
    let y = read w.least_y w.greatest_y b.least.y b.greatest.y e.bottom e.top in
    rw (sym x ∙ sym c.shares.ensures ∙ c.if-shares.true) (c.shares-then-shares.ensures ∙ y)

pub returns-else-shares : goal.returns-else-shares
unfolding meets
returns-else-shares c =
    let w = c.args.self in
    let b = c.args.b in
    let e = edges b c.requires in
    let x = read w.least_x w.greatest_x b.least.x b.greatest.x e.left e.right in
    rw (sym x ∙ sym c.shares.ensures ∙ c.if-shares.false) c.if-shares.false
