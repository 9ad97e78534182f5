-- The index is that of the element whose record stands there.
use Rattle.std.proofs.Common.{◌≡◌, ℕ, ◌<◌, [], sym, subst, arith}
use Rattle.scene.specs.declared.Layout.{Layout}
use Rattle.scene.specs.Read.{place}
use Rattle.sweep_laws.specs.Held.{Placed}
use Rattle.sweep_status.proofs.note.note_at.Goals as goal

-- an index below 1,024, where it is that of a record
few : {l : Layout} {at k : ℕ} → Placed l at → ((i : ℕ) → at ≡ place l i → k ≡ i) → k < 1024
few p is = subst (λ (i : ℕ). i < 1024) (sym (is p.index p.is_place)) p.few

pub index_at-requires : goal.index_at-requires
index_at-requires c =
    let p = subst (λ (l : Layout). Placed l c.args.at) (sym c.object.ensures) (c.requires []) in
    omega (arith, p.is_place)

pub of-requires : goal.of-requires
of-requires c = few (subst (λ (l : Layout). Placed l c.args.at) (sym c.object.ensures) (c.requires [])) c.index_at.ensures
