-- The four products of halves, each at its place.
use Rattle.std.proofs.Common.{ℕ, ◌≡◌, ◌+◌, ◌*◌, ◌/◌, ◌%◌, ◌<◌, ◌≤◌, sym, ap₂, ◌∙◌, arith}
use native.Mathlib.Nat.{add_assoc, add_comm, add_left_comm, mul_assoc, mul_comm, mul_left_comm, mul-add, add-mul, mul-le-mul, div-add-mod'}
use Rattle.plane.proofs.product.Goals as goal

-- two numbers of two digits, in any base
digits : (P a₀ a₁ b₀ b₁ : ℕ) → (a₁ * P + a₀) * (b₁ * P + b₀) ≡ a₁ * b₁ * (P * P) + a₁ * b₀ * P + a₀ * b₁ * P + a₀ * b₀
digits P a₀ a₁ b₀ b₁ = simp (mul-add, add-mul, mul_assoc, mul_comm, mul_left_comm, add_assoc, add_comm, add_left_comm)

by_halves : (u v : ℕ) →
    u * v ≡ u / 65536 * (v / 65536) * 4294967296 + u / 65536 * (v % 65536) * 65536 + u % 65536 * (v / 65536) * 65536 + u % 65536 * (v % 65536)
by_halves u v =
    sym (ap₂ (λ x y. x * y) (div-add-mod' u 65536) (div-add-mod' v 65536)) ∙ digits 65536 (u % 65536) (u / 65536) (v % 65536) (v / 65536)

small : (u v : ℕ) → u < 134217728 → v < 134217728 → u * v ≤ 134217727 * 134217727
small u v h k = mul-le-mul (low h) (low k)
  where
    low : {n : ℕ} → n < 134217728 → n ≤ 134217727
    low h = omega (arith, h)

pub returns : goal.returns
returns c =
    let u = c.args.u in
    let v = c.args.v in
    let e = by_halves u v in
    let h = small u v c.requires.0 c.requires.1 in
    (omega (arith, c.times-high.ensures, c.times.ensures, c.times-2.ensures, c.times-low.ensures), omega (arith, c.times-high.ensures, c.times.ensures, c.times-2.ensures, c.times-low.ensures))
