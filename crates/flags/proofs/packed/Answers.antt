-- `flags::packed` meets its contract: with one flag more the number is still the vector of as many flags as are left, sixteen at most.
use Rattle.std.proofs.Common.{arith, ℕ, ◌+◌, ◌*◌, ◌-◌, ◌^◌, ◌<◌, ◌≤◌, ◌≡◌, Bool, List, length, drop, get_or, false, ap, length-drop}
use Rattle.std.proofs.Math.Pow.{pow_mono}
use Rattle.std.proofs.lemmas.Grind.{common_steps}
use Rattle.std.proofs.lemmas.List.{drop_more}
use Rattle.whole.specs.Count.{bit}
use Rattle.flags.specs.Flags.{pack}
use Rattle.flags.proofs.Bits.{pack_lt}
use Rattle.flags.proofs.packed.Goals as goal

-- one flag more
few : (l : List Bool) (k : ℕ) → 0 < k → k ≤ length l → length l ≤ 16 → bit (get_or l (k - 1) false) + 2 * pack (drop k l) < 2 ^ 16
few l k more within small =
    let next : pack (drop (k - 1) l) ≡ bit (get_or l (k - 1) false) + 2 * pack (drop (k - 1 + 1) l) = ap pack (drop_more l (k - 1) false (omega arith)) in
    let here : k - 1 + 1 ≡ k = omega arith in
    omega (arith, rw here at next, pack_lt (drop (k - 1) l), length-drop {A = Bool}, pow_mono {i = length (drop (k - 1) l)} {j = 16} (omega (arith, length-drop {A = Bool})))

pub overflow_mul-vector : goal.overflow_mul-vector
overflow_mul-vector g c = omega (arith, few c.args.flags c.loop-k.k (omega arith) (omega arith) (omega arith))

pub overflow_add-vector : goal.overflow_add-vector
overflow_add-vector g c = omega (arith, few c.args.flags c.loop-k.k (omega arith) (omega arith) (omega arith))

pub returns : goal.returns
returns g c = grind (arith, common_steps, pack_lt c.args.flags)
