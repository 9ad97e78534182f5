-- `flags::has_bit` meets its contract: the last bit of what is left of the vector.
use Rattle.std.proofs.Common.{◌/◌, ◌^◌, ap, nat_eq}
use lib.Bits.{and_mask}
use Rattle.whole.specs.Count.{odd}
use Rattle.flags.specs.Flags.{has_bit}
use Rattle.flags.proofs.has_bit.Goals as goal

pub returns : goal.returns
unfolding has_bit odd
returns c = ap (λ n. nat_eq n 1) (and_mask (c.args.v / 2 ^ c.args.k) 1)
