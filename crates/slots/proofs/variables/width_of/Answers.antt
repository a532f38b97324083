-- Of good bounds nothing overflows.
use Rattle.std.proofs.Common.{pos, ◌+ℤ◌, ◌-ℤ◌, arith}
use Rattle.std.proofs.lemmas.Int.{ints}
use Rattle.definitions.specs.Encoding.{width}
use Rattle.laws.specs.Whole.{part_law}
use Rattle.slots.proofs.variables.width_of.Goals as goal

pub returns : goal.returns
unfolding width
returns c = let b = c.args.bounds in omega (arith, ints, part_law (b.upper -ℤ b.lower +ℤ pos 2))
