-- A record has no more variables than the table has places.
use Rattle.std.proofs.Common.{arith}
use Rattle.laws.specs.Boards.{opens_admitted}
use Rattle.slots.proofs.numbered.Numbered.new.Goals as goal

pub prove-unreachable-requires : goal.prove-unreachable-requires
prove-unreachable-requires c = omega (arith, (opens_admitted _ c.ints.ensures.opens).ints)
