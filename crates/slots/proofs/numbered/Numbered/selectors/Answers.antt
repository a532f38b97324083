-- The table has a place behind those of all variables.
use Rattle.std.proofs.Common.{arith}
use Rattle.laws.specs.Boards.{opens_admitted}
use Rattle.slots.proofs.numbered.Numbered.selectors.Goals as goal

pub offset_bounds-self-inside-ints : goal.offset_bounds-self-inside-ints
offset_bounds-self-inside-ints c = omega (arith, (opens_admitted _ c.ints.ensures.opens).ints)

pub bounds-self-inside-ints : goal.bounds-self-inside-ints
bounds-self-inside-ints c = omega (arith, (opens_admitted _ c.ints.ensures.opens).ints)
