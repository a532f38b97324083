-- Each variable's numbers follow those of the one before it.
use Rattle.std.proofs.Common.{sym, arith}
use Rattle.laws.specs.Fits.{first-most, width-most}
use Rattle.laws.specs.Boards.{opens_admitted}
use Rattle.slots.specs.Variables.{first_none, first_more}
use Rattle.slots.proofs.variables.first_number.Goals as goal

pub overflow_cast-number : goal.overflow_cast-number
overflow_cast-number c = omega (arith, (opens_admitted _ c.bools.ensures.opens).bools)

pub overflow_add-number : goal.overflow_add-number
overflow_add-number c = omega (arith, (opens_admitted _ c.bools.ensures.opens).bools)

pub loop-y-init : goal.loop-y-init
loop-y-init c = rw c.bools.ensures.bools (sym (first_none _))

pub overflow_add-number-in-loop-y : goal.overflow_add-number-in-loop-y
overflow_add-number-in-loop-y c = omega (arith, first-most _ (opens_admitted _ c.bools.ensures.opens) c.loop-y.y, width-most _ c.bounds_of.ensures.good)

pub loop-y-preserved : goal.loop-y-preserved
loop-y-preserved c = omega (arith, first_more _ _ _ (omega arith) c.bounds_of.ensures)
