-- Each variable's numbers follow those of the one before it, and the selectors' those of the last.
use Rattle.std.proofs.Common.{◌≡◌, ◌<◌, length, sym, arith}
use Rattle.laws.specs.Fits.{first-most, width-most}
use Rattle.laws.specs.Boards.{opens_admitted}
use Rattle.slots.specs.Variables.{first_none, first_more, firsts_more}
use Rattle.slots.proofs.variables.put_firsts.Goals as goal

pub overflow_cast-next : goal.overflow_cast-next
overflow_cast-next c = omega (arith, (opens_admitted _ c.bools.ensures.opens).bools)

pub overflow_add-next : goal.overflow_add-next
overflow_add-next c = omega (arith, (opens_admitted _ c.bools.ensures.opens).bools)

pub loop-x-init : goal.loop-x-init
loop-x-init c = (λ x h. absurd (omega arith), rw c.bools.ensures.bools (sym (first_none _)))

pub overflow_add-next-in-loop-x : goal.overflow_add-next-in-loop-x
overflow_add-next-in-loop-x c = omega (arith, first-most _ (opens_admitted _ c.bools.ensures.opens) c.loop-x.x, width-most _ c.bounds_of.ensures.good)

pub loop-x-preserved : goal.loop-x-preserved
loop-x-preserved c =
    let e = first_more _ _ _ (omega arith) c.bounds_of.ensures in
    (firsts_more _ _ _ c.loop-x.firsts c.loop-x.invariant.1 (omega arith) c.loop-x.invariant.0, omega (arith, e))

pub returns-clause-firsts : goal.returns-clause-firsts
returns-clause-firsts c =
    let e : c.loop-x.x ≡ c.ints-ints.result = omega arith in
    let n = rw e at c.loop-x.invariant.1 in
    let there : c.ints-ints.result < length c.loop-x.firsts = omega arith in
    rw (← c.ints-ints.ensures.ints) (firsts_more _ c.ints-ints.result _ c.loop-x.firsts n there (λ x h. c.loop-x.invariant.0 x (omega arith)))
