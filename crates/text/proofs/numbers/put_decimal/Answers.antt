-- One digit after another goes before those that are written; the first is left.
use Rattle.std.proofs.Common.{arith}
use Rattle.text.specs.Decimals.{some_digit, from_end, at_in, one_more, more_left, one_left, first-digit}
use Rattle.text.proofs.numbers.put_decimal.Goals as goal

pub loop-at-init : goal.loop-at-init
loop-at-init c = from_end c.args.n c.args.out.now _ c.ranges.n.fits c.digits-length.ensures c.requires

pub loop-at-preserved : goal.loop-at-preserved
loop-at-preserved c = one_more c.loop-at.invariant (more_left c.loop-at.invariant c.loop-at-test.true)

pub overflow_cast-out-2 : goal.overflow_cast-out-2
overflow_cast-out-2 c = omega (arith, one_left c.loop-at.invariant c.loop-at-test.false)

pub overflow_add-out-2 : goal.overflow_add-out-2
overflow_add-out-2 c = omega (arith, one_left c.loop-at.invariant c.loop-at-test.false)

pub bounds-out-0 : goal.bounds-out-0
bounds-out-0 c = omega (arith, at_in c.loop-at.invariant, c.loop-at.invariant.sized, some_digit c.loop-at.left)

pub returns : goal.returns
returns c = (c.digits-length.ensures, first-digit c.loop-at.invariant (one_left c.loop-at.invariant c.loop-at-test.false))
