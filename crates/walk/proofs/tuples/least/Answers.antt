-- Each slot adds its least value, and the sum stays small.
use Rattle.std.proofs.Common.{◌∙◌, ap, arith}
use Rattle.std.proofs.lemmas.Int.{ints}
use Rattle.walk.proofs.Sums.{least_up_to, least_none, least-all, low_near, total_is, total_near}
use Rattle.walk.proofs.tuples.least.Goals as goal

pub loop-slot-init : goal.loop-slot-init
loop-slot-init c = least_none c.args.c

pub overflow_add-sum : goal.overflow_add-sum
overflow_add-sum c = let low = low_near c.args.c c.requires _ c.loop-slot-test.true _ c.slot_range-range.ensures.0 in omega (arith, ints)

pub overflow_add-sum-in-loop-slot : goal.overflow_add-sum-in-loop-slot
overflow_add-sum-in-loop-slot c =
    let low = low_near c.args.c c.requires _ c.loop-slot-test.true _ c.slot_range-range.ensures.0 in
    let total = total_near c.args.c c.requires _ c.loop-slot-test.true _ c.slot_range-range.ensures.0 in
    omega (arith, ints)

pub loop-slot-preserved : goal.loop-slot-preserved
loop-slot-preserved c =
    let low = low_near c.args.c c.requires _ c.loop-slot-test.true _ c.slot_range-range.ensures.0 in
    let near = total_near c.args.c c.requires _ c.loop-slot-test.true _ c.slot_range-range.ensures.0 in
    let total = total_is c.args.c c.requires _ c.loop-slot-test.true _ c.slot_range-range.ensures.0 in
    omega (arith, ints)

pub returns : goal.returns
returns c = c.loop-slot.invariant ∙ ap (least_up_to c.args.c) (omega (arith, c.requires.counted)) ∙ least-all c.args.c c.requires
