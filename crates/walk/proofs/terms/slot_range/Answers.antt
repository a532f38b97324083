-- By the coefficient's sign.
use Rattle.std.proofs.Common.{pos, ◌≤ℤ◌, ◌<ℤ◌, arith}
use Rattle.std.proofs.lemmas.Int.{ints}
use Rattle.walk.proofs.Slots.{slot_fits, rising, falling}
use Rattle.walk.proofs.terms.slot_range.Goals as goal

pub overflow_mul-at_lower : goal.overflow_mul-at_lower
overflow_mul-at_lower c = search slot_fits

pub overflow_mul-at_upper : goal.overflow_mul-at_upper
overflow_mul-at_upper c = search slot_fits

pub overflow_sub-result : goal.overflow_sub-result
overflow_sub-result c = search slot_fits

pub returns-then-s-gt0 : goal.returns-then-s-gt0
returns-then-s-gt0 c = let h : pos 0 <ℤ c.args.s.coefficient = omega (arith, ints) in search (slot_fits, rising c.args.s h)

pub overflow_sub-result-2 : goal.overflow_sub-result-2
overflow_sub-result-2 c = search slot_fits

pub returns : goal.returns
returns c = let h : c.args.s.coefficient ≤ℤ pos 0 = omega (arith, ints) in search (slot_fits, falling c.args.s h)
