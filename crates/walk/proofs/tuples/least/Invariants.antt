-- The sum so far is that over the slots passed.
use Rattle.std.proofs.Common.{◌≡◌}
use Rattle.walk.proofs.Sums.{least_up_to}
use Rattle.walk.proofs.tuples.least.Given as goal

abbrev pub invariant-loop-slot : goal.invariant-loop-slot
invariant-loop-slot l = l.sum ≡ least_up_to l.fn.c l.slot-index
