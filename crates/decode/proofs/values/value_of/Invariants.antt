-- None of the order variables before offset k is true.
use Rattle.std.proofs.Common.{◌≡◌}
use Rattle.slots.specs.Variables.{bounds_read}
use Rattle.decode.specs.Values.{value_after, value_from}
use Rattle.decode.proofs.values.value_of.Given as goal

abbrev pub invariant-loop-k : goal.invariant-loop-k
invariant-loop-k l = value_after l.model l.first (bounds_read l.bounds) l.k ≡ value_from l.model l.first (bounds_read l.bounds)
