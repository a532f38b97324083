-- The digits of `left` are still to come, and the last of them goes before `at`.
use Rattle.text.specs.Decimals.{Backwards}
use Rattle.text.proofs.numbers.put_decimal.Given as goal

abbrev pub invariant-loop-at : goal.invariant-loop-at
invariant-loop-at l = Backwards l.n l.fn.out l.out l.left l.at
