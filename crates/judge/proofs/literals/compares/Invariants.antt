-- The sum of the terms so far.
use Rattle.laws.specs.Reread.{terms_at}
use Rattle.judge.proofs.Sums.{Summed}
use Rattle.judge.proofs.literals.compares.Given as goal

abbrev pub invariant-loop-term : goal.invariant-loop-term
invariant-loop-term l = Summed l.values (terms_at l.rules l.place) l.term-index l.sum
