use Rattle.std.proofs.Common.{◌-◌, length}
use Rattle.replies.specs.Texts.{Counts}
use Rattle.replies.proofs.clauses.count_numbers.Given as goal

abbrev pub invariant-loop-got : goal.invariant-loop-got
invariant-loop-got l = Counts l.head.n l.head.m l.head.next l.numbers l.clauses l.at l.text

abbrev pub decreases-loop-got : goal.decreases-loop-got
decreases-loop-got l = length l.text - l.at
