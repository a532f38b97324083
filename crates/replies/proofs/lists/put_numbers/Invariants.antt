use Rattle.std.proofs.Common.{◌-◌, length}
use Rattle.replies.specs.Lists.{Writes}
use Rattle.replies.proofs.lists.put_numbers.Given as goal

abbrev pub invariant-loop-got : goal.invariant-loop-got
invariant-loop-got l = Writes l.head.n l.head.m l.head.next l.numbers l.clauses l.at l.text l.initial.list l.list

abbrev pub decreases-loop-got : goal.decreases-loop-got
decreases-loop-got l = length l.text - l.at
