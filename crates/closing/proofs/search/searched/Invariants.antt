-- Between two replies the others lead to the answer of all.
use Rattle.closing.specs.Ranges.{Going}
use Rattle.closing.proofs.search.searched.Given as goal

abbrev pub invariant-loop-i : goal.invariant-loop-i
invariant-loop-i l = Going l.replies l.initial.hour l.hour l.i
