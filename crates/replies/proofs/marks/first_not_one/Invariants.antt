-- The search from the present mark on answers what the search of all does.
use Rattle.std.proofs.Common.{◌≡◌, ◌+◌, drop}
use Rattle.replies.specs.Marks.{ones_from}
use Rattle.replies.proofs.marks.first_not_one.Given as goal

abbrev pub invariant-loop-i : goal.invariant-loop-i
invariant-loop-i l = ones_from (l.first + l.i) (drop l.i l.marks) ≡ ones_from l.first l.marks
