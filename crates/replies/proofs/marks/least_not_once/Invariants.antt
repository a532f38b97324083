-- The windows from the present one on answer what all of them do.
use Rattle.std.proofs.Common.{◌≡◌, ◌-◌, ◌≤◌}
use Rattle.replies.specs.Parts.{literals_from}
use Rattle.replies.specs.Marks.{once_from}
use Rattle.replies.proofs.marks.least_not_once.Given as goal

abbrev pub invariant-loop-at : goal.invariant-loop-at
invariant-loop-at l = record {
  inside : l.at ≤ l.end;
  same : once_from l.at (l.end - l.at) (literals_from l.n l.from l.text) ≡ once_from l.first (l.end - l.first) (literals_from l.n l.from l.text);
}

abbrev pub decreases-loop-at : goal.decreases-loop-at
decreases-loop-at l = l.end - l.at
