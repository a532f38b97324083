-- What is found from the present place on is found from the first.
use Rattle.std.proofs.Common.{◌≡◌, ◌≤◌, ◌-◌, max, length, drop}
use Rattle.replies.specs.Parts.{found_from}
use Rattle.replies.proofs.clauses.next_number.Given as goal

abbrev pub invariant-loop-at : goal.invariant-loop-at
invariant-loop-at l = record {
  same : found_from l.n l.room l.at (drop l.at l.text) ≡ found_from l.n l.room l.from (drop l.from l.text);
  on : l.from ≤ l.at;
  inside : l.at ≤ max l.from (length l.text);
}

abbrev pub decreases-loop-at : goal.decreases-loop-at
decreases-loop-at l = length l.text - l.at
