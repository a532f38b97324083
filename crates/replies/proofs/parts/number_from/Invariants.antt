-- The rest of the number, from the present place on, is answered as the number was.
use Rattle.std.proofs.Common.{◌≡◌, ◌≤◌, ◌-◌, max, length, drop}
use Rattle.replies.specs.Parts.{number_from}
use Rattle.laws.specs.Stepping.{num}
use Rattle.replies.specs.Said.{number_said}
use Rattle.replies.proofs.parts.number_from.Given as goal

abbrev pub invariant-loop-at : goal.invariant-loop-at
invariant-loop-at l = record {
  same : number_from l.n (num l.fn.first.start l.fn.first.minus l.size) l.at (drop l.at l.text) ≡ number_from l.n (number_said l.fn.first) l.from (drop l.from l.text);
  on : l.from ≤ l.at;
  inside : l.at ≤ max l.from (length l.text);
}

abbrev pub decreases-loop-at : goal.decreases-loop-at
decreases-loop-at l = length l.text - l.at
