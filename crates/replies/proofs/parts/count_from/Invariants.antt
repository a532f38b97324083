-- The rest of the count, from the present place on, is answered as the count was.
use Rattle.std.proofs.Common.{◌≡◌, ◌≤◌, ◌-◌, max, length, drop}
use Rattle.definitions.specs.Texts.{most}
use Rattle.replies.specs.Parts.{count_from}
use Rattle.replies.proofs.parts.count_from.Given as goal

abbrev pub invariant-loop-at : goal.invariant-loop-at
invariant-loop-at l = record {
  same : count_from l.value l.at (drop l.at l.text) ≡ count_from l.first l.from (drop l.from l.text);
  small : l.value ≤ most;
  on : l.from ≤ l.at;
  inside : l.at ≤ max l.from (length l.text);
}

abbrev pub decreases-loop-at : goal.decreases-loop-at
decreases-loop-at l = length l.text - l.at
