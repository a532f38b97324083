-- The rest of the word, from the present place on, is answered as the word was.
use Rattle.std.proofs.Common.{◌≡◌, ◌≤◌, max, length, drop}
use Rattle.replies.specs.Parts.{word_at}
use Rattle.replies.proofs.parts.word_at.Given as goal

abbrev pub invariant-loop-letter : goal.invariant-loop-letter
invariant-loop-letter l = record {
  same : word_at (drop l.letter-index l.word) l.at (drop l.at l.text) ≡ word_at l.word l.from (drop l.from l.text);
  on : l.from ≤ l.at;
  inside : l.at ≤ max l.from (length l.text);
}
