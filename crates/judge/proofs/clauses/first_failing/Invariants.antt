-- The search among the clauses that are coming answers what the whole search does.
use Rattle.std.proofs.Common.{◌≡◌}
use Rattle.judge.proofs.Passing.{Seeking}
use Rattle.judge.proofs.clauses.first_failing.Given as goal

abbrev pub invariant-loop-piece : goal.invariant-loop-piece
invariant-loop-piece l = record {
  rules : l.piece-iterator.rules.now ≡ l.rules;
  seeking : Seeking l.values l.booleans l.rules l.clauses l.number l.piece-iterator.cursor;
}
