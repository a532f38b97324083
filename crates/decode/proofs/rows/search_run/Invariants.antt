-- The clauses before the present one hold.
use Rattle.std.proofs.Common.{◌≡◌, map, length, false}
use Rattle.definitions.specs.Tools.{All}
use Rattle.laws.specs.Mentions.{InList}
use Rattle.walk.specs.Rows.{front_of, in_run, ReadyRun}
use Rattle.decode.specs.Truth.{true_tail}
use Rattle.decode.specs.Goes.{Goes}
use Rattle.decode.proofs.rows.search_run.Given as goal

abbrev pub invariant-loop-at : goal.invariant-loop-at
invariant-loop-at l =
    Goes l.number (map (true_tail l.model) (in_run l.fn.run)) l.at (map (true_tail l.model) (in_run l.rest))
    × ReadyRun l.rest × (true_tail l.model (front_of l.rest.front) ≡ false) × All (All (InList (length l.model))) (in_run l.rest)
