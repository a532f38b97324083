-- The clauses before number `number` hold; the rest of a piece is left, and the pieces behind it.
use Rattle.std.proofs.Common.{length}
use Rattle.laws.specs.Boards.{board_of}
use Rattle.opening.specs.Headers.{tail_of}
use Rattle.rules.specs.Cursors.{todo}
use Rattle.walk.specs.Comparisons.{to_come}
use Rattle.decode.specs.Passes.{Passing, Walks}
use Rattle.decode.proofs.search.search_rules.Given as goal

abbrev pub invariant-loop-here : goal.invariant-loop-here
invariant-loop-here l = Walks (board_of l.numbered) l.model (tail_of l.numbered) l.from l.number l.tails l.here l.behind

abbrev pub decreases-loop-here : goal.decreases-loop-here
decreases-loop-here l = length (to_come l.tails l.here)

abbrev pub invariant-search : goal.invariant-search
invariant-search l = Passing (board_of l.numbered) l.model (tail_of l.numbered) l.from l.number l.cursor

abbrev pub decreases-search : goal.decreases-search
decreases-search l = todo l.cursor
