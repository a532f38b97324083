-- The shares of the pieces passed and of those to come are those of all.
use Rattle.definitions.specs.Board.{bounds_of}
use Rattle.laws.specs.Boards.{board_of}
use Rattle.laws.specs.Pieces.{pieces_from}
use Rattle.rules.specs.Passes.{Passing, coming}
use Rattle.measure.specs.Shares.{Adding}
use Rattle.measure.proofs.sums.rules_share.Given as goal

abbrev pub invariant-loop-piece : goal.invariant-loop-piece
invariant-loop-piece l = record {
  passing : Passing l.opened l.piece-iterator;
  adding : Adding (bounds_of (board_of l.opened)) (pieces_from 0 (board_of l.opened).clauses) (coming l.opened l.piece-iterator) l.total;
}
