-- The numbers of the pieces passed are in the list, those of the others are to come.
use Rattle.laws.specs.Boards.{board_of}
use Rattle.laws.specs.Filling.{Filling}
use Rattle.laws.specs.Pieces.{pieces_from}
use Rattle.rules.specs.Passes.{Passing, coming}
use Rattle.compile.specs.Lists.{pieces_numbers}
use Rattle.compile.proofs.pieces.put_pieces.Given as goal

abbrev pub invariant-loop-piece : goal.invariant-loop-piece
invariant-loop-piece l = record {
  passing : Passing l.numbered l.piece-iterator;
  filling : Filling (pieces_numbers (board_of l.numbered) (pieces_from 0 (board_of l.numbered).clauses)) (pieces_numbers (board_of l.numbered) (coming l.numbered l.piece-iterator)) l.fn.list l.list l.at;
}
