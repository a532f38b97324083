-- The numbers of the pieces passed are added, those of the others are to come.
use Rattle.laws.specs.Boards.{board_of}
use Rattle.laws.specs.Pieces.{pieces_from}
use Rattle.rules.specs.Passes.{Passing, coming}
use Rattle.writing.specs.Parts.{Adding}
use Rattle.compile.specs.Lists.{pieces_numbers}
use Rattle.write_text.proofs.pieces.add_pieces.Given as goal

abbrev pub invariant-loop-piece : goal.invariant-loop-piece
invariant-loop-piece g l = record {
  passing : Passing l.numbered l.piece-iterator;
  adding : Adding g.P.Part.room g.P.Part.adds (pieces_numbers (board_of l.numbered) (pieces_from 0 (board_of l.numbered).clauses)) (pieces_numbers (board_of l.numbered) (coming l.numbered l.piece-iterator)) l.fn.at l.fn.part l.to l.part;
}
