-- The bytes of the pieces passed are in the model, those of the others are to come.
use Rattle.std.proofs.Common.{[]}
use Rattle.definitions.specs.Encoding.{selections}
use Rattle.definitions.specs.Meaning.{assigned}
use Rattle.laws.specs.Boards.{board_of}
use Rattle.laws.specs.Filling.{Filling}
use Rattle.rules.specs.Passes.{Passing, coming}
use Rattle.image.specs.Parts.{selector_bytes}
use Rattle.image.proofs.Selections.{bytes_in}
use Rattle.image.proofs.selectors.put_selectors.Given as goal

abbrev pub invariant-loop-piece : goal.invariant-loop-piece
invariant-loop-piece l = record {
  passing : Passing l.opened l.piece-iterator;
  filling : Filling (selector_bytes (assigned l.values []) (selections (board_of l.opened))) (bytes_in (assigned l.values []) (coming l.opened l.piece-iterator)) l.fn.model l.model l.at;
}
