-- What is written and the bytes from variable x on are all the bytes.
use Rattle.std.proofs.Common.{[]}
use Rattle.definitions.specs.Meaning.{assigned}
use Rattle.laws.specs.Boards.{board_of}
use Rattle.laws.specs.Filling.{Filling}
use Rattle.image.specs.Variables.{orders_from}
use Rattle.image.proofs.variables.put_variables.Given as goal

abbrev pub invariant-loop-x : goal.invariant-loop-x
invariant-loop-x l = Filling (orders_from (board_of l.opened) (assigned l.values []) 0) (orders_from (board_of l.opened) (assigned l.values []) l.x) l.initial.model l.model l.at
