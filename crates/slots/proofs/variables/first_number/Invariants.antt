-- After y variables the number is the first of variable y.
use Rattle.std.proofs.Common.{◌≡◌}
use Rattle.definitions.specs.Encoding.{first}
use Rattle.laws.specs.Boards.{board_of}
use Rattle.slots.proofs.variables.first_number.Given as goal

abbrev pub invariant-loop-y : goal.invariant-loop-y
invariant-loop-y l = l.number ≡ first (board_of l.opened) l.y
