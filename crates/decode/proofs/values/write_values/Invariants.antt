-- The first x values are written.
use Rattle.std.proofs.Common.{◌≡◌, take}
use Rattle.definitions.specs.Encoding.{first}
use Rattle.definitions.specs.Meaning.{values_of}
use Rattle.laws.specs.Boards.{board_of}
use Rattle.laws.specs.Written.{written}
use Rattle.decode.proofs.values.write_values.Given as goal

abbrev pub invariant-loop-x : goal.invariant-loop-x
invariant-loop-x l = (l.first ≡ first (board_of l.opened) l.x) × (l.values ≡ written (take l.x (values_of (board_of l.opened) l.model)) l.initial.values)
