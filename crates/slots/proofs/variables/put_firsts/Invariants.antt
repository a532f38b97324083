-- The table has the first numbers of the variables passed, and the next one follows them.
use Rattle.std.proofs.Common.{◌≡◌}
use Rattle.definitions.specs.Encoding.{first}
use Rattle.laws.specs.Boards.{board_of}
use Rattle.slots.specs.Variables.{FirstsTo}
use Rattle.slots.proofs.variables.put_firsts.Given as goal

abbrev pub invariant-loop-x : goal.invariant-loop-x
invariant-loop-x l = FirstsTo (board_of l.opened) l.x l.firsts × (l.next ≡ first (board_of l.opened) l.x)
