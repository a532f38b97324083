use Rattle.std.proofs.Common.{◌≡◌}
use Rattle.definitions.specs.Encoding as encoding
use Rattle.laws.specs.Boards.{board_of}
use Rattle.writing.specs.Parts.{Adding}
use Rattle.compile.specs.Lists.{axioms_from}
use Rattle.compile.proofs.variables.put_variables.Given as goal

abbrev pub invariant-loop-x : goal.invariant-loop-x
invariant-loop-x g l =
    Adding g.P.Part.room g.P.Part.adds (axioms_from (board_of l.opened) 0) (axioms_from (board_of l.opened) l.x) l.fn.at l.fn.part l.place l.part × (l.first ≡ encoding.first (board_of l.opened) l.x)
