-- Of the literals that were read none holds.
use Rattle.std.proofs.Common.{◌-◌}
use Rattle.laws.specs.Again.{literals_at}
use Rattle.laws.specs.Boards.{board_of}
use Rattle.laws.specs.Pieces.{line_from}
use Rattle.decode.specs.Truth.{true_clause}
use Rattle.decode.specs.Lines.{Reading}
use Rattle.decode.proofs.lines.line_holds.Given as goal

abbrev pub invariant-loop : goal.invariant-loop
invariant-loop l =
    Reading (board_of l.numbered) l.model l.rules (true_clause (board_of l.numbered) l.model (line_from l.selector (literals_at l.rules l.n l.at).value)) l.j (l.n - l.counter) l.place
