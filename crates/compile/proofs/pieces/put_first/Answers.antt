use Rattle.std.proofs.Common.{arith, rules}
use Rattle.writing.specs.Adds.{all_held}
use Rattle.compile.proofs.pieces.put_first.Goals as goal

pub returns : goal.returns
returns c =
    let a = c.put_piece.ensures in
    let e = all_held a.0 c.requires.2 in
    (omega (arith, a.0.place), rw (← e) (search rules))
