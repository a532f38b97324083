use Rattle.std.proofs.Common.{arith, rules}
use Rattle.writing.specs.Adds.{all_held}
use Rattle.compile.proofs.put_axioms.Goals as goal

pub returns : goal.returns
returns c =
    let a = c.put_variables.ensures in
    let e = all_held a.0 c.requires in
    (omega (arith, a.0.place), rw (← e) (search rules))
