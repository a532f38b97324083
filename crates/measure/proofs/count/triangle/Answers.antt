-- `measure::count::triangle` meets its contract.
use mathlib.Core.Path.{sym}
use Rattle.laws.specs.Counting.{tri_is, tri_fits}
use Rattle.measure.proofs.count.triangle.Goals as goal

pub returns : goal.returns
returns c =
    (sym (tri_is c.args.u), rw (← tri_is c.args.u) (tri_fits c.args.u c.requires))
