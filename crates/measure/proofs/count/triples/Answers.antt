-- `measure::count::triples` meets its contract.
use native.Mathlib.Omega.{arith}
use Rattle.measure.proofs.Formula.{no_fewer, triples_are}
use Rattle.measure.proofs.count.triples.Goals as goal

pub overflow_sub-result : goal.overflow_sub-result
overflow_sub-result c =
    omega (arith, no_fewer c.args.u c.args.a c.args.b c.args.c c.requires.sum c.requires.first.0 c.requires.second.0 c.requires.third.0)

pub returns : goal.returns
returns c =
    omega (arith, triples_are c.args.u c.args.a c.args.b c.args.c)
