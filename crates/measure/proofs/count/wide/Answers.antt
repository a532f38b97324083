-- `measure::count::wide` meets its contract.
use mathlib.Core.Path.{ap}
use native.Mathlib.Omega.{arith}
use Rattle.measure.proofs.Tuples.{wide-small, wide_is}
use Rattle.measure.proofs.count.wide.Goals as goal

pub overflow_add-result : goal.overflow_add-result
overflow_add-result c =
    omega (arith, wide_is c.args.c c.requires.0 c.args.j _ (ap (λ p. p.w) c.place-p.ensures), wide-small c.args.c c.requires.0 c.args.j c.requires.1)

pub returns : goal.returns
returns c =
    let e = wide_is c.args.c c.requires.0 c.args.j _ (ap (λ p. p.w) c.place-p.ensures) in
    (e, omega (arith, e, wide-small c.args.c c.requires.0 c.args.j c.requires.1))
