-- `measure::count::tuples_over` meets its contract.
use mathlib.Core.Path.{sym, ◌∙◌}
use native.Mathlib.Omega.{arith}
use Rattle.measure.proofs.Tuples.{wide_some, over_some, tuples_are}
use Rattle.measure.proofs.count.tuples_over.Goals as goal

pub triples-requires : goal.triples-requires
triples-requires c =
    record {
      sum = omega (arith, c.over.ensures.0, over_some c.args.c);
      small = c.over.ensures.1;
      first = (omega (arith, c.wide.ensures.0, wide_some c.args.c 0), c.wide.ensures.1);
      second = (omega (arith, c.wide-2.ensures.0, wide_some c.args.c 1), c.wide-2.ensures.1);
      third = (omega (arith, c.wide-3.ensures.0, wide_some c.args.c 2), c.wide-3.ensures.1);
    }

pub returns : goal.returns
returns c =
    rw (c.over.ensures.0, c.wide.ensures.0, c.wide-2.ensures.0, c.wide-3.ensures.0) at c.triples.ensures ∙ sym (tuples_are c.args.c c.requires.0 c.requires.2)
