use Rattle.std.proofs.Common.{arith, replicate, pos}
use Rattle.definitions.specs.Answers.{said_sizing}
use Rattle.definitions.specs.Dimacs.{shown}
use Rattle.text.specs.Puts.{retold}
use Rattle.dimacs.specs.Shown.{listed_fits, put_counts, printed_is}
use Rattle.dimacs.proofs.printing.put_printed.Goals as goal

pub put_shown-requires : goal.put_shown-requires
put_shown-requires c =
    let z = c.compile-answer in
    (omega (arith, listed_fits c.args.bytes.now (replicate 16384 (pos 0)) z.result z.ensures.0, z.auto.list), omega (arith, z.auto.list))

pub returns-clause-prefix_len : goal.returns-clause-prefix_len
returns-clause-prefix_len c =
    let z = c.compile-answer in
    put_counts (shown (said_sizing z.result) z.new.list) c.args.out.now c.put_shown.result _ c.put_shown.ensures

pub returns-clause-put : goal.returns-clause-put
returns-clause-put c =
    let z = c.compile-answer in
    retold _ _ _ _ _ (printed_is c.args.bytes.now z.result z.new.list z.ensures.0 z.ensures.1) c.put_shown.ensures
