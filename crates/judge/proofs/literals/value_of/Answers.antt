-- `judge::literals::value_of` meets its contract: nothing overflows.
use Rattle.std.proofs.Common.{to_z-of_z}
use Rattle.slots.specs.Terms.{term_read, coefficient_fits}
use Rattle.judge.proofs.Sums.{value_fits, product_fits}
use Rattle.judge.proofs.literals.value_of.Goals as goal

pub overflow_mul-result : goal.overflow_mul-result
overflow_mul-result c =
    let t = c.args.term in
    let v = c.args.values.now in
    rw (to_z-of_z (coefficient_fits _ t c.requires.1), to_z-of_z (value_fits v c.requires.0 t.variable)) (product_fits v c.requires.0 (term_read t) c.requires.1)

pub returns : goal.returns
returns c =
    let t = c.args.term in
    let v = c.args.values.now in
    rw (to_z-of_z (coefficient_fits _ t c.requires.1), to_z-of_z (value_fits v c.requires.0 t.variable), to_z-of_z (product_fits v c.requires.0 (term_read t) c.requires.1))
