-- The term stands in the rules.
use Rattle.std.proofs.Common.{◌∙◌, sym, subst, arith}
use Rattle.laws.specs.Lists.{all-at}
use Rattle.laws.specs.Admitted.{GoodTerm}
use Rattle.laws.specs.Reread.{terms_at}
use Rattle.slots.specs.Terms.{term_read, terms_count, terms_at_lem}
use Rattle.slots.proofs.comparisons.slot_at.Goals as goal

pub overflow_mul-i : goal.overflow_mul-i
overflow_mul-i c = omega (arith, terms_count c.args.rules.now c.args.place)

pub overflow_add-place-2 : goal.overflow_add-place-2
overflow_add-place-2 c = omega (arith, terms_count c.args.rules.now c.args.place)

pub term_at-requires : goal.term_at-requires
term_at-requires c = omega (arith, terms_count c.args.rules.now c.args.place)

pub slot_of-requires : goal.slot_of-requires
slot_of-requires c =
    let here = terms_at_lem c.args.rules.now c.args.place c.args.i (term_read c.term_at.result) (omega (arith, terms_count c.args.rules.now c.args.place)) in
    subst (GoodTerm _) (here ∙ sym c.term_at.ensures) (all-at (GoodTerm _) (term_read c.term_at.result) (terms_at c.args.rules.now c.args.place) c.requires.1 c.args.i (omega arith))
