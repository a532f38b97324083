-- `measure::sums::kinds_of` meets its contract.
use Rattle.std.proofs.Common.{arith}
use Rattle.laws.specs.Boards.{opens_recorded}
use Rattle.measure.proofs.Numbers.{first_is, axioms_fit, kinds_are}
use Rattle.measure.proofs.sums.kinds_of.Goals as goal

pub first_number-requires : goal.first_number-requires
first_number-requires c = omega arith

pub overflow_sub-widths : goal.overflow_sub-widths
overflow_sub-widths c =
    omega (arith, first_is _ (opens_recorded _ c.ints-ints.ensures.opens) _ c.rules_share-share.ensures _ (rw c.ints-ints.ensures.ints at c.first_number.ensures))

pub overflow_sub-widths-2 : goal.overflow_sub-widths-2
overflow_sub-widths-2 c =
    omega (arith, first_is _ (opens_recorded _ c.ints-ints.ensures.opens) _ c.rules_share-share.ensures _ (rw c.ints-ints.ensures.ints at c.first_number.ensures))

pub overflow_add-result : goal.overflow_add-result
overflow_add-result c =
    rw (c.ints-ints.ensures.ints, c.bools-bools.ensures.bools) (omega (arith, axioms_fit _ (opens_recorded _ c.ints-ints.ensures.opens) _ c.rules_share-share.ensures _ (rw c.ints-ints.ensures.ints at c.first_number.ensures)))

pub overflow_add-result-2 : goal.overflow_add-result-2
overflow_add-result-2 c =
    rw (c.ints-ints.ensures.ints, c.bools-bools.ensures.bools) (omega (arith, axioms_fit _ (opens_recorded _ c.ints-ints.ensures.opens) _ c.rules_share-share.ensures _ (rw c.ints-ints.ensures.ints at c.first_number.ensures)))

pub returns-clause-kinds : goal.returns-clause-kinds
returns-clause-kinds c =
    rw (c.ints-ints.ensures.ints, c.bools-bools.ensures.bools) (kinds_are _ (opens_recorded _ c.ints-ints.ensures.opens) _ c.rules_share-share.ensures _ (rw c.ints-ints.ensures.ints at c.first_number.ensures))
