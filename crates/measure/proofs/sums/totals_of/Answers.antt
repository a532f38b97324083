-- `measure::sums::totals_of` meets its contract.
use native.Mathlib.Omega.{arith}
use Rattle.laws.specs.Boards.{opens_recorded}
use Rattle.measure.proofs.Numbers.{n_fits, m_fits, k_fits, totals_are}
use Rattle.measure.proofs.sums.totals_of.Goals as goal

pub overflow_add-result : goal.overflow_add-result
overflow_add-result c =
    omega (arith, n_fits _ (opens_recorded _ c.kinds_of-kinds.ensures.opens) _ c.kinds_of-kinds.ensures.kinds)

pub overflow_add-result-2 : goal.overflow_add-result-2
overflow_add-result-2 c =
    omega (arith, n_fits _ (opens_recorded _ c.kinds_of-kinds.ensures.opens) _ c.kinds_of-kinds.ensures.kinds)

pub overflow_add-result-3 : goal.overflow_add-result-3
overflow_add-result-3 c =
    omega (arith, m_fits _ (opens_recorded _ c.kinds_of-kinds.ensures.opens) _ c.kinds_of-kinds.ensures.kinds)

pub overflow_add-result-4 : goal.overflow_add-result-4
overflow_add-result-4 c =
    omega (arith, k_fits _ (opens_recorded _ c.kinds_of-kinds.ensures.opens) _ c.kinds_of-kinds.ensures.kinds)

pub returns-clause-totals : goal.returns-clause-totals
returns-clause-totals c =
    totals_are _ (opens_recorded _ c.kinds_of-kinds.ensures.opens) _ c.kinds_of-kinds.ensures.kinds
