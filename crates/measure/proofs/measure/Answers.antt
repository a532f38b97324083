-- A record is opened, its list counted, and then it is accepted or not.
use Rattle.std.proofs.Common.{sym, arith}
use Rattle.std.proofs.lemmas.Result.{err_from_is_err_and}
use Rattle.opening.specs.Told.{opened}
use Rattle.measure.proofs.Answers.{measured, too_long, unopened}
use Rattle.measure.proofs.measure.Goals as goal

pub returns-in_err-header : goal.returns-in_err-header
returns-in_err-header c =
    let p = err_from_is_err_and c.from_residual.result c.from_residual.ensures.1 in
    rw (p.1, p.2) (unopened _ _ _ (sym c.in_err-header.ensures))

pub new-requires : goal.new-requires
new-requires c = opened _ (sym c.in_ok-header.ensures)

pub returns-then-sizes-gt-LONGEST : goal.returns-then-sizes-gt-LONGEST
returns-then-sizes-gt-LONGEST c =
    too_long _ _ (sym c.in_ok-header.ensures) _ (rw c.new.ensures at c.totals_of-sizes.ensures.totals) (omega (arith, c.if-sizes-gt-LONGEST.true))

pub returns : goal.returns
returns c =
    measured _ _ (sym c.in_ok-header.ensures) _ (rw c.new.ensures at c.totals_of-sizes.ensures.totals) (omega (arith, c.if-sizes-gt-LONGEST.false))
