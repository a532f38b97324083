-- `size::size` meets its contract.
use Rattle.std.proofs.Common.{sym}
use Rattle.std.proofs.lemmas.Result.{err_from_is_err_and}
use Rattle.size.proofs.Answers.{sized, unsized}
use Rattle.size.proofs.size.Goals as goal

pub returns-in_err-measured : goal.returns-in_err-measured
returns-in_err-measured c =
    let p = err_from_is_err_and c.from_residual.result c.from_residual.ensures.1 in
    rw (p.1, p.2) (unsized _ _ _ (sym c.in_err-measured.ensures))

pub returns : goal.returns
returns c = sized _ _ (sym c.in_ok-measured.ensures)
