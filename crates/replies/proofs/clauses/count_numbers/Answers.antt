use Rattle.std.proofs.Common.{sym}
use Rattle.replies.specs.Texts.{counts_more, counts_bad, counts_all, counts_short}
use Rattle.replies.proofs.Exits.{bad_exit}
use Rattle.replies.proofs.clauses.count_numbers.Goals as goal

pub returns-in_err-got : goal.returns-in_err-got
returns-in_err-got c = bad_exit _ _ c.from_residual.ensures.1 (counts_bad _ _ _ _ c.loop-got.invariant _ (sym c.in_err-got.ensures.says))

pub loop-got-preserved : goal.loop-got-preserved
loop-got-preserved c =
    let found = rw c.in-Number.is at c.in_ok-got.ensures in
    counts_more _ _ _ _ c.loop-got.invariant _ _ _ _ _ (sym found.says) found.place.0 c.clauses_after-clauses.ensures

pub returns-then-clauses-head : goal.returns-then-clauses-head
returns-then-clauses-head c =
    let found = rw c.in-End.is at c.in_ok-got.ensures in
    counts_all _ _ _ _ c.loop-got.invariant _ (sym found.says) c.if-clauses-head.true

pub returns-in-End : goal.returns-in-End
returns-in-End c =
    let found = rw c.in-End.is at c.in_ok-got.ensures in
    counts_short _ _ _ _ c.loop-got.invariant _ (sym found.says) c.if-clauses-head.false
