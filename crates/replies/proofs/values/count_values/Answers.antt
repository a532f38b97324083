use Rattle.std.proofs.Common.{sym}
use Rattle.replies.specs.Replied.{literals_none, literals-more, literals-all, literals-bad}
use Rattle.replies.proofs.Exits.{bad_exit}
use Rattle.replies.proofs.values.count_values.Goals as goal

pub loop-literal-init : goal.loop-literal-init
loop-literal-init c = literals_none _ _ _

pub returns-in_err-literal : goal.returns-in_err-literal
returns-in_err-literal c = bad_exit _ _ c.from_residual.ensures.1 (literals-bad _ _ _ c.loop-literal.invariant _ (sym c.in_err-literal.ensures.says))

pub loop-literal-preserved : goal.loop-literal-preserved
loop-literal-preserved c =
    let number = c.in-Some.literal.number in
    let read = rw c.in-Some.is at c.in_ok-literal.ensures in
    literals-more _ _ _ c.loop-literal.invariant number.minus number.size _ _ _ (sym read.says) read.place.0 c.is_next-rising.ensures

pub returns : goal.returns
returns c =
    let read = rw c.in_default.is at c.in_ok-literal.ensures in
    literals-all _ _ _ c.loop-literal.invariant (sym read.says)
