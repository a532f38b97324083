-- After i terms those that are left read as all of them do.
use Rattle.std.proofs.Common.{sym}
use Rattle.reader.proofs.Steps.{passed_on}
use Rattle.reader.proofs.Terms.{passing_none, passing-more, passing_stop, passing-all}
use Rattle.reader.proofs.comparisons.past_terms.Goals as goal

pub loop-i-init : goal.loop-i-init
loop-i-init c = passing_none _ _ _ _ c.requires

pub returns-in_err-place : goal.returns-in_err-place
returns-in_err-place c =
    rw (passed_on _ c.from_residual.ensures.1) (sym (passing_stop _ _ _ _ c.loop-i-test.true c.loop-i.invariant (sym c.in_err-place.ensures)))

pub loop-i-preserved : goal.loop-i-preserved
loop-i-preserved c =
    passing-more _ _ _ _ c.loop-i-test.true c.loop-i.invariant (sym c.in_ok-place.ensures)

pub returns : goal.returns
returns c = sym (passing-all _ _ _ _ c.loop-i-test.false c.loop-i.invariant)
