-- What is left to look at says as much as all.
use Rattle.std.proofs.Common.{sym, ◌∙◌}
use borrow.Author.Tests.{eq-eqb, ne_eqb}
use Rattle.reader.proofs.Terms.{seen_turn, seen_none}
use Rattle.reader.proofs.comparisons.is_repeated.Goals as goal

pub returns-then-unchecked-variable : goal.returns-then-unchecked-variable
returns-then-unchecked-variable c =
    sym (c.loop-i.invariant ∙ rw (seen_turn _ _ _ _ c.loop-i-test.true, eq-eqb _ _ (sym c.if-unchecked-variable.true ∙ c.unchecked.ensures)))

pub loop-i-preserved : goal.loop-i-preserved
loop-i-preserved c =
    c.loop-i.invariant ∙ rw (seen_turn _ _ _ _ c.loop-i-test.true, ne_eqb _ _ (λ e. c.if-unchecked-variable.false (c.unchecked.ensures ∙ sym e)))

pub returns : goal.returns
returns c = sym (c.loop-i.invariant ∙ seen_none _ _ _ _ c.loop-i-test.false)
