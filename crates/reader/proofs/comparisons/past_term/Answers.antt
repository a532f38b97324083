-- The coefficient, then the variable.
use Rattle.reader.proofs.Steps.{passed_on}
use Rattle.reader.proofs.Terms.{term-past}
use Rattle.reader.proofs.comparisons.past_term.Goals as goal

pub returns-in_err-at : goal.returns-in_err-at
returns-in_err-at c = rw (passed_on _ c.from_residual.ensures.1, term-past, ← c.in_err-at.ensures)

pub returns : goal.returns
returns c = rw (term-past, ← c.in_ok-at.ensures) c.past_variable.ensures
