-- The count, then so many literals.
use Rattle.definitions.specs.Reading.{read_clause}
use Rattle.reader.proofs.Steps.{passed_on}
use Rattle.reader.proofs.clauses.past_clause.Goals as goal

pub returns-in_err-n : goal.returns-in_err-n
unfolding read_clause
returns-in_err-n c = rw (passed_on _ c.from_residual.ensures.1, ← c.in_err-n.ensures)

pub returns : goal.returns
unfolding read_clause
returns c = rw (← c.in_ok-n.ensures) c.past_literals.ensures
