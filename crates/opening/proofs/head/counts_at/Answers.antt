-- One count after another.
use Rattle.reader.proofs.Steps.{passed_on}
use Rattle.opening.specs.Parts.{read_counts}
use Rattle.opening.proofs.head.counts_at.Goals as goal

pub returns-in_err-ints : goal.returns-in_err-ints
unfolding read_counts
returns-in_err-ints c = rw (passed_on _ c.from_residual.ensures.1, ← c.in_err-ints.ensures)

pub returns-in_err-bools : goal.returns-in_err-bools
unfolding read_counts
returns-in_err-bools c =
    rw (passed_on _ c.from_residual-in_err-bools.ensures.1, ← c.in_ok-ints.ensures, ← c.in_err-bools.ensures)

pub returns-in_err-clauses : goal.returns-in_err-clauses
unfolding read_counts
returns-in_err-clauses c =
    rw (passed_on _ c.from_residual-in_err-clauses.ensures.1, ← c.in_ok-ints.ensures, ← c.in_ok-bools.ensures, ← c.in_err-clauses.ensures)

pub returns : goal.returns
unfolding read_counts
returns c = rw (← c.in_ok-ints.ensures, ← c.in_ok-bools.ensures, ← c.in_ok-clauses.ensures)
