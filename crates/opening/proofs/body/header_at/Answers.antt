-- The counts, the table and the clauses, each where the one before it ends.
use Rattle.std.proofs.Common.{sym}
use Rattle.reader.proofs.Steps.{passed_on}
use Rattle.opening.specs.Parts.{header_from}
use Rattle.opening.proofs.Opened.{table_inside, counts_got}
use Rattle.opening.proofs.body.header_at.Goals as goal

pub returns-in_err-counts : goal.returns-in_err-counts
unfolding header_from
returns-in_err-counts c = rw (passed_on _ c.from_residual.ensures.1, ← c.in_err-counts.ensures)

pub returns-in_err-rules : goal.returns-in_err-rules
unfolding header_from
returns-in_err-rules c =
    rw (passed_on _ c.from_residual-in_err-rules.ensures.1, ← c.in_ok-counts.ensures, ← c.in_err-rules.ensures)

pub past_rules-requires : goal.past_rules-requires
past_rules-requires c =
    let a = c.args in
    let g = counts_got a.bytes.now a.at (sym c.in_ok-counts.ensures) in
    (table_inside _ a.bytes.now _ g.inside (sym c.in_ok-rules.ensures), g.few)

pub returns-in_err-past_rules : goal.returns-in_err-past_rules
unfolding header_from
returns-in_err-past_rules c =
    rw (passed_on _ c.from_residual-in_err-past_rules.ensures.1, ← c.in_ok-counts.ensures, ← c.in_ok-rules.ensures, ← c.in_err-past_rules.ensures)

pub returns : goal.returns
unfolding header_from
returns c = rw (← c.in_ok-counts.ensures, ← c.in_ok-rules.ensures, ← c.in_ok-past_rules.ensures)
