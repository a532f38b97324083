-- The parts that are left end as all of them do.
use Rattle.std.proofs.Common.{sym}
use Rattle.definitions.specs.Reading.{read_clause}
use Rattle.reader.specs.Said.{context_of}
use Rattle.reader.proofs.Loops.{one-more}
use Rattle.reader.proofs.clauses.past_clauses.Goals as goal

pub loop-preserved : goal.loop-preserved
loop-preserved c = one-more (read_clause (context_of c.args.known)) _ _ _ _ c.loop-test.true (sym c.in_ok-place.ensures) c.loop.invariant
