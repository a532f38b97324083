-- The parts that are left end as all of them do.
use Rattle.std.proofs.Common.{sym, ap}
use Rattle.definitions.specs.Reading.{read_literal}
use Rattle.reader.specs.Said.{context_of}
use Rattle.reader.specs.Parts.{past}
use Rattle.reader.proofs.Loops.{one-more}
use Rattle.reader.proofs.clauses.past_literals.Goals as goal

pub loop-preserved : goal.loop-preserved
loop-preserved c = one-more (read_literal (context_of c.args.known)) _ _ _ _ c.loop-test.true (sym (ap past c.in_ok-place.ensures.0)) c.loop.invariant
