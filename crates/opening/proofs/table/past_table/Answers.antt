-- The parts that are left end as all of them do.
use Rattle.std.proofs.Common.{sym, ap}
use Rattle.definitions.specs.Reading.{read_bounds}
use Rattle.reader.proofs.Loops.{one-more}
use Rattle.opening.proofs.table.past_table.Goals as goal

pub loop-preserved : goal.loop-preserved
loop-preserved c = one-more read_bounds _ _ _ _ c.loop-test.true (sym c.in_ok-place.ensures) c.loop.invariant
