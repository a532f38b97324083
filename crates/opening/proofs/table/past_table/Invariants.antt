-- The parts that are left end as all of them do.
use Rattle.std.proofs.Common.{◌≡◌, ◌-◌}
use Rattle.definitions.specs.Reading.{times, read_bounds}
use Rattle.reader.specs.Parts.{past}
use Rattle.opening.proofs.table.past_table.Given as goal

abbrev pub invariant-loop : goal.invariant-loop
invariant-loop l =
    past (times (l.n - l.counter) read_bounds l.bytes l.place) ≡ past (times l.n read_bounds l.bytes l.at)
