-- The parts that are left end as all of them do.
use Rattle.std.proofs.Common.{◌≡◌, ◌-◌}
use Rattle.definitions.specs.Reading.{times, read_literal}
use Rattle.reader.specs.Said.{context_of}
use Rattle.reader.specs.Parts.{past}
use Rattle.reader.proofs.clauses.past_literals.Given as goal

abbrev pub invariant-loop : goal.invariant-loop
invariant-loop l =
    past (times (l.n - l.counter) (read_literal (context_of l.known)) l.rules l.place) ≡ past (times l.n (read_literal (context_of l.known)) l.rules l.at)
