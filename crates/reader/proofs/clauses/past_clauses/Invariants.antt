-- The parts that are left end as all of them do.
use Rattle.std.proofs.Common.{◌≡◌, ◌-◌}
use Rattle.definitions.specs.Reading.{times, read_clause}
use Rattle.reader.specs.Said.{context_of}
use Rattle.reader.specs.Parts.{past}
use Rattle.reader.proofs.clauses.past_clauses.Given as goal

abbrev pub invariant-loop : goal.invariant-loop
invariant-loop l =
    past (times (l.n - l.counter) (read_clause (context_of l.known)) l.rules l.place) ≡ past (times l.n (read_clause (context_of l.known)) l.rules l.at)
