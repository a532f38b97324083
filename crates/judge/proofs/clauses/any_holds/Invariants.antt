-- The literals that are left decide it.
use Rattle.std.proofs.Common.{◌≡◌, ◌-◌}
use Rattle.definitions.specs.Tools.{any}
use Rattle.definitions.specs.Result.{done}
use Rattle.definitions.specs.Reading.{times, read_literal}
use Rattle.definitions.specs.Meaning.{assigned, holds}
use Rattle.laws.specs.Again.{literals_at}
use Rattle.judge.specs.Suited.{Suiting}
use Rattle.judge.proofs.clauses.any_holds.Given as goal

abbrev pub invariant-loop : goal.invariant-loop
invariant-loop l =
    Suiting l.values l.booleans (λ ctx. times (l.n - l.counter) (read_literal ctx) l.rules l.place ≡ done (literals_at l.rules (l.n - l.counter) l.place))
    × (any (holds (assigned l.values l.booleans)) (literals_at l.rules l.n l.at).value ≡ any (holds (assigned l.values l.booleans)) (literals_at l.rules (l.n - l.counter) l.place).value)
