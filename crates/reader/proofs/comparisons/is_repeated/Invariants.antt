-- What is left to look at says as much as all.
use Rattle.std.proofs.Common.{◌≡◌}
use Rattle.definitions.specs.Tools.{any, eqb}
use Rattle.reader.specs.Seen.{seen_at}
use Rattle.reader.proofs.comparisons.is_repeated.Given as goal

abbrev pub invariant-loop-i : goal.invariant-loop-i
invariant-loop-i l =
    any (eqb l.variable) (seen_at l.rules l.first l.n) ≡ any (eqb l.variable) (seen_at l.rules l.first l.i)
