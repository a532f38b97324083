use Rattle.std.proofs.Common.{length}
use Rattle.walk.specs.Comparisons.{literals_of, Walking, to_come}
use Rattle.writing.specs.Numbers.{led}
use Rattle.writing.specs.Parts.{Adding}
use Rattle.writing.proofs.comparisons.put_tuples.Given as goal

abbrev pub invariant-loop-tuple : goal.invariant-loop-tuple
invariant-loop-tuple g l =
    Adding g.P.Part.room g.P.Part.adds (led l.lead (literals_of l.c)) (led l.lead (to_come l.c l.tuple)) l.at l.initial.part l.place l.part × Walking l.c l.tuple

abbrev pub decreases-loop-tuple : goal.decreases-loop-tuple
decreases-loop-tuple g l = length (to_come l.c l.tuple)
