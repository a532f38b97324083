use Rattle.std.proofs.Common.{length}
use Rattle.walk.specs.Rows.{in_run, ReadyRun}
use Rattle.writing.specs.Numbers.{led}
use Rattle.writing.specs.Parts.{Adding}
use Rattle.writing.proofs.rows.put_stepped.Given as goal

abbrev pub invariant-loop-rest : goal.invariant-loop-rest
invariant-loop-rest g l =
    Adding g.P.Part.room g.P.Part.adds (led l.lead (in_run l.fn.run)) (led l.lead (in_run l.rest)) l.at l.fn.part l.place l.here × ReadyRun l.rest

abbrev pub decreases-loop-rest : goal.decreases-loop-rest
decreases-loop-rest g l = length (in_run l.rest)
