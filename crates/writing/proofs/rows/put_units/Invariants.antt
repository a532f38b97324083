use Rattle.walk.specs.Rows.{in_run, ReadyRun}
use Rattle.writing.specs.Numbers.{led}
use Rattle.writing.specs.Parts.{Adding}
use Rattle.writing.proofs.Leads.{unit_run}
use Rattle.writing.proofs.rows.put_units.Given as goal

abbrev pub invariant-loop-left : goal.invariant-loop-left
invariant-loop-left g l =
    Adding g.P.Part.room g.P.Part.adds (led l.lead (in_run l.fn.run)) (led l.lead (in_run (unit_run l.front l.p l.q l.left))) l.at l.fn.part l.place l.here × ReadyRun (unit_run l.front l.p l.q l.left)

abbrev pub decreases-loop-left : goal.decreases-loop-left
decreases-loop-left g l = l.left
