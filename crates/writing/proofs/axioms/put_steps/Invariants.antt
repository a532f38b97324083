use Rattle.std.proofs.Common.{◌+◌, ◌-◌}
use Rattle.writing.specs.Axioms.{steps_from}
use Rattle.writing.specs.Parts.{Adding}
use Rattle.writing.proofs.axioms.put_steps.Given as goal

abbrev pub invariant-loop-i : goal.invariant-loop-i
invariant-loop-i g l =
    Adding g.P.Part.room g.P.Part.adds (steps_from l.fn.first l.fn.steps) (steps_from (l.fn.first + l.i) (l.fn.steps - l.i)) l.fn.at l.fn.part l.place l.here
