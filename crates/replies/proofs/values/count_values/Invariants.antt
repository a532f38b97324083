use Rattle.std.proofs.Common.{◌-◌, length}
use Rattle.replies.specs.Replied.{Literals}
use Rattle.replies.proofs.values.count_values.Given as goal

abbrev pub invariant-loop-literal : goal.invariant-loop-literal
invariant-loop-literal l = Literals l.n l.from l.line l.count l.rising l.at l.text

abbrev pub decreases-loop-literal : goal.decreases-loop-literal
decreases-loop-literal l = length l.text - l.at
