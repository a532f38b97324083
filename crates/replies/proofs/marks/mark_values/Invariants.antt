-- The marks are of the literals read so far.
use Rattle.std.proofs.Common.{length}
use Rattle.replies.specs.Marks.{marks_of}
use Rattle.replies.specs.Passes.{Making}
use Rattle.replies.proofs.marks.mark_values.Given as goal

abbrev pub invariant-loop-literal : goal.invariant-loop-literal
invariant-loop-literal l = Making (marks_of l.first (length l.initial.marks)) l.n l.from l.text l.literal-iterator l.marks
