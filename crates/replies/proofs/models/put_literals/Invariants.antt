-- The bytes are those of the literals read so far.
use Rattle.std.proofs.Common.{length}
use Rattle.definitions.specs.TextOperations.{model_of}
use Rattle.replies.specs.Passes.{Making}
use Rattle.replies.proofs.models.put_literals.Given as goal

abbrev pub invariant-loop-literal : goal.invariant-loop-literal
invariant-loop-literal l = Making (model_of (length l.initial.model)) l.n l.from l.text l.literal-iterator l.model
