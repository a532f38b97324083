-- After i turns the first i bytes are written.
use Rattle.std.proofs.Common.{◌≡◌, take}
use Rattle.laws.specs.Written.{written}
use Rattle.image.specs.Parts.{boolean_bytes}
use Rattle.image.proofs.parts.put_booleans.Given as goal

abbrev pub invariant-loop-i : goal.invariant-loop-i
invariant-loop-i l = l.model ≡ written (take l.i (boolean_bytes l.booleans)) l.initial.model
