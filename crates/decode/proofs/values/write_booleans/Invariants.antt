-- The first i bytes are written.
use Rattle.std.proofs.Common.{◌≡◌, take}
use Rattle.laws.specs.Written.{written}
use Rattle.decode.proofs.values.write_booleans.Given as goal

abbrev pub invariant-loop-i : goal.invariant-loop-i
invariant-loop-i l = l.booleans ≡ written (take l.i l.model) l.initial.booleans
