-- After i bytes the value is the number in the first i of them.
use Rattle.std.proofs.Common.{◌≡◌}
use Rattle.definitions.specs.Reading.{big}
use Rattle.fields.proofs.unchecked.Given as goal

abbrev pub invariant-loop-byte : goal.invariant-loop-byte
invariant-loop-byte l = l.value ≡ big l.bytes l.at l.byte-index
