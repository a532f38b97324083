-- After i turns the first i bytes are written.
use Rattle.std.proofs.Common.{◌≡◌, take}
use Rattle.laws.specs.Written.{written}
use Rattle.image.specs.Parts.{order_from}
use Rattle.image.proofs.parts.put_orders.Given as goal

abbrev pub invariant-loop-i : goal.invariant-loop-i
invariant-loop-i l = l.model ≡ written (take l.i (order_from l.value l.lower l.width)) l.initial.model
