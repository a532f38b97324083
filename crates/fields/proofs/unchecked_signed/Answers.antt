-- The unchecked number, read as two's complement; its range comes from the bytes.
use native.Mathlib.Omega.{arith}
use Rattle.laws.specs.Readings.{big-below}
use Rattle.fields.proofs.unchecked_signed.Goals as goal

pub twos_complement-requires : goal.twos_complement-requires
twos_complement-requires c =
    (omega arith, rw c.unchecked.ensures (big-below _ (λ i. (c.type_inv.bytes i).fits) _ _))
