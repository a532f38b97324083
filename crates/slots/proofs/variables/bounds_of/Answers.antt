-- The record has room for each variable of its board.
use Rattle.std.proofs.Common.{ap, length, arith, rules, to_z-of_z, SFits}
use Rattle.std.specs.Int.{w32}
use Rattle.slots.specs.Variables.{bounds_room, bounds_there}
use Rattle.slots.proofs.variables.bounds_of.Goals as goal

pub overflow_mul-at : goal.overflow_mul-at
overflow_mul-at c = omega (arith, bounds_room _ c.bytes-bytes.ensures.opens _ c.requires, ap length c.bytes-bytes.ensures.bytes)

pub overflow_add-at : goal.overflow_add-at
overflow_add-at c = omega (arith, bounds_room _ c.bytes-bytes.ensures.opens _ c.requires, ap length c.bytes-bytes.ensures.bytes)

pub unchecked_signed-requires : goal.unchecked_signed-requires
unchecked_signed-requires c = omega (arith, bounds_room _ c.bytes-bytes.ensures.opens _ c.requires, ap length c.bytes-bytes.ensures.bytes)

pub overflow_add-at-2 : goal.overflow_add-at-2
overflow_add-at-2 c = omega (arith, bounds_room _ c.bytes-bytes.ensures.opens _ c.requires, ap length c.bytes-bytes.ensures.bytes)

pub unchecked_signed-requires-2 : goal.unchecked_signed-requires-2
unchecked_signed-requires-2 c = omega (arith, bounds_room _ c.bytes-bytes.ensures.opens _ c.requires, ap length c.bytes-bytes.ensures.bytes)

pub returns : goal.returns
returns c =
    let lower : SFits w32 c.unchecked_signed.result = search rules in
    let upper : SFits w32 c.unchecked_signed-2.result = search rules in
    simp to_z-of_z (bounds_there _ c.bytes-bytes.ensures.opens _ c.requires _ _ (rw c.bytes-bytes.ensures.bytes at c.unchecked_signed.ensures) (rw c.bytes-bytes.ensures.bytes at c.unchecked_signed-2.ensures))
