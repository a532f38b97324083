-- One byte more: what is computed on the way fits, and gives the number with that byte.
use Rattle.std.proofs.Common.{arith, sym}
use Rattle.fields.proofs.Laws.{big_none, big-more, big_room, part-length, part_read}
use Rattle.fields.proofs.unchecked.Goals as goal

pub loop-byte-init : goal.loop-byte-init
loop-byte-init c = sym (big_none _ _)

pub overflow_mul-value : goal.overflow_mul-value
overflow_mul-value c =
    let a = c.args in
    omega (arith, part-length a.bytes.now a.at a.width c.requires.1, big_room a.bytes.now a.at c.type_inv.bytes c.loop-byte.byte-index)

pub overflow_add-value : goal.overflow_add-value
overflow_add-value c =
    let a = c.args in
    omega (arith, part-length a.bytes.now a.at a.width c.requires.1, part_read a.bytes.now a.at a.width c.requires.1 c.loop-byte-test.true, big_room a.bytes.now a.at c.type_inv.bytes c.loop-byte.byte-index)

pub loop-byte-preserved : goal.loop-byte-preserved
loop-byte-preserved c =
    let a = c.args in
    omega (arith, part_read a.bytes.now a.at a.width c.requires.1 c.loop-byte-test.true, big-more a.bytes.now a.at c.loop-byte.byte-index)
