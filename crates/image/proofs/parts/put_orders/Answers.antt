-- `image::parts::put_orders` meets its contract.
use Rattle.std.proofs.Common.{refl, sym, ap, ◌∙◌, arith, to_z-of_z}
use lib.Signed.{le_z}
use Rattle.laws.specs.Written.{written_none}
use Rattle.image.specs.Parts.{bit, order_from, order_at, orders-length}
use Rattle.image.proofs.Entries.{put, all_put, byte_is}
use Rattle.image.proofs.Numbers.{number_is}
use Rattle.image.proofs.parts.put_orders.Goals as goal

pub loop-i-init : goal.loop-i-init
loop-i-init c = written_none _

pub loop-i-preserved : goal.loop-i-preserved
loop-i-preserved c =
    let a = c.args in
    let n = orders-length a.value a.lower a.width in
    let e = rw (to_z-of_z c.ranges.value, to_z-of_z c.ranges.lower) at c.from.ensures in
    let i = rw (to_z-of_z c.ranges.value, to_z-of_z c.ranges.lower) at c.loop-i.invariant in
    rw (to_z-of_z c.ranges.value, to_z-of_z c.ranges.lower)
    (put (order_from a.value a.lower a.width) _ _ _ i _
    (e ∙ byte_is _ ∙ ap (λ z. bit (le_z a.value z)) (number_is a.lower c.requires.0 c.loop-i.i (omega (arith, c.requires.1))) ∙ sym (order_at a.value a.lower a.width c.loop-i.i c.loop-i-test.true))
    (omega (arith, n)) (omega (arith, c.requires.2)))

pub returns : goal.returns
returns c =
    let a = c.args in
    let i = rw (to_z-of_z c.ranges.value, to_z-of_z c.ranges.lower) at c.loop-i.invariant in
    (refl, all_put (order_from a.value a.lower a.width) _ _ c.loop-i.i i (omega (arith, orders-length a.value a.lower a.width)))
