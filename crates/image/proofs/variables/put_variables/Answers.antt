-- `image::variables::put_variables` meets its contract.
use Rattle.std.proofs.Common.{refl, arith, rules, get_or, pos, SFits, w32, to_z-of_z}
use Rattle.laws.specs.Fits.{width-most}
use Rattle.laws.specs.Boards.{board_of}
use Rattle.laws.specs.Written.{rest-length}
use Rattle.laws.specs.Filling.{begin, room_for, part, ended}
use Rattle.slots.specs.Variables.{lower_fits}
use Rattle.image.specs.Parts.{order_from, orders-length}
use Rattle.image.specs.Variables.{orders-end, orders_next, lower_small}
use Rattle.image.proofs.variables.put_variables.Goals as goal

pub loop-x-init : goal.loop-x-init
loop-x-init c = begin _ _ _ refl c.requires.1

pub put_orders-at-requires : goal.put_orders-at-requires
put_orders-at-requires c =
    let b = c.bounds_of-bounds.result in
    let k = c.bounds_of-bounds.ensures in
    let w = c.width_of-width.result in
    let v = get_or c.args.values.now c.loop-x.x (pos 0) in
    let next = orders_next (board_of c.args.opened.now) c.args.values.now c.loop-x.x (omega (arith, c.requires.0)) b w k c.width_of-width.ensures in (
      rw (to_z-of_z (lower_fits b k.good)) (lower_small b k.good),
      omega (arith, c.width_of-width.ensures, width-most _ k.good),
      omega (arith, rest-length c.loop-x.model c.loop-x.at, room_for c.loop-x.invariant (order_from v b.lower w) _ next, orders-length v b.lower w),
    )

pub loop-x-preserved : goal.loop-x-preserved
loop-x-preserved c =
    let b = c.bounds_of-bounds.result in
    let k = c.bounds_of-bounds.ensures in
    let w = c.width_of-width.result in
    let v = get_or c.args.values.now c.loop-x.x (pos 0) in
    let f : SFits w32 (get_or c.args.values.now c.loop-x.x (pos 0)) = search rules in
    let next = orders_next (board_of c.args.opened.now) c.args.values.now c.loop-x.x (omega (arith, c.requires.0)) b w k c.width_of-width.ensures in
    part c.loop-x.invariant (order_from v b.lower w) _ next _ _ (omega (arith, c.put_orders-at.ensures.0, orders-length v b.lower w))
    (rw (to_z-of_z (lower_fits b k.good), to_z-of_z f) at c.put_orders-at.ensures.1)

pub returns : goal.returns
returns c = ended c.loop-x.invariant (orders-end (board_of c.args.opened.now) _ c.loop-x.x (omega (arith, c.requires.0)))
