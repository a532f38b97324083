-- `image::put_model` meets its contract: part after part, each in the rest of the model.
use Rattle.std.proofs.Common.{◌+◌, ◌≤◌, arith, length, rules}
use Rattle.laws.specs.Filling.{room_before, room}
use Rattle.image.proofs.Joined.{booleans_room, after_booleans, orders_room, after-orders, selectors_room, after-selectors}
use Rattle.image.proofs.put_model.Goals as goal

pub put_booleans-orders-requires : goal.put_booleans-orders-requires
put_booleans-orders-requires c = booleans_room c.requires

pub slice_bounds-put_variables-count : goal.slice_bounds-put_variables-count
slice_bounds-put_variables-count c =
    let filled = after_booleans c.requires c.put_booleans-orders.ensures in
    omega (arith, room filled)

pub slice_bounds-put_variables-start : goal.slice_bounds-put_variables-start
slice_bounds-put_variables-start c =
    let filled = after_booleans c.requires c.put_booleans-orders.ensures in
    omega (arith, room filled)

pub put_variables-requires : goal.put_variables-requires
put_variables-requires c =
    let filled = after_booleans c.requires c.put_booleans-orders.ensures in
    (c.requires.lists.ints, orders_room c.requires filled)

pub overflow_add-selectors : goal.overflow_add-selectors
overflow_add-selectors c =
    let filled = after_booleans c.requires c.put_booleans-orders.ensures in
    let further = after-orders c.requires filled c.put_variables.ensures in
    let h : c.put_booleans-orders.result + c.put_variables.result ≤ length c.args.model.now = omega (arith, room_before further) in
    search rules

pub slice_bounds-put_selectors-count : goal.slice_bounds-put_selectors-count
slice_bounds-put_selectors-count c =
    let filled = after_booleans c.requires c.put_booleans-orders.ensures in
    let further = after-orders c.requires filled c.put_variables.ensures in
    omega (arith, room further)

pub slice_bounds-put_selectors-start : goal.slice_bounds-put_selectors-start
slice_bounds-put_selectors-start c =
    let filled = after_booleans c.requires c.put_booleans-orders.ensures in
    let further = after-orders c.requires filled c.put_variables.ensures in
    omega (arith, room further)

pub put_selectors-requires : goal.put_selectors-requires
put_selectors-requires c =
    let filled = after_booleans c.requires c.put_booleans-orders.ensures in
    let further = after-orders c.requires filled c.put_variables.ensures in
    (c.requires.lists.ints, c.requires.near, selectors_room c.requires further)

pub shape_of-model : goal.shape_of-model
shape_of-model c =
    let filled = after_booleans c.requires c.put_booleans-orders.ensures in
    let further = after-orders c.requires filled c.put_variables.ensures in
    (after-selectors c.requires further c.put_selectors.ensures).1

pub returns : goal.returns
returns c =
    let filled = after_booleans c.requires c.put_booleans-orders.ensures in
    let further = after-orders c.requires filled c.put_variables.ensures in
    (after-selectors c.requires further c.put_selectors.ensures).0
