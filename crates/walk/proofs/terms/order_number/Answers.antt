-- Nothing overflows on the way.
use Rattle.walk.proofs.Slots.{number_fits, number_is}
use Rattle.walk.proofs.terms.order_number.Goals as goal

pub returns : goal.returns
returns c = search (number_fits, number_is)
