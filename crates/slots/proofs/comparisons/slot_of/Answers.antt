-- The slot's fields are those of the term and of its variable.
use Rattle.std.proofs.Common.{to_z-of_z}
use Rattle.walk.specs.Slots.{slot_of}
use Rattle.slots.specs.Variables.{lower_fits, upper_fits}
use Rattle.slots.specs.Terms.{coefficient_fits}
use Rattle.slots.proofs.comparisons.slot_of.Goals as goal

pub returns : goal.returns
unfolding slot_of
returns c =
    let b = c.bounds_of-bounds.ensures in
    rw (to_z-of_z (coefficient_fits _ c.args.term c.requires), to_z-of_z (lower_fits c.bounds_of-bounds.result b.good), to_z-of_z (upper_fits c.bounds_of-bounds.result b.good), b.lower, b.upper, c.first_in.ensures)
