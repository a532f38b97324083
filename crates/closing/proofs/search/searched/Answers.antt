-- `closing::search::searched` meets its contract: between two replies the others lead to the answer of all.
use Rattle.std.proofs.Common.{w32, SFits, to_z-of_z, rules}
use Rattle.laws.specs.Whole.{whole}
use Rattle.slots.specs.Variables.{lower_fits, upper_fits}
use Rattle.closing.proofs.Going.{begins, asks, goes_on, ends, leaves_over}
use Rattle.closing.proofs.search.searched.Goals as goal

pub loop-i-init : goal.loop-i-init
loop-i-init c =
    let low = lower_fits c.args.range c.requires in
    let high = upper_fits c.args.range c.requires in
    let g = c.requires in
    simp to_z-of_z (begins c.args.replies.now c.args.range _ (record { least = g.lowest; from = omega (whole, g.ordered); to = omega (whole, g.ordered); most = g.highest }))

pub returns-in_default : goal.returns-in_default
returns-in_default c =
    let low = lower_fits c.args.range c.requires in
    let high = upper_fits c.args.range c.requires in
    let e = leaves_over c.loop-i.invariant c.loop-i-test.true c.in_default.not-Unfinished in
    simp to_z-of_z at e

pub narrowed-requires : goal.narrowed-requires
narrowed-requires c =
    let f : SFits w32 c.in-Unfinished.low = search rules in
    let g : SFits w32 c.in-Unfinished.high = search rules in
    let q : SFits w32 c.in-Unfinished.question = search rules in
    simp to_z-of_z (asks c.loop-i.invariant {b = record { lower = c.in-Unfinished.low; upper = c.in-Unfinished.high }} c.in-Unfinished.is)

pub told-hour-requires : goal.told-hour-requires
told-hour-requires c =
    c.narrowed.ensures.small

pub loop-i-preserved : goal.loop-i-preserved
loop-i-preserved c =
    let f : SFits w32 c.in-Unfinished.low = search rules in
    let g : SFits w32 c.in-Unfinished.high = search rules in
    let q : SFits w32 c.in-Unfinished.question = search rules in
    goes_on c.loop-i.invariant
    {b = record { lower = c.in-Unfinished.low; upper = c.in-Unfinished.high }}
    c.in-Unfinished.is c.loop-i-test.true (simp to_z-of_z at c.narrowed.ensures) c.told-hour.ensures

pub returns : goal.returns
returns c =
    let low = lower_fits c.args.range c.requires in
    let high = upper_fits c.args.range c.requires in
    let e = ends c.loop-i.invariant c.loop-i-test.false in
    simp to_z-of_z at e
