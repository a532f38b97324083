-- `closing::search::told` meets its contract.
use Rattle.std.proofs.Common.{◌≡◌, sym, ◌<ℤ◌, w32, SFits, to_z-of_z}
use Rattle.definitions.specs.Closing.{halfway}
use Rattle.laws.specs.Whole.{whole, back}
use Rattle.laws.specs.Halving.{tells_open, tells_none, tells_found}
use Rattle.slots.specs.Variables.{bounds_read}
use Rattle.closing.proofs.Ranged.{low_fits, high_fits}
use Rattle.closing.proofs.search.told.Goals as goal

pub returns-then-range : goal.returns-then-range
returns-then-range c =
    let b = c.args.range in
    let low = low_fits b c.requires in
    let high = high_fits b c.requires in
    let f : SFits w32 c.half.result = record { sfits = c.half.type_inv } in
    let w : b.lower <ℤ b.upper = omega (whole, back low, back high, c.if-range.true) in
    let e : c.half.result ≡ halfway (bounds_read b) = c.half.ensures in
    simp to_z-of_z (rw e (sym (tells_open (bounds_read b) w)))

pub returns-then-range-2 : goal.returns-then-range-2
returns-then-range-2 c =
    let b = c.args.range in
    let low = low_fits b c.requires in
    let high = high_fits b c.requires in
    let w : b.upper <ℤ b.lower = omega (whole, back low, back high, c.if-range-2.true) in
    sym (tells_none (bounds_read b) w)

pub returns : goal.returns
returns c =
    let b = c.args.range in
    let low = low_fits b c.requires in
    let high = high_fits b c.requires in
    let w : b.lower ≡ b.upper = omega (whole, back low, back high, c.if-range-2.false, c.if-range.false) in
    simp to_z-of_z (sym (tells_found (bounds_read b) w))
