-- `closing::search::half` meets its contract.
use Rattle.std.proofs.Common.{w32, ◌≡◌, ◌∙◌, arith, pos, ◌+ℤ◌, to_z-of_z}
use Rattle.definitions.specs.Tools.{floor}
use Rattle.closing.proofs.Ranged.{low_fits, high_fits, sum-small, sum_fits, half_is}
use Rattle.closing.proofs.search.half.Goals as goal

ruleset fit = (to_z-of_z, low_fits, high_fits, sum_fits)

pub overflow_add-range : goal.overflow_add-range
overflow_add-range c = search fit

pub floor_div-requires : goal.floor_div-requires
floor_div-requires c =
    let b = c.args.range in
    let s = c.requires in
    let low = low_fits b s in
    let high = high_fits b s in
    let both = sum_fits b s in
    simp to_z-of_z (omega (arith, sum-small b s))

pub returns : goal.returns
returns c =
    let b = c.args.range in
    let s = c.requires in
    let low = low_fits b s in
    let high = high_fits b s in
    let both = sum_fits b s in
    let e : c.floor_div.result ≡ floor (b.lower +ℤ b.upper) (pos 2) = simp to_z-of_z at c.floor_div.ensures in
    to_z-of_z {w = w32} (record { sfits = c.floor_div.type_inv }) ∙ e ∙ half_is b
