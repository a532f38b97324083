-- `decode::values::value_of` meets its contract.
use Rattle.std.proofs.Common.{◌≡◌, ◌<◌, pos, ◌+ℤ◌, sym, ◌∙◌, arith, w32, SFits, to_z, to_z-of_z}
use mir.Facts.{to_z_pos}
use Rattle.laws.specs.Whole.{whole, sfits, add_law}
use Rattle.laws.specs.Fits.{width-least, width-most}
use Rattle.slots.specs.Variables.{bounds_read, lower_fits, upper_fits}
use Rattle.decode.specs.Values.{value_hit, value_miss, value-last}
use Rattle.decode.proofs.values.value_of.Goals as goal
use Rattle.decode.proofs.values.value_of.Goals.{At-loop-k}

-- the value at offset k is a 32-bit number
module _ (c : At-loop-k) where
  small : c.loop-k.k < 8193
  small = omega (arith, width-most (bounds_read c.args.bounds) c.requires.0, c.width_of-width.ensures)

  value_fits : SFits w32 (c.args.bounds.lower +ℤ pos c.loop-k.k)
  value_fits = let g = c.requires.0 in sfits (omega (whole, g.lowest, g.ordered, g.highest, add_law c.args.bounds.lower (pos c.loop-k.k), small))

pub overflow_sub-k-end : goal.overflow_sub-k-end
overflow_sub-k-end c = omega (arith, width-least (bounds_read c.args.bounds) c.requires.0, c.width_of-width.ensures)

pub overflow_add-result : goal.overflow_add-result
overflow_add-result c =
    let l = (goal.at.overflow_add-result c).At-loop-k in
    let f = lower_fits c.args.bounds c.requires.0 in
    let e : to_z w32 c.loop-k.k ≡ pos c.loop-k.k = to_z_pos w32 (omega (arith, small l)) in
    simp (to_z-of_z, e) (value_fits l)

pub returns-then-is_on : goal.returns-then-is_on
returns-then-is_on c =
    let l = (goal.at.returns-then-is_on c).At-loop-k in
    let f = lower_fits c.args.bounds c.requires.0 in
    let e : to_z w32 c.loop-k.k ≡ pos c.loop-k.k = to_z_pos w32 (omega (arith, small l)) in
    let q = value_fits l in
    simp (to_z-of_z, e)
    (sym (value_hit c.args.model.now c.args.first (bounds_read c.args.bounds) c.loop-k.k (omega (arith, c.width_of-width.ensures)) (sym c.is_on.ensures ∙ c.if-is_on.true)) ∙ c.loop-k.invariant)

pub loop-k-preserved : goal.loop-k-preserved
loop-k-preserved c =
    sym (value_miss c.args.model.now c.args.first (bounds_read c.args.bounds) c.loop-k.k (omega (arith, c.width_of-width.ensures)) (sym c.is_on.ensures ∙ c.if-is_on.false)) ∙ c.loop-k.invariant

pub returns : goal.returns
returns c =
    let f = upper_fits c.args.bounds c.requires.0 in
    simp to_z-of_z (sym (value-last c.args.model.now c.args.first (bounds_read c.args.bounds) c.loop-k.k c.requires.0 (omega (arith, c.width_of-width.ensures, width-least (bounds_read c.args.bounds) c.requires.0))) ∙ c.loop-k.invariant)
