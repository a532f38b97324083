-- By the coefficient's sign, the order variable of the quotient.
use Rattle.std.proofs.Common.{◌≡◌, ◌∙◌, sym, ap, pos, neg_ℤ, nat_abs, ◌-ℤ◌, ◌<ℤ◌, arith, rules, SFits, to_z-of_z}
use Rattle.std.specs.Int.{w32}
use Rattle.definitions.specs.Tools.{floor, ceil}
use Rattle.laws.specs.Whole.{whole, back, abs_law, part_law, zero-sub}
use Rattle.walk.specs.Slots.{order_number}
use Rattle.walk.proofs.Fits.{small, less_small, fits}
use Rattle.walk.proofs.Slots.{coefficient-small, bound-small, ceil-small, floor_inside, ceil_inside, number_small, literal_rising, literal_falling}
use Rattle.walk.proofs.terms.literal.Goals as goal
use Rattle.walk.proofs.terms.literal.Goals.{After-floor_div, After-ceil_div, After-order_number-2}

-- ---- a positive coefficient
pub floor_div-requires : goal.floor_div-requires
floor_div-requires c =
    let fa = small c.args.s.coefficient (coefficient-small c.args.s c.requires.0) in
    let fb = c.ranges.b in
    simp to_z-of_z (omega (arith, bound-small c.requires))

module _ (p : After-floor_div) where
  coefficient_fits : SFits w32 p.args.s.coefficient
  coefficient_fits = small p.args.s.coefficient (coefficient-small p.args.s p.requires.0)

  positive : pos 0 <ℤ p.args.s.coefficient
  positive = omega (whole, back coefficient_fits)

  floored : p.floor_div.result ≡ floor p.args.b p.args.s.coefficient
  floored = let fa = coefficient_fits in let fb = p.ranges.b in simp to_z-of_z at p.floor_div.ensures

pub order_number-requires : goal.order_number-requires
order_number-requires c =
    let p = (goal.at.order_number-requires c).After-floor_div in
    let f : SFits w32 c.floor_div.result = search rules in
    let inside = floor_inside c.requires (floored p) (positive p) in
    simp to_z-of_z (c.requires.0, inside.0, inside.1)

pub returns-then-s-gt0 : goal.returns-then-s-gt0
returns-then-s-gt0 c =
    let p = (goal.at.returns-then-s-gt0 c).After-floor_div in
    let f : SFits w32 c.floor_div.result = search rules in
    to_z-of_z {w = w32} (search rules)
    ∙ (simp to_z-of_z at c.order_number.ensures)
    ∙ ap (λ z. pos (order_number c.args.s z)) (floored p)
    ∙ sym (literal_rising c.args.s c.args.b (positive p))

-- ---- a negative coefficient
pub ceil_div-requires : goal.ceil_div-requires
ceil_div-requires c =
    let fa = small c.args.s.coefficient (coefficient-small c.args.s c.requires.0) in
    let fb = c.ranges.b in
    simp to_z-of_z (omega (arith, bound-small c.requires))

module _ (p : After-ceil_div) where
  coefficient-fits : SFits w32 p.args.s.coefficient
  coefficient-fits = small p.args.s.coefficient (coefficient-small p.args.s p.requires.0)

  negative : p.args.s.coefficient <ℤ pos 0
  negative = omega (whole, back coefficient-fits, abs_law p.args.s.coefficient, part_law p.args.s.coefficient)

  ceiled : p.ceil_div.result ≡ ceil p.args.b p.args.s.coefficient
  ceiled = let fa = coefficient-fits in let fb = p.ranges.b in simp to_z-of_z at p.ceil_div.ensures

  below : SFits w32 (p.ceil_div.result -ℤ pos 1)
  below = less_small p.ceil_div.result (pos 1) (ceil-small p.requires ceiled) (omega arith)

pub overflow_sub-ceil_div : goal.overflow_sub-ceil_div
overflow_sub-ceil_div c = let k = ceil-small c.requires (ceiled (goal.at.overflow_sub-ceil_div c).After-ceil_div) in search (fits, k)

pub order_number-requires-2 : goal.order_number-requires-2
order_number-requires-2 c =
    let p = (goal.at.order_number-requires-2 c).After-ceil_div in
    let f : SFits w32 c.ceil_div.result = search rules in
    let g = below p in
    let inside = ceil_inside c.requires (ceiled p) (negative p) in
    simp to_z-of_z (c.requires.0, inside.0, inside.1)

pub returns : goal.returns
returns c =
    let p = (goal.at.returns c).After-ceil_div in
    let f : SFits w32 c.ceil_div.result = search rules in
    let g = below p in
    let inside = ceil_inside c.requires (ceiled p) (negative p) in
    let numbered = simp to_z-of_z at c.order_number-2.ensures in
    let h : SFits w32 c.order_number-2.result = search rules in
    let minus = less_small (pos 0) c.order_number-2.result (omega arith) (omega (arith, ap nat_abs numbered, number_small c.args.s (c.ceil_div.result -ℤ pos 1) c.requires.0 inside.0 inside.1)) in
    simp to_z-of_z
    (zero-sub c.order_number-2.result
    ∙ ap neg_ℤ (numbered ∙ ap (λ z. pos (order_number c.args.s (z -ℤ pos 1))) (ceiled p))
    ∙ sym (literal_falling c.args.s c.args.b (negative p)))
