-- Rounded up is minus the negated number rounded down.
use Rattle.std.proofs.Common.{◌∙◌, ap, ℤ, pos, nat_abs, ◌-ℤ◌, arith, rules, SFits, to_z-of_z}
use Rattle.std.specs.Int.{w32}
use Rattle.laws.specs.Whole.{abs_sub}
use Rattle.laws.specs.Division.{ceil_is, abs_floor}
use Rattle.walk.proofs.Fits.{less_small}
use Rattle.walk.proofs.division.ceil_div.Goals as goal

pub overflow_sub-result : goal.overflow_sub-result
overflow_sub-result c =
    let b = c.args.b in
    let fa = c.ranges.a in
    let fb = c.ranges.b in
    let mb = less_small (pos 0) b (omega arith) (omega arith) in
    let got = simp to_z-of_z at c.floor_div.ensures in
    let f : SFits w32 c.floor_div.result = search rules in
    simp to_z-of_z (less_small (pos 0) c.floor_div.result (omega arith) (omega (arith, ap nat_abs got, abs_floor (pos 0 -ℤ b) c.args.a, abs_sub (pos 0) b)))

pub returns : goal.returns
returns c =
    let b = c.args.b in
    let fa = c.ranges.a in
    let fb = c.ranges.b in
    let mb = less_small (pos 0) b (omega arith) (omega arith) in
    let got = simp to_z-of_z at c.floor_div.ensures in
    let f : SFits w32 c.floor_div.result = search rules in
    let m = less_small (pos 0) c.floor_div.result (omega arith) (omega (arith, ap nat_abs got, abs_floor (pos 0 -ℤ b) c.args.a, abs_sub (pos 0) b)) in
    simp to_z-of_z (ap (λ (z : ℤ). pos 0 -ℤ z) got ∙ ceil_is b c.args.a)
