-- `measure::count::over` meets its contract.
use mathlib.Core.Path.{◌≡◌, ap, ◌∙◌}
use native.Mathlib.Omega.{arith}
use Prim.Native.Nat.{◌+◌}
use lib.IntN.{pos, nat_abs}
use Rattle.measure.specs.Places.{over}
use lib.Signed.{◌≤ℤ◌, yes_non_neg, pos-nat_abs}
use mir.Facts.{to_z-of_z}
use Rattle.laws.specs.Whole.{whole}
use Rattle.measure.proofs.Tuples.{over_near, over_is}
use Rattle.measure.proofs.count.over.Goals as goal

pub returns : goal.returns
returns c =
    let f = c.ranges.t in
    let s : pos 0 ≤ℤ c.args.t = omega (whole, c.requires.1, c.requires.2) in
    let e : nat_abs c.args.t + 1 ≡ over c.args.c = over_is c.args.c c.requires.0 c.requires.2 _ (pos-nat_abs c.args.t (yes_non_neg s) ∙ c.requires.1) in
    simp to_z-of_z (e, omega (arith, e, ap nat_abs c.requires.1, over_near c.args.c c.requires.0 c.requires.2))
