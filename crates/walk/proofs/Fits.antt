-- Small numbers, their sums and their differences fit an i32. Assumes nothing.
use Prim.Native.Nat.{◌≤◌}
use native.Mathlib.Omega.{arith}
use lib.Dec.{lit≤}
use lib.IntN.{ℤ, nat_abs, ◌+ℤ◌, ◌-ℤ◌}
use mir.Syntax.{w32}
use mir.Val.{SFits}
use mir.Facts.{to_z-of_z}
use Rattle.laws.specs.Limits.{numbers_limit}
use Rattle.laws.specs.Whole.{abs_fits, abs_add, abs_sub}

abbrev pub Small : ℤ → Type 0
Small z = nat_abs z ≤ numbers_limit

-- what the numbers of the paper are
pub million : (z : ℤ) → nat_abs z ≤ 1000000 → Small z
million z h = omega arith

pub small : (z : ℤ) → Small z → SFits w32 z
small z h = abs_fits (omega arith)

pub sum-small : (x y : ℤ) → Small x → Small y → SFits w32 (x +ℤ y)
sum-small x y h k = abs_fits (omega (arith, abs_add x y))

pub less_small : (x y : ℤ) → Small x → Small y → SFits w32 (x -ℤ y)
less_small x y h k = abs_fits (omega (arith, abs_sub x y))

pub ruleset fits = (tt, lit≤, to_z-of_z, small, sum-small, less_small, million, arith)
