-- A machine's division rounds toward zero.
use Rattle.std.proofs.Common.{◌≡◌, sym, ℤ, pos, negsuc, ◌-ℤ◌, arith, to_z-of_z}
use Rattle.std.proofs.lemmas.Int.{ints}
use Rattle.std.specs.Int.Signed.{quot_z}
use Rattle.definitions.specs.Tools.{floor}
use Rattle.laws.specs.Whole.{whole, back, abs_quot_le, abs_sub, mul_law}
use Rattle.laws.specs.Division.{below_floor, floor_up, floor_down}
use Rattle.walk.proofs.Fits.{Small, small, less_small, million}
use Rattle.walk.proofs.division.floor_positive.Goals as goal

divided : (z a : ℤ) → Small z → Small (quot_z z a)
divided z a h = omega (arith, abs_quot_le z a)

-- rounded down, b / 1 is b
by_one : (b : ℤ) → floor b (pos 1) ≡ b
by_one b =
    let low = (below_floor (pos 1) b b (omega whole)).0 (omega (whole, mul_law (pos 1) b)) in
    let high = (below_floor (pos 1) b (floor b (pos 1)) (omega whole)).1 (omega whole) in
    omega (whole, low, high, mul_law (pos 1) (floor b (pos 1)))

pub returns-then-a-eq1 : goal.returns-then-a-eq1
returns-then-a-eq1 c =
    let fb = c.ranges.b in
    let e : c.args.a ≡ pos 1 = omega (arith, ints) in
    simp to_z-of_z (rw e (sym (by_one c.args.b)))

pub returns-then-b-lt0 : goal.returns-then-b-lt0
returns-then-b-lt0 c =
    let b = c.args.b in
    let a = c.args.a in
    let fa = c.ranges.a in
    let fb = c.ranges.b in
    let i : Small (negsuc 0 -ℤ b) = omega (arith, abs_sub (negsuc 0) b) in
    let q = divided (negsuc 0 -ℤ b) a i in
    let fi = small (negsuc 0 -ℤ b) i in
    let fq = small (quot_z (negsuc 0 -ℤ b) a) q in
    let fr = less_small (negsuc 0) (quot_z (negsuc 0 -ℤ b) a) (omega arith) q in
    simp to_z-of_z (floor_down b a (omega (whole, back fb)) c.requires.0)

pub returns : goal.returns
returns c =
    let b = c.args.b in
    let a = c.args.a in
    let fa = c.ranges.a in
    let fb = c.ranges.b in
    let fq = small (quot_z b a) (divided b a (million b c.requires.1)) in
    simp to_z-of_z (floor_up b a (omega (whole, back fb)) c.requires.0)
