-- `measure::count::beyond` meets its contract.
use mathlib.Core.Path.{◌≡◌, sym, ap}
use Prim.Native.Nat.{◌-◌}
use native.Mathlib.Omega.{arith}
use Rattle.laws.specs.Counting.{tri}
use Rattle.measure.proofs.count.beyond.Goals as goal

pub returns-then-u-d : goal.returns-then-u-d
unfolding tri
returns-then-u-d c =
    let e : c.args.u - c.args.d ≡ 0 = omega arith in (sym (ap tri e), omega arith)
