-- Between 10^k and 10^(k + 1) a number has k digits behind the first.
use Rattle.std.proofs.Common.{sym, ap, length, arith}
use Rattle.laws.specs.Decimals.{decimal-one, decimal-length}
use Rattle.text.proofs.lengths.few_digits.Goals as goal

pub returns-then-n-lt10 : goal.returns-then-n-lt10
returns-then-n-lt10 c = sym (ap length (decimal-one c.args.n (omega arith)))

pub returns-then-n-lt100 : goal.returns-then-n-lt100
returns-then-n-lt100 c = sym (decimal-length 1 c.args.n c.ranges.n.fits (omega arith) (omega arith))

pub returns-then-n-lt1000 : goal.returns-then-n-lt1000
returns-then-n-lt1000 c = sym (decimal-length 2 c.args.n c.ranges.n.fits (omega arith) (omega arith))

pub returns-then-n-lt10000 : goal.returns-then-n-lt10000
returns-then-n-lt10000 c = sym (decimal-length 3 c.args.n c.ranges.n.fits (omega arith) (omega arith))

pub returns : goal.returns
returns c = sym (decimal-length 4 c.args.n c.ranges.n.fits (omega arith) (omega arith))
