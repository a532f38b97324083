-- Between 10^k and 10^(k + 1) a number has k digits behind the first.
use Rattle.std.proofs.Common.{sym, arith}
use Rattle.laws.specs.Decimals.{decimal-length}
use Rattle.text.proofs.lengths.digits.Goals as goal

pub returns-then-n-lt1000000 : goal.returns-then-n-lt1000000
returns-then-n-lt1000000 c = sym (decimal-length 5 c.args.n c.ranges.n.fits (omega arith) (omega arith))

pub returns-then-n-lt10000000 : goal.returns-then-n-lt10000000
returns-then-n-lt10000000 c = sym (decimal-length 6 c.args.n c.ranges.n.fits (omega arith) (omega arith))

pub returns-then-n-lt100000000 : goal.returns-then-n-lt100000000
returns-then-n-lt100000000 c = sym (decimal-length 7 c.args.n c.ranges.n.fits (omega arith) (omega arith))

pub returns-then-n-lt1000000000 : goal.returns-then-n-lt1000000000
returns-then-n-lt1000000000 c = sym (decimal-length 8 c.args.n c.ranges.n.fits (omega arith) (omega arith))

pub returns-then-n-lt10000000000 : goal.returns-then-n-lt10000000000
returns-then-n-lt10000000000 c = sym (decimal-length 9 c.args.n c.ranges.n.fits (omega arith) (omega arith))
