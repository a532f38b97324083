-- Between 10^k and 10^(k + 1) a number has k digits behind the first.
use Rattle.std.proofs.Common.{sym, arith}
use Rattle.laws.specs.Decimals.{decimal-length}
use Rattle.text.proofs.lengths.many_digits.Goals as goal

pub returns-then-n-lt100000000000 : goal.returns-then-n-lt100000000000
returns-then-n-lt100000000000 c = sym (decimal-length 10 c.args.n c.ranges.n.fits (omega arith) (omega arith))

pub returns-then-n-lt1000000000000 : goal.returns-then-n-lt1000000000000
returns-then-n-lt1000000000000 c = sym (decimal-length 11 c.args.n c.ranges.n.fits (omega arith) (omega arith))

pub returns-then-n-lt10000000000000 : goal.returns-then-n-lt10000000000000
returns-then-n-lt10000000000000 c = sym (decimal-length 12 c.args.n c.ranges.n.fits (omega arith) (omega arith))

pub returns-then-n-lt100000000000000 : goal.returns-then-n-lt100000000000000
returns-then-n-lt100000000000000 c = sym (decimal-length 13 c.args.n c.ranges.n.fits (omega arith) (omega arith))

pub returns-then-n-lt1000000000000000 : goal.returns-then-n-lt1000000000000000
returns-then-n-lt1000000000000000 c = sym (decimal-length 14 c.args.n c.ranges.n.fits (omega arith) (omega arith))

pub returns-then-n-lt10000000000000000 : goal.returns-then-n-lt10000000000000000
returns-then-n-lt10000000000000000 c = sym (decimal-length 15 c.args.n c.ranges.n.fits (omega arith) (omega arith))

pub returns-then-n-lt100000000000000000 : goal.returns-then-n-lt100000000000000000
returns-then-n-lt100000000000000000 c = sym (decimal-length 16 c.args.n c.ranges.n.fits (omega arith) (omega arith))

pub returns-then-n-lt1000000000000000000 : goal.returns-then-n-lt1000000000000000000
returns-then-n-lt1000000000000000000 c = sym (decimal-length 17 c.args.n c.ranges.n.fits (omega arith) (omega arith))

pub returns-then-n-lt10000000000000000000 : goal.returns-then-n-lt10000000000000000000
returns-then-n-lt10000000000000000000 c = sym (decimal-length 18 c.args.n c.ranges.n.fits (omega arith) (omega arith))

pub returns : goal.returns
returns c = sym (decimal-length 19 c.args.n c.ranges.n.fits (omega arith) (omega arith))
