-- 256 ^ 4 fits.
use Rattle.std.proofs.Common.{arith}
use Rattle.fields.proofs.Laws.{power_most}
use Rattle.fields.proofs.power.Goals as goal

pub pow-requires : goal.pow-requires
pow-requires c = omega (arith, power_most {n = c.args.width} c.requires)
