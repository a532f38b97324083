-- The sums stay small.
use Rattle.std.proofs.Common.{◌≡◌, ◌∙◌, sym, ap, ◌≤◌, ℤ, nat_abs, arith}
use Rattle.std.proofs.lemmas.Int.{ints}
use Rattle.walk.specs.declared.Comparison.{Comparison}
use Rattle.walk.specs.Comparisons.{least_of, over_least, FairComparison}
use Rattle.walk.proofs.Sums.{least_near, least-all}
use Rattle.walk.proofs.tuples.over_least.Goals as goal

near : (c : Comparison) → FairComparison c → (l : ℤ) → l ≡ least_of c → nat_abs l ≤ 786438
near c f l e = omega (arith, ap nat_abs (e ∙ sym (least-all c f)), least_near c f c.n (omega arith), f.few)

pub overflow_sub-result : goal.overflow_sub-result
overflow_sub-result c = let l = near c.args.c c.requires _ c.least.ensures in omega (arith, ints)

pub overflow_add-result : goal.overflow_add-result
overflow_add-result c = let l = near c.args.c c.requires _ c.least.ensures in omega (arith, ints)

pub returns : goal.returns
unfolding over_least
returns c = let l = near c.args.c c.requires _ c.least.ensures in omega (arith, ints)
