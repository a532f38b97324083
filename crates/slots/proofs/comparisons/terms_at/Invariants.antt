-- The first i terms are there.
use Rattle.std.proofs.Common.{◌≡◌, map, length, take}
use Rattle.laws.specs.Reread.{terms_at}
use Rattle.slots.specs.Terms.{term_read}
use Rattle.slots.proofs.comparisons.terms_at.Given as goal

abbrev pub invariant-loop-i : goal.invariant-loop-i
invariant-loop-i l = (length l.terms ≡ 3) × (take l.i (map term_read l.terms) ≡ take l.i (terms_at l.rules l.place))
