-- `judge::literals::holds` meets its contract.
use Rattle.std.proofs.Common.{ap, not, to_z-of_z}
use Rattle.definitions.specs.Meaning.{assigned, compares, holds}
use Rattle.laws.specs.Fits.{good-constant}
use Rattle.judge.proofs.literals.holds.Goals as goal

pub is_on-requires : goal.is_on-requires
is_on-requires c =
    rw c.in-Boolean.is at c.requires.1

pub is_on-requires-in-Negated : goal.is_on-requires-in-Negated
is_on-requires-in-Negated c =
    rw c.in-Negated.is at c.requires.1

pub compares-requires : goal.compares-requires
compares-requires c =
    let k = rw c.in-Comparison.is at c.requires.1 in (c.requires.0, rw (to_z-of_z (good-constant k.good)) k)

pub returns-in-Boolean : goal.returns-in-Boolean
unfolding holds assigned compares
returns-in-Boolean c =
    rw c.in-Boolean.is c.is_on.ensures

pub returns-in-Negated : goal.returns-in-Negated
unfolding holds assigned compares
returns-in-Negated c =
    rw c.in-Negated.is (ap not c.is_on-in-Negated.ensures)

pub returns-in-Comparison : goal.returns-in-Comparison
unfolding holds assigned compares
returns-in-Comparison c =
    let k = rw c.in-Comparison.is at c.requires.1 in rw c.in-Comparison.is (rw (to_z-of_z (good-constant k.good)) at c.compares.ensures)
