-- The kind, then the literal of that kind.
use Rattle.std.proofs.Common.{ap, sym, arith}
use borrow.Author.Tests.{eq-eqb, ne_eqb}
use Rattle.reader.specs.declared.Why.{Why}
use Rattle.reader.proofs.Fields.{number_got}
use Rattle.reader.proofs.Steps.{passed_on}
use Rattle.reader.proofs.Literals.{literal_is, kind_boolean, kind_comparison}
use Rattle.reader.proofs.clauses.literal_at.Goals as goal

pub returns-in_err-kind : goal.returns-in_err-kind
returns-in_err-kind c =
    rw (passed_on _ c.from_residual.ensures.1) (rw (literal_is, ← c.in_err-kind.ensures), tt)

pub returns-then-kind-gt1 : goal.returns-then-kind-gt1
returns-then-kind-gt1 c =
    let e = sym c.in_ok-kind.ensures in
    (rw (literal_is, e, kind_comparison _ _ _ _ c.if-kind-gt1.true) c.comparison_at.ensures.0, rw (ap (λ g. g.next) (number_got Why.Literal 0 2 1 _ c.args.at e).0) at c.comparison_at.ensures.1)

pub returns-in_err-read : goal.returns-in_err-read
returns-in_err-read c =
    rw (passed_on _ c.from_residual-in_err-read.ensures.1) (rw (literal_is, ← c.in_ok-kind.ensures, kind_boolean _ _ _ _ c.if-kind-gt1.false, ← c.in_err-read.ensures), tt)

pub returns-in-0 : goal.returns-in-0
returns-in-0 c =
    (rw (literal_is, ← c.in_ok-kind.ensures, kind_boolean _ _ _ _ c.if-kind-gt1.false, ← c.in_ok-read.ensures, eq-eqb c.in_ok-kind.kind.value 0 (omega arith)), tt)

pub returns-in_default : goal.returns-in_default
returns-in_default c =
    (rw (literal_is, ← c.in_ok-kind.ensures, kind_boolean _ _ _ _ c.if-kind-gt1.false, ← c.in_ok-read.ensures, ne_eqb c.in_ok-kind.kind.value 0 (omega arith)), tt)
