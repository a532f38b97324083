-- The count, the terms and the constant, each where the one before it ends.
use Rattle.std.proofs.Common.{rules, refl, ap, sym, arith}
use mir.Syntax.{w32}
use mir.Val.{SFits}
use mir.Facts.{to_z-of_z}
use Rattle.definitions.specs.Reading.{count, read_comparison}
use Rattle.reader.specs.declared.Why.{Why}
use Rattle.reader.specs.Parts.{number_from}
use Rattle.reader.proofs.Steps.{passed_on}
use Rattle.reader.proofs.Fields.{number_got}
use Rattle.reader.proofs.Terms.{terms_refused, constant_refused, comparison_done}
use Rattle.reader.proofs.comparisons.comparison_at.Goals as goal

pub returns-in_err-n : goal.returns-in_err-n
unfolding count read_comparison number_from
returns-in_err-n c =
    rw (passed_on _ c.from_residual.ensures.1) (rw (← c.in_err-n.ensures), tt)

pub past_terms-requires : goal.past_terms-requires
past_terms-requires c =
    let g = number_got Why.Count 1 3 1 _ c.args.place (sym c.in_ok-n.ensures) in
    omega (arith, ap (λ g. g.next) g.0, g.1)

pub returns-in_err-end : goal.returns-in_err-end
returns-in_err-end c =
    rw (passed_on _ c.from_residual-in_err-end.ensures.1) (rw (terms_refused _ _ _ (sym c.in_ok-n.ensures) (sym c.in_err-end.ensures)), tt)

pub returns-in_err-last : goal.returns-in_err-last
returns-in_err-last c =
    rw (passed_on _ c.from_residual-in_err-last.ensures.1) (rw (constant_refused _ _ _ (sym c.in_ok-n.ensures) (sym c.in_ok-end.ensures) (sym c.in_err-last.ensures)), tt)

pub returns : goal.returns
returns c =
    let f : SFits w32 c.in_ok-last.last.value = search rules in
    (rw (comparison_done _ _ _ (sym c.in_ok-n.ensures) (sym c.in_ok-end.ensures) (sym c.in_ok-last.ensures), to_z-of_z f), refl)
