-- `rules::is_lone` meets its contract.
use Rattle.std.proofs.Common.{sym, ap, ◌∙◌, arith, eqb}
use Rattle.laws.specs.Ahead.{not_alone, alone}
use Rattle.rules.proofs.is_lone.Goals as goal

pub returns-then-n-ne1 : goal.returns-then-n-ne1
returns-then-n-ne1 c = let a = c.args in sym (not_alone a.rules.now a.n a.at c.if-n-ne1.true)

pub unchecked-requires : goal.unchecked-requires
unchecked-requires c = (omega arith, (c.requires c.if-n-ne1.false).kind)

pub returns : goal.returns
returns c =
    let o = c.if-n-ne1.false in
    ap (λ k. eqb k 2) c.unchecked.ensures ∙ sym (alone c.args.rules.now c.args.n c.args.at o (c.requires o))
