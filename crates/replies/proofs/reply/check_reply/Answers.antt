use Rattle.std.proofs.Common.{sym, ap, ◌∙◌, subst, rules}
use Rattle.replies.specs.Parts.{summed}
use Rattle.replies.specs.Said.{ModelIn}
use Rattle.replies.specs.Replied.{reply_wrong, reply_none, reply-model}
use Rattle.replies.proofs.Exits.{bad_exit}
use Rattle.replies.proofs.reply.check_reply.Goals as goal

pub returns-in_err-next-clause-says : goal.returns-in_err-next-clause-says
returns-in_err-next-clause-says c = bad_exit _ _ c.from_residual.ensures.1 (reply_wrong c.args.n c.args.text.now (sym c.in_err-next.ensures.says))

pub returns-in_err-no_model-clause-says : goal.returns-in_err-no_model-clause-says
returns-in_err-no_model-clause-says c =
    let none = reply_none c.args.n c.args.text.now (sym c.in_ok-next.ensures.says) c.if-next-text.true c.if-text-next-eq85.true in
    bad_exit _ _ c.from_residual-in_err-no_model.ensures.1 (c.in_err-no_model.ensures ∙ none)

pub returns-then-text-next-eq85-clause-says : goal.returns-then-text-next-eq85-clause-says
returns-then-text-next-eq85-clause-says c =
    c.in_ok-no_model.ensures ∙ reply_none c.args.n c.args.text.now (sym c.in_ok-next.ensures.says) c.if-next-text.true c.if-text-next-eq85.true

pub returns-in_err-heard-clause-says : goal.returns-in_err-heard-clause-says
returns-in_err-heard-clause-says c =
    let whole = reply-model c.args.n c.args.text.now (sym c.in_ok-next.ensures.says) (search rules) in
    bad_exit _ _ c.from_residual-in_err-heard.ensures.1 (c.in_err-heard.ensures.says ∙ ap summed whole)

pub returns-clause-says : goal.returns-clause-says
returns-clause-says c =
    let whole = reply-model c.args.n c.args.text.now (sym c.in_ok-next.ensures.says) (search rules) in
    c.in_ok-heard.ensures.says ∙ ap summed whole

pub returns-clause-lines : goal.returns-clause-lines
returns-clause-lines c =
    let whole = reply-model c.args.n c.args.text.now (sym c.in_ok-next.ensures.says) (search rules) in
    subst (λ m. ModelIn c.args.n c.args.text.now m c.in_ok-heard.heard) whole c.in_ok-heard.ensures.lines
