use Rattle.std.proofs.Common.{◌∙◌, sym}
use Rattle.replies.specs.Outcome.{apart}
use Rattle.replies.specs.Models.{reply-bad, reply-nothing, reply-taken}
use Rattle.replies.proofs.Exits.{refusal_exit}
use Rattle.replies.proofs.models.read_reply.Goals as goal

pub returns-in_err-check_reply : goal.returns-in_err-check_reply
returns-in_err-check_reply c =
    let bad = apart (reply-bad c.args.n c.args.text.now c.args.model.now (sym c.in_err-check_reply.ensures.says)) in
    (refusal_exit _ _ c.from_residual.ensures.1 bad.0, bad.1)

pub returns-in-None : goal.returns-in-None
returns-in-None c =
    let heard = rw c.in-None.is at c.in_ok-check_reply.ensures in
    apart (reply-nothing c.args.n c.args.text.now c.args.model.now (sym heard.says))

pub returns-in-Some : goal.returns-in-Some
returns-in-Some c =
    let heard = rw c.in-Some.is at c.in_ok-check_reply.ensures in
    apart (c.take_model.ensures ∙ reply-taken c.args.n c.args.text.now c.args.model.now (sym heard.says) heard.lines.0 heard.lines.1)
