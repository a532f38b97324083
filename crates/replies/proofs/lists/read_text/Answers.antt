use Rattle.std.proofs.Common.{sym, arith}
use Rattle.replies.specs.Texts.{text-bad, numbers-bad}
use Rattle.replies.specs.Lists.{line_small, taken-bad, taken_short, taken-all}
use Rattle.replies.specs.Outcome.{apart}
use Rattle.replies.proofs.Exits.{refusal_exit}
use Rattle.replies.proofs.lists.read_text.Goals as goal

pub returns-in_err-head : goal.returns-in_err-head
returns-in_err-head c =
    let bad = apart (taken-bad c.args.text.now c.args.list.now (text-bad c.args.text.now (sym c.in_err-head.ensures.says))) in
    (refusal_exit _ _ c.from_residual.ensures.1 bad.0, bad.1)

pub returns-in_err-k : goal.returns-in_err-k
returns-in_err-k c =
    let bad = apart (taken-bad c.args.text.now c.args.list.now (numbers-bad c.args.text.now (sym c.in_ok-head.ensures.says) (sym c.in_err-k.ensures))) in
    (refusal_exit _ _ c.from_residual-in_err-k.ensures.1 bad.0, bad.1)

pub returns-then-list-k : goal.returns-then-list-k
returns-then-list-k c = apart (taken_short c.args.text.now c.args.list.now (sym c.in_ok-head.ensures.says) (sym c.in_ok-k.ensures) c.if-list-k.true)

pub put_numbers-requires-clause-small : goal.put_numbers-requires-clause-small
put_numbers-requires-clause-small c = omega (arith, line_small c.args.text.now (sym c.in_ok-head.ensures.says))

pub returns : goal.returns
returns c = apart (taken-all c.args.text.now c.args.list.now (sym c.in_ok-head.ensures.says) (sym c.in_ok-k.ensures) _ c.if-list-k.false c.put_numbers.ensures)
