use Rattle.std.proofs.Common.{drop, sym}
use Rattle.replies.specs.Replied.{none_more}
use Rattle.replies.proofs.reply.no_model.Goals as goal

pub returns-then-next-text : goal.returns-then-next-text
returns-then-next-text c = none_more c.args.from (drop c.args.from c.args.text.now) c.args.text.now (sym c.in_ok-next.ensures.says) c.if-next-text.true
