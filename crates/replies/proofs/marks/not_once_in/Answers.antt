use Rattle.std.proofs.Common.{zero, ◌∙◌, length, replicate, arith}
use Rattle.std.proofs.lemmas.List.{length-replicate}
use Rattle.replies.specs.Parts.{literals_from}
use Rattle.replies.specs.Marks.{window_tells}
use Rattle.replies.proofs.marks.not_once_in.Goals as goal

pub returns : goal.returns
returns c =
    let ns = literals_from c.args.n c.args.from c.args.text.now in
    c.first_not_one.ensures ∙ window_tells ns c.args.first c.args.many (length (replicate 32768 zero)) c.mark_values.new.marks c.mark_values.ensures (omega (arith, length-replicate 32768 zero))
