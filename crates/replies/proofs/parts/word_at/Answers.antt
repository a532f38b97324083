use Rattle.std.proofs.Common.{◌<◌, length, sym, ◌∙◌, arith}
use Rattle.replies.specs.Bytes.{word_short, word_wrong}
use Rattle.replies.proofs.parts.word_at.Goals as goal
use Rattle.replies.proofs.parts.word_at.Goals.{then-text-at-via-then-text-at, then-text-at-via-else-text-at+then-text-at-2}

pub returns-then-text-at-clause-says : goal.returns-then-text-at-clause-says
returns-then-text-at-clause-says c =
    let h : c.loop-letter.letter-index < length c.args.word.now = omega arith in
    elim c.then-text-at.branch [
      | then-text-at-via-then-text-at w ↦ sym (word_short _ _ _ _ h w.if-text-at.true) ∙ c.loop-letter.invariant.same
      | then-text-at-via-else-text-at+then-text-at-2 w ↦ sym (word_wrong _ _ _ _ h w.if-text-at.false w.if-text-at-2.true) ∙ c.loop-letter.invariant.same
    ]
