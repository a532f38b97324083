use Rattle.std.proofs.Common.{◌+◌, ◌∙◌, sym, arith}
use Rattle.replies.specs.Parts.{literals_from}
use Rattle.replies.specs.Marks.{window_passes, window_fails}
use Rattle.replies.proofs.marks.least_not_once.Goals as goal

pub returns-in-Some : goal.returns-in-Some
returns-in-Some c =
    let ns = literals_from c.args.n c.args.from c.args.text.now in
    sym (window_fails ns c.loop-at.at c.min-many.result (c.args.n + 1) (omega arith) (sym c.in-Some.ensures)) ∙ c.loop-at.invariant.same

pub loop-at-preserved : goal.loop-at-preserved
loop-at-preserved c =
    let ns = literals_from c.args.n c.args.from c.args.text.now in
    record {
      inside = omega arith;
      same = sym (window_passes ns c.loop-at.at c.min-many.result (c.args.n + 1) (omega arith) (sym c.in_default.ensures)) ∙ c.loop-at.invariant.same;
    }
