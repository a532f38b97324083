use Rattle.std.proofs.Common.{◌∙◌, ap, length}
use Rattle.replies.specs.Marks.{none_yet}
use Rattle.replies.specs.Models.{with_literal, model-more}
use Rattle.replies.specs.Passes.{making_none, making-more, making-all}
use Rattle.replies.proofs.models.put_literals.Goals as goal

pub loop-literal-init : goal.loop-literal-init
loop-literal-init c =
    let e = c.from-literal-items.ensures in
    rw c.into_iter-literal-iterator.ensures.into_iter_gives (making_none _ _ _ _ e.text e.n e.line e.at (c.requires.cleared ∙ none_yet 1 (length c.args.model.now)))

pub loop-literal-preserved : goal.loop-literal-preserved
loop-literal-preserved c =
    let number = c.in-Some.literal in
    making-more _ _ _ _ _ _ _ _ c.loop-literal.invariant c.next.ensures.steps c.in-Some.is
    (λ ns e. c.put_literal.ensures ∙ ap (with_literal number.minus number.size) e ∙ model-more (length c.args.model.now) ns number.minus number.size)

pub returns : goal.returns
returns c = making-all _ _ _ _ _ c.next.new.self _ _ c.loop-literal.invariant c.next.ensures.steps c.requires.good c.in-None.is
