use Rattle.std.proofs.Common.{◌∙◌, sym, ap}
use Rattle.definitions.specs.TextOperations.{model_of}
use Rattle.replies.specs.Parts.{literals_from}
use Rattle.replies.specs.Models.{sought_told, answer_not_once, answer_wrong, answer_model}
use Rattle.replies.proofs.models.take_model.Goals as goal

pub returns-in-Some : goal.returns-in-Some
returns-in-Some c = answer_not_once c.args.n c.args.heard.from c.args.text.now c.args.model.now (sought_told c.requires c.sought_from.ensures (sym c.in-Some.ensures))

pub returns-then-model-n : goal.returns-then-model-n
returns-then-model-n c = answer_wrong c.args.n c.args.heard.from c.args.text.now c.args.model.now (sought_told c.requires c.sought_from.ensures (sym c.in_default.ensures)) c.if-model-n.true

pub returns : goal.returns
returns c =
    let ns = literals_from c.args.n c.args.heard.from c.args.text.now in
    let once = sought_told c.requires c.sought_from.ensures (sym c.in_default.ensures) in
    answer_model c.args.n c.args.heard.from c.args.text.now c.args.model.now once c.if-model-n.false _ (c.put_literals.ensures ∙ ap (λ k. model_of k ns) c.fill.ensures.len)
