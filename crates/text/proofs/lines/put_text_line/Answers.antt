-- The word, the first number and the second go one behind the other.
use Rattle.std.proofs.Common.{refl, ◌++◌}
use Rattle.laws.specs.Filling.{begun, part, last}
use Rattle.text.specs.Lines.{with_end}
use Rattle.text.proofs.lines.put_text_line.Goals as goal

pub returns : goal.returns
returns c =
    let word = begun c.args.word.now (with_end c.args.a 32 ++ with_end c.args.b 10) _ _ _ c.requires c.put_word-first.ensures.0 c.put_word-first.ensures.1 in
    let first = part word _ _ refl _ _ c.put_ended.ensures.0 c.put_ended.ensures.1 in
    let line = last first _ _ c.put_ended-2.ensures.0 c.put_ended-2.ensures.1 in
    (line.0, line.1)
