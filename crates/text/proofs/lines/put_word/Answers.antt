-- The word over the start of the buffer is what is written there.
use Rattle.std.proofs.Common.{◌++◌, length, drop, refl, ap}
use Rattle.laws.specs.Written.{written}
use Rattle.text.proofs.lines.put_word.Goals as goal

pub returns : goal.returns
unfolding written
returns c = (refl, ap (λ z. z ++ drop (length c.args.word.now) c.args.out.now) c.copy_from_slice.ensures.after)
