-- The byte at the end goes behind the digits.
use Rattle.std.proofs.Common.{refl, [], ◌∷◌}
use Rattle.laws.specs.Filling.{begun, one, ended}
use Rattle.definitions.specs.Dimacs.{decimal}
use Rattle.text.proofs.numbers.put_ended.Goals as goal

pub returns : goal.returns
returns c =
    let digits = begun (decimal c.args.n) (c.args.end ∷ []) _ _ _ c.requires c.put_decimal-at.ensures.0 c.put_decimal-at.ensures.1 in
    ended (one digits c.args.end [] refl) refl
