-- A byte above 1 is one that is not at most 1.
use Rattle.std.proofs.Common.{◌≡◌, ◌∙◌, ap, not, rules, tests, nat_le}
use Rattle.std.specs.List.{position}
use Rattle.std.proofs.lemmas.Iterator.{YieldsList-from_slice}
use Rattle.std.proofs.lemmas.Iterator.Search.{position_from_yields_List}
use Rattle.lent.specs.Said.{said_found}
use Rattle.lent.proofs.Found.{found_is_each}
use Rattle.lent.proofs.first_bad_byte.Goals as goal

pub returns : goal.returns
returns c =
    let found : c.position.result ≡ position (λ b. not (nat_le b 1)) c.args.bytes.now = position_from_yields_List (λ b. not (nat_le b 1)) _ _ c.position.result c.position.ensures.ran (YieldsList-from_slice _ c.iter.ensures.rest) (λ x b q k. search (rules, tests)) in
    ap (said_found 12) found ∙ found_is_each 12 (λ b. nat_le b 1) c.args.bytes.now
