-- `decode::pieces::lead_holds` meets its contract.
use Rattle.std.proofs.Common.{◌≡◌, ◌+◌, ◌≤◌, length, not, sym, ap, ◌∙◌, arith}
use Rattle.definitions.specs.Meaning.{on}
use Rattle.laws.specs.Boards.{board_of}
use Rattle.decode.specs.Given.{short}
use Rattle.decode.specs.Truth.{selector_number}
use Rattle.decode.specs.Tails.{negated_true, selector_numbered}
use Rattle.decode.proofs.pieces.lead_holds.Goals as goal
use Rattle.decode.proofs.pieces.lead_holds.Goals.{After-selectors-first}

-- the first selector's number was found: that of this piece's
module _ (c : After-selectors-first) where
  number_is : c.selectors-first.result + c.in-Led.selector ≡ selector_number (board_of c.args.numbered.now) c.in-Led.selector
  number_is = ap (λ n. n + c.in-Led.selector) c.selectors-first.ensures.number

  numbered : (1 ≤ c.selectors-first.result + c.in-Led.selector) × (c.selectors-first.result + c.in-Led.selector ≤ length c.args.model.now)
  numbered = rw number_is (selector_numbered (board_of c.args.numbered.now) c.args.model.now c.in-Led.selector c.requires.0.long (rw c.in-Led.is at c.requires.2).1.0)

pub overflow_add-first : goal.overflow_add-first
overflow_add-first c = omega (arith, numbered (goal.at.overflow_add-first c).After-selectors-first, short c.requires.0)

pub is_on-requires : goal.is_on-requires
is_on-requires c = numbered (goal.at.is_on-requires c).After-selectors-first

pub returns-in-Led : goal.returns-in-Led
returns-in-Led c =
    let m = c.args.model.now in
    rw c.in-Led.is
    (ap not (c.is_on.ensures ∙ ap (on m) (number_is (goal.at.returns-in-Led c).After-selectors-first)) ∙ sym (negated_true (board_of c.args.numbered.now) m c.in-Led.selector))
