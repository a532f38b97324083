-- `decode::axioms::search_axioms` meets its contract.
use Rattle.std.proofs.Common.{◌≡◌, ◌+◌, ◌≤◌, ◌<◌, ◌++◌, length, sym, ap, ap₂, ◌∙◌, arith}
use Rattle.definitions.specs.Encoding.{width, first}
use Rattle.laws.specs.Boards.{board_of, opens_recorded}
use Rattle.laws.specs.Axioms.{axioms_from, axioms-all, axioms_none}
use Rattle.slots.specs.Variables.{bounds_same, first_none, first_more}
use Rattle.decode.specs.Given.{counts_small, short, ordered, within}
use Rattle.decode.specs.Truth.{tests}
use Rattle.decode.specs.Goes.{goes_start, goes_end}
use Rattle.decode.specs.Axioms.{axiom_tests, axiom_holds, axiom_fails, axiom_room, axioms-over, axioms-first, axioms_fit}
use Rattle.decode.proofs.axioms.search_axioms.Goals as goal
use Rattle.decode.proofs.axioms.search_axioms.Goals.{After-width_of-width}

-- the width of variable x was found
module _ (c : After-width_of-width) where
  known : c.search.x < length (board_of c.args.opened.now).bounds
  known = omega (arith, c.ints-ints.ensures.ints)

  room : (1 ≤ c.search.first) × (2 ≤ c.width_of-width.result) × (c.search.first + c.width_of-width.result ≤ length c.args.model.now + 1) × (length c.args.model.now < 2147483648)
  room = omega (arith, within c.requires c.search.x known c.bounds_of.ensures, c.search.invariant.1, c.width_of-width.ensures, short c.requires)

  here : let B = board_of c.args.opened.now in
      tests B c.args.model.now (axioms_from B c.search.x) ≡ axiom_tests c.args.model.now c.search.first c.width_of-width.result 0 ++ tests B c.args.model.now (axioms_from B (c.search.x + 1))
  here =
      let B = board_of c.args.opened.now in
      axioms-first B c.args.model.now c.search.x known (ordered c.requires c.search.x known c.bounds_of.ensures)
      ∙ ap₂ (λ f w. axiom_tests c.args.model.now f w 0 ++ tests B c.args.model.now (axioms_from B (c.search.x + 1))) (sym c.search.invariant.1) (sym (c.width_of-width.ensures ∙ ap width (bounds_same B c.search.x _ c.bounds_of.ensures)))

  onward : c.search.first + c.width_of-width.result ≡ first (board_of c.args.opened.now) (c.search.x + 1)
  onward = omega (arith, first_more (board_of c.args.opened.now) c.search.x _ known c.bounds_of.ensures, c.width_of-width.ensures, c.search.invariant.1)

pub overflow_add-first : goal.overflow_add-first
overflow_add-first c = omega (arith, counts_small c.requires, c.bools-first.ensures.bools)

pub search-init : goal.search-init
search-init c =
    let B = board_of c.args.opened.now in
    (omega arith, rw c.bools-first.ensures.bools (sym (first_none B)), rw (axioms-all B) (goes_start 0 _))

pub bounds_of-requires : goal.bounds_of-requires
bounds_of-requires c = omega (arith, c.ints-ints.ensures.ints)

pub width_of-width-requires : goal.width_of-width-requires
width_of-width-requires c = c.bounds_of.ensures.good

pub loop-k-init : goal.loop-k-init
loop-k-init c = rw (here (goal.at.loop-k-init c).After-width_of-width) at c.search.invariant.2

pub axiom_holds-requires : goal.axiom_holds-requires
axiom_holds-requires c = omega (arith, room (goal.at.axiom_holds-requires c).After-width_of-width)

pub overflow_add-number : goal.overflow_add-number
overflow_add-number c = omega (arith, axiom_room _ _ _ _ _ c.loop-k.invariant (omega arith), axioms_fit _ c.args.model.now (opens_recorded _ c.requires.opens))

pub loop-k-preserved : goal.loop-k-preserved
loop-k-preserved c = axiom_holds _ _ _ _ _ c.loop-k.invariant (omega arith) (sym c.axiom_holds.ensures ∙ c.if-not-axiom_holds.false)

pub overflow_add-first-in-search : goal.overflow_add-first-in-search
overflow_add-first-in-search c = omega (arith, room (goal.at.overflow_add-first-in-search c).After-width_of-width)

pub search-preserved : goal.search-preserved
search-preserved c = (omega arith, onward (goal.at.search-preserved c).After-width_of-width, axioms-over _ _ _ _ _ c.loop-k.invariant (omega arith))

pub returns-then-ints-x : goal.returns-then-ints-x
returns-then-ints-x c =
    let B = board_of c.args.opened.now in
    goes_end c.search.invariant.2 (ap (tests B c.args.model.now) (axioms_none B _ (omega (arith, c.ints-ints.ensures.ints))))

pub returns-then-not-axiom_holds : goal.returns-then-not-axiom_holds
returns-then-not-axiom_holds c = axiom_fails _ _ _ _ _ c.loop-k.invariant (omega arith) (sym c.axiom_holds.ensures ∙ c.if-not-axiom_holds.true)
