-- `decode::lines::line_holds` meets its contract.
use Rattle.std.proofs.Common.{◌≡◌, ◌+◌, ◌-◌, ◌≤◌, length, refl, sym, ap, arith}
use Rattle.laws.specs.Boards.{board_of}
use Rattle.decode.specs.Given.{short}
use Rattle.decode.specs.Truth.{selector_number}
use Rattle.decode.specs.Lines.{number_in, none_left, one_left, literal_numbered, literal_true, literal_false}
use Rattle.decode.proofs.lines.line_holds.Goals as goal
use Rattle.decode.proofs.lines.line_holds.Goals.{After-literal_again-read}

-- a literal was read again
module _ (r : After-literal_again-read) where
  selector-is : r.selectors-selectors.result + r.loop.j ≡ selector_number (board_of r.args.numbered.now) r.loop.j
  selector-is = ap (λ n. n + r.loop.j) r.selectors-selectors.ensures.number

  numbered : let B = board_of r.args.numbered.now in let l = r.literal_again-read.result.value in
      (1 ≤ number_in (selector_number B r.loop.j) l) × (number_in (selector_number B r.loop.j) l ≤ length r.args.model.now) × (number_in r.loop.j l ≤ length r.args.model.now)
  numbered = literal_numbered r.loop.invariant (omega arith) r.literal_again-read.ensures r.requires.0.long

pub loop-init : goal.loop-init
loop-init c =
    let e : c.args.n - 0 ≡ c.args.n = omega arith in
    rw e (record { readable = c.requires.1; same = refl; mentioned = c.requires.2 })

pub literal_again-read-requires : goal.literal_again-read-requires
literal_again-read-requires c = one_left c.loop.invariant (omega arith)

pub literal_holds-requires : goal.literal_holds-requires
literal_holds-requires c = let n = numbered c in rw (selector-is c) (n.0, n.1, short c.requires.0)

pub returns-then-literal_holds : goal.returns-then-literal_holds
returns-then-literal_holds c =
    let r = (goal.at.returns-then-literal_holds c).After-literal_again-read in
    literal_true c.loop.invariant (omega arith) r.literal_again-read.ensures (sym (rw (selector-is r) at c.if-literal_holds.ensures))

pub selector_after-j-requires : goal.selector_after-j-requires
selector_after-j-requires c = omega (arith, (numbered (goal.at.selector_after-j-requires c).After-literal_again-read).2, short c.requires.0)

pub loop-preserved : goal.loop-preserved
loop-preserved c =
    let r = (goal.at.loop-preserved c).After-literal_again-read in
    let m : c.args.n - c.loop.counter - 1 ≡ c.args.n - (c.loop.counter + 1) = omega arith in
    rw (c.selector_after-j.ensures, ← m) (literal_false c.loop.invariant (omega arith) r.literal_again-read.ensures (sym (rw (selector-is r) at c.if-literal_holds.ensures)))

pub returns : goal.returns
returns c = none_left c.loop.invariant (omega arith)
