-- `judge::clauses::any_holds` meets its contract.
use Rattle.std.proofs.Common.{◌≡◌, ◌+◌, ◌-◌, sym, ◌∙◌, arith}
use Rattle.definitions.specs.Meaning.{assigned}
use Rattle.judge.proofs.Passing.{none_holds, there, known, others, first_holds}
use Rattle.judge.proofs.clauses.any_holds.Goals as goal

pub literal_again-read-requires : goal.literal_again-read-requires
literal_again-read-requires c = there (omega arith) c.loop.invariant.0

pub holds-requires : goal.holds-requires
holds-requires c = let l = c.loop.invariant.0 in (l.suited.near, known (omega arith) l c.literal_again-read.ensures)

pub returns-then-holds : goal.returns-then-holds
returns-then-holds c =
    let i = c.loop.invariant in
    sym (i.1 ∙ first_holds (omega arith) i.0 c.literal_again-read.ensures (assigned c.args.values.now c.args.booleans.now) c.if-holds.ensures)

pub loop-preserved : goal.loop-preserved
loop-preserved c =
    let i = c.loop.invariant in
    let a = c.literal_again-read.ensures in
    let m : c.args.n - c.loop.counter - 1 ≡ c.args.n - (c.loop.counter + 1) = omega arith in
    rw (← m) (others (omega arith) i.0 a, i.1 ∙ first_holds (omega arith) i.0 a (assigned c.args.values.now c.args.booleans.now) c.if-holds.ensures)

pub returns : goal.returns
returns c = sym (c.loop.invariant.1 ∙ none_holds _ _ (c.args.n - c.loop.counter) c.loop.place (omega arith))
