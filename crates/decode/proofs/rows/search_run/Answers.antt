-- `decode::rows::search_run` meets its contract.
use Rattle.std.proofs.Common.{◌≡◌, ◌<◌, Bool, List, ◌∷◌, [], ℕ, ℤ, map, length, drop, sym, ap, ◌∙◌, subst, arith, w32, SFits, to_z-of_z}
use Rattle.std.proofs.Math.ListN.{length-map}
use Rattle.definitions.specs.Tools.{All}
use Rattle.laws.specs.Whole.{abs_fits}
use Rattle.laws.specs.Lists.{append-all}
use Rattle.laws.specs.Mentions.{InList}
use Rattle.walk.specs.declared.Run.{Run}
use Rattle.walk.specs.Rows.{front_of, first_in, in_run, row_count, run-first, run_none}
use Rattle.decode.specs.Truth.{true_tail}
use Rattle.decode.specs.Goes.{goes_start, goes_one, goes_stop, goes_end}
use Rattle.decode.specs.Rows.{fixed_open}
use Rattle.decode.proofs.rows.search_run.Goals as goal
use Rattle.decode.proofs.rows.search_run.Goals.{In-loop-at, After-pair_holds}

-- the tests of a run's clauses
abbrev tests : List ℕ → Run → List Bool
tests model run = map (true_tail model) (in_run run)

how_many : (model : List ℕ) (run : Run) → length (tests model run) ≡ run.count
unfolding in_run
how_many model run = length-map (in_run run) (true_tail model) ∙ row_count (front_of run.front) run.y run.z run.count

-- the first clause, and what is behind it
module _ (c : In-loop-at) where
  abbrev run : Run
  run = c.loop-at.rest

  abbrev model : List ℕ
  model = c.args.model.now

  abbrev pair : List ℤ
  pair = run.y.literal ∷ run.z.literal ∷ []

  some : 0 < run.count
  some = omega (arith, c.loop-at.invariant.0.count, how_many model c.args.run, how_many model run)

  next : in_run run ≡ first_in run ∷ drop 1 (in_run run)
  next = run-first run some

  more : tests model run ≡ true_tail model (first_in run) ∷ map (true_tail model) (drop 1 (in_run run))
  more = ap (map (true_tail model)) next

  numbered : All (All (InList (length model))) (first_in run ∷ drop 1 (in_run run))
  numbered = subst (All (All (InList (length model)))) next c.loop-at.invariant.3

  y-fits : SFits w32 run.y.literal
  y-fits = abs_fits (omega (arith, c.loop-at.invariant.1.rising.near))

  z-fits : SFits w32 run.z.literal
  z-fits = abs_fits (omega (arith, c.loop-at.invariant.1.falling.near))

-- the last two literals tell of the first clause
told : (c : After-pair_holds) → c.pair_holds.result ≡ true_tail c.args.model.now (first_in c.loop-at.rest)
told c =
    let b = (goal.at.After-pair_holds c).In-loop-at in
    (rw (to_z-of_z (y-fits b), to_z-of_z (z-fits b)) at c.pair_holds.ensures) ∙ sym (fixed_open (model b) (front_of (run b).front) c.loop-at.invariant.2 (pair b))

pub loop-at-init : goal.loop-at-init
loop-at-init c = let p = c.requires in (goes_start _ _, p.0, p.1, p.2)

pub pair_holds-requires : goal.pair_holds-requires
pair_holds-requires c =
    let b = (goal.at.pair_holds-requires c).In-loop-at in
    rw (to_z-of_z (y-fits b), to_z-of_z (z-fits b)) ((append-all (InList (length (model b))) (front_of (run b).front) (pair b) (numbered b).0).1, c.requires.3)

pub returns-then-not-pair_holds : goal.returns-then-not-pair_holds
returns-then-not-pair_holds c =
    let a = goal.at.returns-then-not-pair_holds c in
    goes_stop c.loop-at.invariant.0 _ _ (more a.In-loop-at) (sym (told a.After-pair_holds) ∙ c.if-not-pair_holds.true)

pub onward-rest-requires : goal.onward-rest-requires
onward-rest-requires c = (c.loop-at.invariant.1, some (goal.at.onward-rest-requires c).In-loop-at)

pub loop-at-preserved : goal.loop-at-preserved
loop-at-preserved c =
    let a = goal.at.loop-at-preserved c in
    let i = c.loop-at.invariant in
    let e = c.onward-rest.ensures in
    (rw e.2 (goes_one i.0 _ _ (more a.In-loop-at) (sym (told a.After-pair_holds) ∙ c.if-not-pair_holds.false)), e.0, rw e.1 i.2, rw e.2 (numbered a.In-loop-at).1)

pub returns : goal.returns
returns c =
    let m = c.args.model.now in
    let n = how_many m c.args.run in
    let e = how_many m c.loop-at.rest in
    let z : c.loop-at.rest.count ≡ 0 = omega (arith, c.loop-at.invariant.0.count, n, e) in
    ((goes_end c.loop-at.invariant.0 (ap (map (true_tail m)) (run_none c.loop-at.rest z))).0, omega (arith, n))
