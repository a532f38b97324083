use Rattle.std.proofs.Common.{[], refl, sym, subst, ◌∷◌, ◌++◌, ap, arith, length, to_z-of_z, FitsSigned, w32}
use Rattle.laws.specs.Whole.{abs_fits}
use Rattle.walk.specs.Rows.{in_run, run-first}
use Rattle.writing.specs.Numbers.{clause, led, stays}
use Rattle.writing.specs.Parts.{Adding, begin, first_room, on, ended}
use Rattle.writing.proofs.Leads.{as_words, run_end, run_more}
use Rattle.writing.proofs.rows.put_stepped.Goals as goal

pub loop-rest-init : goal.loop-rest-init
loop-rest-init g c =
    let q = led c.args.lead (in_run c.args.run) in
    (subst (λ s. Adding g.P.Part.room g.P.Part.adds q q c.args.at c.args.part.now c.args.at s) (sym c.taken-here.ensures) (begin g.met.P.Part.is c.args.at c.args.part.now refl c.requires.1), c.requires.0)

pub put_clause-place-requires : goal.put_clause-place-requires
put_clause-place-requires g c =
    let l = c.loop-rest in
    let y : FitsSigned w32 l.rest.y.literal = abs_fits (omega (arith, l.invariant.1.rising.near)) in
    let z : FitsSigned w32 l.rest.z.literal = abs_fits (omega (arith, l.invariant.1.falling.near)) in
    as_words (λ u v. g.P.Part.room l.here l.place (clause (stays c.args.lead l.rest.front ++ (u ∷ v ∷ [])))) y z
    (first_room g.met.P.Part.is l.invariant.0 _ _ (run_more c.args.lead l.rest c.loop-rest-test.true))

pub loop-rest-smaller : goal.loop-rest-smaller
loop-rest-smaller g c = omega (arith, ap length c.onward-rest.ensures.2, ap length (run-first c.loop-rest.rest c.loop-rest-test.true))

pub loop-rest-preserved : goal.loop-rest-preserved
loop-rest-preserved g c =
    let l = c.loop-rest in
    let y : FitsSigned w32 l.rest.y.literal = abs_fits (omega (arith, l.invariant.1.rising.near)) in
    let z : FitsSigned w32 l.rest.z.literal = abs_fits (omega (arith, l.invariant.1.falling.near)) in
    let e = c.onward-rest.ensures in
    let b = simp to_z-of_z at c.put_clause-place.ensures in
    (rw e.2 (on g.met.P.Part.is l.invariant.0 _ _ (run_more c.args.lead l.rest c.loop-rest-test.true) b), e.0)

pub returns : goal.returns
returns g c = let l = c.loop-rest in ended g.met.P.Part.is l.invariant.0 (run_end c.args.lead l.rest (omega (arith, c.loop-rest-test.false)))
