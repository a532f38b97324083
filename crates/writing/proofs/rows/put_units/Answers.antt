use Rattle.std.proofs.Common.{pos, ◌+ℤ◌, ◌-ℤ◌, ◌-◌, ap, arith, sym, subst, FitsSigned, w32, to_z}
use Rattle.laws.specs.Whole.{abs_fits, abs_add, abs_sub}
use Rattle.walk.specs.Rows.{in_run, ReadyRun}
use Rattle.writing.specs.Numbers.{led}
use Rattle.writing.specs.Parts.{Adding, begin, first_room, on, ended}
use Rattle.writing.proofs.Leads.{as_words, unit_run, unit_is, units_more, units_ready, run_end}
use Rattle.writing.proofs.rows.put_units.Goals as goal

pub loop-left-init : goal.loop-left-init
loop-left-init g c =
    let r = c.args.run in
    let y : FitsSigned w32 r.y.literal = abs_fits (omega (arith, c.requires.0.rising.near)) in
    let z : FitsSigned w32 r.z.literal = abs_fits (omega (arith, c.requires.0.falling.near)) in
    let e = unit_is r c.requires.0 c.requires.1 in
    as_words (λ u v. Adding g.P.Part.room g.P.Part.adds (led c.args.lead (in_run r)) (led c.args.lead (in_run (unit_run r.front u v r.count))) c.args.at c.args.part.now c.args.at c.taken-here.result × ReadyRun (unit_run r.front u v r.count)) y z
    (subst (λ s. Adding g.P.Part.room g.P.Part.adds (led c.args.lead (in_run r)) (led c.args.lead (in_run (unit_run r.front r.y.literal r.z.literal r.count))) c.args.at c.args.part.now c.args.at s) (sym c.taken-here.ensures) (begin g.met.P.Part.is c.args.at c.args.part.now (ap (λ x. led c.args.lead (in_run x)) (sym e)) c.requires.2), subst ReadyRun e c.requires.0)

pub put_clause-place-requires : goal.put_clause-place-requires
put_clause-place-requires g c =
    let l = c.loop-left in
    first_room g.met.P.Part.is l.invariant.0 _ _ (units_more c.args.lead c.args.run.front (to_z w32 l.p-bits) (to_z w32 l.q-bits) l.left c.loop-left-test.true)

pub loop-left-preserved : goal.loop-left-preserved
loop-left-preserved g c =
    let l = c.loop-left in
    let r = c.args.run in
    let y = to_z w32 l.p-bits in
    let z = to_z w32 l.q-bits in
    let up : FitsSigned w32 (y +ℤ pos 1) = abs_fits (omega (arith, abs_add y (pos 1), l.invariant.1.rising.near)) in
    let down : FitsSigned w32 (z -ℤ pos 1) = abs_fits (omega (arith, abs_sub z (pos 1), l.invariant.1.falling.near)) in
    as_words (λ u v. Adding g.P.Part.room g.P.Part.adds (led c.args.lead (in_run r)) (led c.args.lead (in_run (unit_run r.front u v (l.left - 1)))) c.args.at c.args.part.now c.put_clause-place.result c.put_clause-place.new.part × ReadyRun (unit_run r.front u v (l.left - 1))) up down (
      on g.met.P.Part.is l.invariant.0 _ _ (units_more c.args.lead c.args.run.front y z l.left c.loop-left-test.true) c.put_clause-place.ensures,
      units_ready c.args.run.front y z l.left c.loop-left-test.true l.invariant.1,
    )

pub returns : goal.returns
returns g c =
    let l = c.loop-left in
    ended g.met.P.Part.is l.invariant.0 (run_end c.args.lead (unit_run c.args.run.front (to_z w32 l.p-bits) (to_z w32 l.q-bits) l.left) (omega (arith, c.loop-left-test.false)))
