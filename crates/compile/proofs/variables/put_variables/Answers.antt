use Rattle.std.proofs.Common.{refl, sym, ap, arith, ◌+◌, ◌<◌, ◌∙◌, length}
use Rattle.laws.specs.Fits.{first-most, width-most, width-least}
use Rattle.laws.specs.Boards.{board_of, opens_admitted}
use Rattle.slots.specs.Variables.{first_none, first_more}
use Rattle.writing.specs.Parts.{begin, first_room, on, ended}
use Rattle.compile.specs.Lists.{axioms-end}
use Rattle.compile.proofs.Passes.{axioms_next}
use Rattle.compile.proofs.variables.put_variables.Goals as goal

pub overflow_cast-first : goal.overflow_cast-first
overflow_cast-first g c = omega (arith, (opens_admitted _ c.ints-ints.ensures.opens).bools)

pub overflow_add-first : goal.overflow_add-first
overflow_add-first g c = omega (arith, (opens_admitted _ c.ints-ints.ensures.opens).bools)

pub loop-x-init : goal.loop-x-init
loop-x-init g c = (begin g.met.P.Part.is c.args.at c.args.part.now refl c.requires, ap (λ b. b + 1) c.bools.ensures.bools ∙ sym (first_none (board_of c.args.opened.now)))

pub put_axioms-place-requires : goal.put_axioms-place-requires
put_axioms-place-requires g c =
    let l = c.loop-x in
    let B = board_of c.args.opened.now in
    let h : l.x < length B.bounds = omega (arith, c.ints-ints.ensures.ints) in
    let o = opens_admitted c.args.opened.now c.ints-ints.ensures.opens in
    let b = c.bounds_of.ensures in (
      omega (arith, c.width_of-width.ensures, width-least _ b.good),
      omega (arith, c.width_of-width.ensures, width-most _ b.good, l.invariant.1, first-most B o l.x),
      first_room g.met.P.Part.is l.invariant.0 _ _ (axioms_next B o l.x h c.bounds_of.result l.first c.width_of-width.result b l.invariant.1 c.width_of-width.ensures),
    )

pub overflow_add-first-in-loop-x : goal.overflow_add-first-in-loop-x
overflow_add-first-in-loop-x g c =
    omega (arith, c.width_of-width.ensures, width-most _ c.bounds_of.ensures.good, c.loop-x.invariant.1, first-most _ (opens_admitted c.args.opened.now c.ints-ints.ensures.opens) c.loop-x.x)

pub loop-x-preserved : goal.loop-x-preserved
loop-x-preserved g c =
    let l = c.loop-x in
    let B = board_of c.args.opened.now in
    let h : l.x < length B.bounds = omega (arith, c.ints-ints.ensures.ints) in
    let o = opens_admitted c.args.opened.now c.ints-ints.ensures.opens in
    let b = c.bounds_of.ensures in (
      on g.met.P.Part.is l.invariant.0 _ _ (axioms_next B o l.x h c.bounds_of.result l.first c.width_of-width.result b l.invariant.1 c.width_of-width.ensures) c.put_axioms-place.ensures,
      omega (arith, c.width_of-width.ensures, l.invariant.1, first_more B l.x c.bounds_of.result h b),
    )

pub returns : goal.returns
returns g c = ended g.met.P.Part.is c.loop-x.invariant.0 (axioms-end (board_of c.args.opened.now) c.loop-x.x (omega (arith, c.ints-ints.ensures.ints)))
