use Rattle.std.proofs.Common.{sym, ap, subst, arith, to_z-of_z, ◌+◌, ◌∙◌}
use Rattle.laws.specs.Boards.{board_of}
use Rattle.laws.specs.Fits.{good-constant}
use Rattle.laws.specs.Reread.{comparison_at}
use Rattle.laws.specs.Signs.{minus_fits}
use Rattle.rules.specs.Cursors.{said_piece}
use Rattle.opening.specs.Headers.{tail_of}
use Rattle.compile.specs.Lists.{piece_numbers}
use Rattle.compile.proofs.Passes.{line-numbers, lone-numbers, led-words, line_read, held_at, few_at}
use Rattle.compile.proofs.pieces.put_piece.Goals as goal

pub overflow_add-selectors : goal.overflow_add-selectors
overflow_add-selectors g c =
    let n = c.selectors-selectors.ensures in
    omega (arith, few_at _ c.in-Line.is n.opens n.number c.requires.1)

pub put_line-requires : goal.put_line-requires
put_line-requires g c =
    let B = board_of c.args.numbered.now in
    let n = c.selectors-selectors.ensures in
    let e = c.in-Line.is in
    let r = rw c.record.ensures.bytes at c.rules-rules.ensures.rules in
    rw r (
      line_read _ n.opens (held_at _ _ e c.requires.0),
      omega (arith, few_at _ e n.opens n.number c.requires.1),
      subst (g.P.Part.room c.args.part.now c.args.at) (ap (λ p. piece_numbers B (said_piece (tail_of c.args.numbered.now) p)) e ∙ sym (line-numbers B c.selectors-selectors.result n.number _ _)) c.requires.2,
    )

pub ready-c-requires : goal.ready-c-requires
ready-c-requires g c =
    let t = rw c.record.ensures.bytes at c.rules-rules.ensures.rules in
    let h = held_at _ _ c.in-Lone.is c.requires.0 in
    rw (t, to_z-of_z (good-constant h.good)) h

pub put_comparison-requires : goal.put_comparison-requires
put_comparison-requires g c =
    let B = board_of c.args.numbered.now in
    let t = rw c.record.ensures.bytes at c.rules-rules.ensures.rules in
    let e = c.in-Lone.is in
    let h = held_at _ _ e c.requires.0 in
    let r = rw (t, to_z-of_z (good-constant h.good)) at c.ready-c.ensures.ready in
    (r.fair, subst (g.P.Part.room c.args.part.now c.args.at) (ap (λ p. piece_numbers B (said_piece (tail_of c.args.numbered.now) p)) e ∙ sym (lone-numbers B (comparison_at (tail_of c.args.numbered.now) c.in-Lone.place c.in-Lone.constant) c.ready-c.result r.shows)) c.requires.2)

pub overflow_add-number : goal.overflow_add-number
overflow_add-number g c =
    let n = c.selectors-selectors.ensures in
    omega (arith, few_at _ c.in-Led.is n.opens n.number c.requires.1)

pub overflow_cast-negated : goal.overflow_cast-negated
overflow_cast-negated g c =
    let n = c.selectors-selectors.ensures in
    omega (arith, few_at _ c.in-Led.is n.opens n.number c.requires.1)

pub overflow_sub-negated : goal.overflow_sub-negated
overflow_sub-negated g c =
    let n = c.selectors-selectors.ensures in
    minus_fits (c.selectors-selectors.result + c.in-Led.selector) (omega (arith, few_at _ c.in-Led.is n.opens n.number c.requires.1))

pub ready-c-requires-in-Led : goal.ready-c-requires-in-Led
ready-c-requires-in-Led g c =
    let t = rw c.record.ensures.bytes at c.rules-rules.ensures.rules in
    let h = held_at _ _ c.in-Led.is c.requires.0 in
    rw (t, to_z-of_z (good-constant h.good)) h

pub put_comparison-requires-in-Led : goal.put_comparison-requires-in-Led
put_comparison-requires-in-Led g c =
    let B = board_of c.args.numbered.now in
    let t = rw c.record.ensures.bytes at c.rules-rules.ensures.rules in
    let n = c.selectors-selectors.ensures in
    let e = c.in-Led.is in
    let h = held_at _ _ e c.requires.0 in
    let r = rw (t, to_z-of_z (good-constant h.good)) at c.ready-c-in-Led.ensures.ready in
    let f = few_at _ e n.opens n.number c.requires.1 in
    (r.fair, subst (g.P.Part.room c.args.part.now c.args.at) (ap (λ p. piece_numbers B (said_piece (tail_of c.args.numbered.now) p)) e ∙ sym (led-words B c.selectors-selectors.result n.number c.in-Led.selector (comparison_at (tail_of c.args.numbered.now) c.in-Led.place c.in-Led.constant) c.ready-c-in-Led.result r.shows f)) c.requires.2)

pub returns-in-Line : goal.returns-in-Line
returns-in-Line g c =
    let B = board_of c.args.numbered.now in
    let n = c.selectors-selectors.ensures in
    let r = rw c.record.ensures.bytes at c.rules-rules.ensures.rules in
    let w = rw r at c.put_line.ensures in
    subst (λ l. g.P.Part.adds l c.args.at c.args.part.now c.put_line.result c.put_line.new.part)
    (line-numbers B c.selectors-selectors.result n.number _ _ ∙ ap (λ p. piece_numbers B (said_piece (tail_of c.args.numbered.now) p)) (sym c.in-Line.is))
    w

pub returns-in-Lone : goal.returns-in-Lone
returns-in-Lone g c =
    let B = board_of c.args.numbered.now in
    let t = rw c.record.ensures.bytes at c.rules-rules.ensures.rules in
    let e = c.in-Lone.is in
    let h = held_at _ _ e c.requires.0 in
    let r = rw (t, to_z-of_z (good-constant h.good)) at c.ready-c.ensures.ready in
    subst (λ l. g.P.Part.adds l c.args.at c.args.part.now c.put_comparison.result c.put_comparison.new.part)
    (lone-numbers B (comparison_at (tail_of c.args.numbered.now) c.in-Lone.place c.in-Lone.constant) c.ready-c.result r.shows ∙ ap (λ p. piece_numbers B (said_piece (tail_of c.args.numbered.now) p)) (sym e))
    c.put_comparison.ensures

pub returns-in-Led : goal.returns-in-Led
returns-in-Led g c =
    let B = board_of c.args.numbered.now in
    let t = rw c.record.ensures.bytes at c.rules-rules.ensures.rules in
    let n = c.selectors-selectors.ensures in
    let e = c.in-Led.is in
    let h = held_at _ _ e c.requires.0 in
    let r = rw (t, to_z-of_z (good-constant h.good)) at c.ready-c-in-Led.ensures.ready in
    let f = few_at _ e n.opens n.number c.requires.1 in
    subst (λ l. g.P.Part.adds l c.args.at c.args.part.now c.put_comparison-in-Led.result c.put_comparison-in-Led.new.part)
    (led-words B c.selectors-selectors.result n.number c.in-Led.selector (comparison_at (tail_of c.args.numbered.now) c.in-Led.place c.in-Led.constant) c.ready-c-in-Led.result r.shows f ∙ ap (λ p. piece_numbers B (said_piece (tail_of c.args.numbered.now) p)) (sym e))
    c.put_comparison-in-Led.ensures
