use Rattle.std.proofs.Common.{◌++◌, ap, arith, length, length-append, sym, ◌∙◌}
use Rattle.walk.specs.Comparisons.{to_come}
use Rattle.walk.specs.Rows.{in_row, row_clauses, row_some}
use Rattle.writing.specs.Parts.{begin, first_room, on, ended}
use Rattle.writing.specs.Numbers.{led}
use Rattle.writing.proofs.Leads.{led-end, led_on}
use Rattle.writing.proofs.comparisons.put_tuples.Goals as goal

pub loop-tuple-init : goal.loop-tuple-init
loop-tuple-init g c =
    (begin g.met.P.Part.is c.args.at c.args.part.now (ap (led c.args.lead) c.first_over-tuple.ensures.1) c.requires.2, c.first_over-tuple.ensures.0)

pub put_row-place-requires : goal.put_row-place-requires
put_row-place-requires g c =
    let l = c.loop-tuple in
    let rest = to_come c.args.c c.after_row-onward.result in
    (c.row_at.ensures.0, first_room g.met.P.Part.is l.invariant.0 _ _ (led_on c.args.c c.args.lead l.tuple c.in-Some.w c.in-Some.is (in_row c.row_at.result) rest (c.after_row-onward.ensures.1 ∙ ap (λ r. r ++ rest) (sym c.row_at.ensures.1))))

pub loop-tuple-smaller : goal.loop-tuple-smaller
loop-tuple-smaller g c =
    let q = c.args.c in
    let w = c.in-Some.w in
    omega (arith, ap (λ z. length (to_come q z)) c.in-Some.is, ap length c.after_row-onward.ensures.1, length-append (row_clauses q w) (to_come q c.after_row-onward.result), row_some q w)

pub loop-tuple-preserved : goal.loop-tuple-preserved
loop-tuple-preserved g c =
    let l = c.loop-tuple in
    let rest = to_come c.args.c c.after_row-onward.result in
    (on g.met.P.Part.is l.invariant.0 _ _ (led_on c.args.c c.args.lead l.tuple c.in-Some.w c.in-Some.is (in_row c.row_at.result) rest (c.after_row-onward.ensures.1 ∙ ap (λ r. r ++ rest) (sym c.row_at.ensures.1))) c.put_row-place.ensures, c.after_row-onward.ensures.0)

pub returns : goal.returns
returns g c = ended g.met.P.Part.is c.loop-tuple.invariant.0 (led-end c.args.c c.args.lead c.loop-tuple.tuple c.in_default.is)
