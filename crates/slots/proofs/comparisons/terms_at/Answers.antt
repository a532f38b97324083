-- A turn puts the next term behind those that are there.
use Rattle.std.proofs.Common.{◌≡◌, ◌∙◌, sym, ℕ, ◌+◌, ◌*◌, ◌<◌, List, map, length, take, set, arith}
use Rattle.std.proofs.Math.ListN.{length-map, length-set}
use Rattle.definitions.specs.Reading.{big}
use Rattle.laws.specs.Reread.{term_at, terms_at}
use Rattle.slots.specs.declared.Term.{Term}
use Rattle.slots.specs.Terms.{term_read, terms_count, terms_at_lem}
use Rattle.slots.proofs.Arrays.{map-set, filled_more, filled-all}
use Rattle.slots.proofs.comparisons.terms_at.Goals as goal

stored : (s : List ℕ) (place : ℕ) (terms : List Term) (i : ℕ) (t : Term) → i < length terms → i < big s place 1
    → take i (map term_read terms) ≡ take i (terms_at s place) → term_read t ≡ term_at s (place + 1 + 3 * i)
    → take (i + 1) (map term_read (set terms i t)) ≡ take (i + 1) (terms_at s place)
stored s place terms i t h k e et =
    let d = term_read t in
    rw map-set (filled_more (map term_read terms) (terms_at s place) i e d d (rw length-map h) (rw terms_count k) (et ∙ sym (terms_at_lem s place i d k)))

pub loop-i-preserved : goal.loop-i-preserved
loop-i-preserved c =
    let few : c.loop-i.i < 3 = omega arith in
    let there : c.loop-i.i < big c.args.rules.now c.args.place 1 = omega arith in
    (rw length-set c.loop-i.invariant.0, stored _ _ c.loop-i.terms c.loop-i.i c.term_at.result (omega arith) there c.loop-i.invariant.1 c.term_at.ensures)

pub returns : goal.returns
returns c =
    let e : c.loop-i.i ≡ c.unchecked-n.result = omega arith in
    let n = c.unchecked-n.ensures ∙ sym (terms_count c.args.rules.now c.args.place) in
    record { counted = n; terms = rw (← e) (filled-all _ _ _ c.loop-i.invariant.1 (e ∙ n)) }
