-- `judge::literals::compares` meets its contract.
use Rattle.std.proofs.Common.{◌≡◌, ℕ, ◌<◌, List, length, get_or, take, ap, ◌∙◌, arith, rules, w32, SFits, to_z-of_z, get_or-take, length-take}
use Rattle.std.proofs.Math.ListN.{length-map}
use Rattle.definitions.specs.Tools.{All}
use Rattle.definitions.specs.Board as board
use Rattle.definitions.specs.Meaning.{assigned, compares}
use Rattle.laws.specs.Admitted.{GoodTerm}
use Rattle.slots.specs.declared.Term.{Term}
use Rattle.slots.specs.declared.Terms.{Terms}
use Rattle.slots.specs.Terms.{TermsOf, term_read, term_of, term-good}
use Rattle.judge.specs.Suited.{product}
use Rattle.judge.proofs.Sums.{sum_start, sum_end, total_fits, sum_more}
use Rattle.judge.proofs.literals.compares.Goals as goal

-- the terms that the loop comes to
module _ (ts : List board.Term) (r : Terms) (h : TermsOf ts r) where
  come_all : length (take r.n r.terms) ≡ length ts
  come_all = length-take r.n r.terms ∙ simp (length-take, length-map) at (ap length h.terms)

  module _ (i : ℕ) (d : Term) (l : i < length (take r.n r.terms)) where
    here : i < r.n
    here = omega (arith, come_all, h.counted)

    come : term_read (get_or (take r.n r.terms) i d) ≡ get_or ts i (term_read d)
    come = ap term_read (get_or-take r.n r.terms i d here) ∙ term_of ts r i d h here

    come-good : (ints : ℕ) → All (GoodTerm ints) ts → GoodTerm ints (term_read (get_or (take r.n r.terms) i d))
    come-good ints g = rw (get_or-take r.n r.terms i d here) (term-good ints ts r i d h g here)

pub loop-term-init : goal.loop-term-init
loop-term-init c = sum_start _ _

pub value_of-sum-requires : goal.value_of-sum-requires
value_of-sum-requires c = (c.requires.0, come-good _ _ c.terms_at-read.ensures _ _ c.loop-term-test.true _ c.requires.1.good.terms)

pub overflow_add-sum : goal.overflow_add-sum
overflow_add-sum c =
    let f : SFits w32 c.value_of-sum.result = search rules in
    let e = c.value_of-sum.ensures ∙ ap (product c.args.values.now) (come _ _ c.terms_at-read.ensures _ _ c.loop-term-test.true) in
    let g = c.requires.1.good in
    rw (to_z-of_z f) (total_fits _ c.requires.0 _ g.few g.terms _ _ _ (omega (arith, come_all _ _ c.terms_at-read.ensures)) c.loop-term.invariant _ e)

pub loop-term-preserved : goal.loop-term-preserved
loop-term-preserved c =
    let f : SFits w32 c.value_of-sum.result = search rules in
    let e = c.value_of-sum.ensures ∙ ap (product c.args.values.now) (come _ _ c.terms_at-read.ensures _ _ c.loop-term-test.true) in
    let g = c.requires.1.good in
    rw (to_z-of_z f, to_z-of_z (total_fits _ c.requires.0 _ g.few g.terms _ _ _ (omega (arith, come_all _ _ c.terms_at-read.ensures)) c.loop-term.invariant _ e))
    (sum_more _ c.requires.0 _ g.few g.terms _ _ _ (omega (arith, come_all _ _ c.terms_at-read.ensures)) c.loop-term.invariant _ e)

pub returns : goal.returns
unfolding compares assigned
returns c =
    let e = sum_end _ _ _ _ (omega (arith, come_all _ _ c.terms_at-read.ensures)) c.loop-term.invariant in
    rw (to_z-of_z c.ranges.constant, e)
