-- The three places are those of the comparison, and the first tuple is theirs.
use Rattle.std.proofs.Common.{◌≡◌, ◌∙◌, sym, ap, subst, List, pos, nat_abs, arith, to_z, of_z, to_z-of_z}
use Rattle.std.proofs.lemmas.Int.{ints}
use Rattle.std.specs.Int.{w32}
use Rattle.std.specs.Int.Signed.{yes_non_neg, pos-nat_abs}
use Rattle.definitions.specs.Tools.{All}
use Rattle.walk.specs.declared.Place.{Place}
use Rattle.walk.specs.Walks.{above, Fine, Over}
use Rattle.walk.specs.Comparisons.{Walking}
use Rattle.walk.proofs.Starts.{start-end, places_fine, three-places, start-at}
use Rattle.walk.proofs.tuples.first_over.Goals as goal

pub returns-then-t-lt0 : goal.returns-then-t-lt0
returns-then-t-lt0 c = start-end c.args.c c.requires.0 (omega (arith, ints))

pub lowest-requires : goal.lowest-requires
lowest-requires c =
    let three = three-places c.args.c c.requires.0 c.place.result c.place-2.result c.place-3.result c.place.ensures c.place-2.ensures c.place-3.ensures in
    subst (All Fine) three (places_fine c.args.c c.requires.0)

pub returns : goal.returns
unfolding Walking
returns c =
    let three = three-places c.args.c c.requires.0 c.place.result c.place-2.result c.place-3.result c.place.ensures c.place-2.ensures c.place-3.ensures in
    let r = c.lowest.result in
    let l = c.args.t in
    let t = nat_abs (to_z w32 (of_z w32 l)) in
    let e : pos t ≡ l = ap (λ z. pos (nat_abs z)) (to_z-of_z c.ranges.t) ∙ pos-nat_abs l (yes_non_neg (omega (arith, ints))) in (
      subst (λ (ps : List Place). Over ps r) (sym three) c.lowest.ensures.0,
      start-at c.args.c c.requires.0 t r (e ∙ c.requires.1) (c.lowest.ensures.1 ∙ ap (λ ps. above ps t) (sym three)),
    )
