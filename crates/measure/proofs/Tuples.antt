-- A comparison's tuples are counted by the formula, and its numbers are small. Assumes nothing.
use mathlib.Core.Path.{◌≡◌, refl, ap, ◌∙◌}
use mathlib.Core.List.{map}
use Prim.Native.Nat.{ℕ, ◌+◌, ◌-◌, ◌≤◌, ◌<◌, ◌^◌}
use native.Mathlib.Omega.{arith}
use lib.ListN.{length, get_or}
use lib.IntN.{pos, nat_abs, ◌-ℤ◌}
use lib.Signed.{◌≤ℤ◌}
use Rattle.definitions.specs.Tools.{size}
use Rattle.laws.specs.Whole.{whole, abs_add, abs_sub, part_law}
use Rattle.laws.specs.Lists.{all-at}
use Rattle.laws.specs.Offsets.{offsets}
use Rattle.laws.specs.Tuples.{no_term}
use Rattle.laws.specs.Counting.{triples, ways-three}
use Rattle.walk.specs.declared.Comparison.{Comparison}
use Rattle.walk.specs.Walks.{Fine}
use Rattle.walk.specs.Comparisons.{FairComparison, least_of, over_least, literals_of, padded_ranges, placed}
use Rattle.walk.proofs.Sums.{least_near, least-all}
use Rattle.walk.proofs.Padding.{padded_length}
use Rattle.walk.proofs.Starts.{ranges_fine, three-places, start-count}
use Rattle.measure.specs.Places.{over, wide}

pub wide_some : (c : Comparison) (j : ℕ) → 0 < wide c j
unfolding wide
wide_some c j = omega arith

pub over_some : (c : Comparison) → 0 < over c
unfolding over
over_some c = omega arith

module _ (c : Comparison) (f : FairComparison c) where
  pub wide-small : (j : ℕ) → j < 3 → wide c j < 2 ^ 21
  unfolding wide
  wide-small j h =
      omega (arith, (all-at (λ r. Fine (placed r)) no_term (padded_ranges c) (ranges_fine c f) j (omega (arith, padded_length c f))).narrow)

  pub wide_is : (j w : ℕ) → w ≡ (placed (get_or (padded_ranges c) j no_term)).w → w + 1 ≡ wide c j
  unfolding wide
  wide_is j w e = omega arith

  module _ (h : pos 0 ≤ℤ over_least c) where
    least_near_zero : nat_abs (least_of c) ≤ 786438
    least_near_zero = omega (arith, ap nat_abs (least-all c f), least_near c f c.n (omega arith), f.few)

    pub over_near : nat_abs (over_least c) < 2 ^ 21 - 1
    unfolding over_least
    over_near =
        let k = c.constant in
        let l = least_of c in
        omega (arith, f.near, least_near_zero, abs_add (k -ℤ l) (pos 1), abs_sub k l)

    pub over_is : (t : ℕ) → pos t ≡ over_least c → t + 1 ≡ over c
    unfolding over
    over_is t e = omega (arith, ap size e)

    pub tuples_are : length (literals_of c) ≡ triples (over c) (wide c 0) (wide c 1) (wide c 2)
    unfolding over wide
    tuples_are =
        let t = size (over_least c) in
        let e : pos t ≡ over_least c = omega (whole, h, part_law (over_least c)) in
        start-count c f t e
        ∙ ap (λ ps. length (offsets (map (λ p. p.w) ps) t)) (three-places c f _ _ _ refl refl refl)
        ∙ ways-three _ _ _ t
