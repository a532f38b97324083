-- From the shares of the rules and the widths of the variables to the sizes by kind, and to N, M and K. Assumes nothing.
use mathlib.Core.Path.{◌≡◌, refl, ap, ◌∙◌}
use mathlib.Core.List.{List, [], ◌∷◌, map}
use Prim.Native.Nat.{ℕ, suc, ◌+◌, ◌*◌, ◌-◌, ◌<◌, ◌^◌}
use native.Mathlib.Omega.{arith}
use lib.ListN.{length}
use lib.Seq.{take_all}
use Rattle.definitions.specs.Tools.{sum}
use Rattle.definitions.specs.Board.{Board, Bounds, bounds_of}
use Rattle.definitions.specs.Encoding.{width, first, selected, axioms, rules, places, N, M, K}
use Rattle.laws.specs.Reread.{Recorded}
use Rattle.laws.specs.Pieces.{pieces_from}
use Rattle.laws.specs.Sizes.{selectors-sum, axioms-clauses, axioms-length, rules-clauses, rules-length, K-sum}
use Rattle.laws.specs.Fits.{N_fits, M_fits, K_fits}
use Rattle.measure.specs.declared.Share.{Share}
use Rattle.measure.specs.declared.Kinds.{Kinds}
use Rattle.definitions.specs.declared.Sizes.{Sizes}
use Rattle.measure.specs.Said.{kinds_of, totals_of}
use Rattle.measure.specs.Shares.{Adding}

-- ---- the sums over the variables
counts_sum : (bs : List Bounds) → sum (map (λ b. width b + 1) bs) ≡ sum (map width bs) + length bs
counts_sum [] = refl
counts_sum (b ∷ bs) = omega (arith, counts_sum bs)

places-sum : (bs : List Bounds) → sum (map (λ b. 3 * width b + 1) bs) ≡ 3 * sum (map width bs) + length bs
places-sum [] = refl
places-sum (b ∷ bs) = omega (arith, places-sum bs)

module _ (B : Board) (g : Recorded B) (r : Share) (a : Adding (bounds_of B) (pieces_from 0 B.clauses) [] r) (f : ℕ) (k : f ≡ first B (length B.bounds)) where
  abbrev widths : ℕ
  widths = sum (map width B.bounds)

  pub first_is : f ≡ suc B.bools + widths
  unfolding first
  first_is = k ∙ ap (λ bs. suc B.bools + sum (map width bs)) (take_all (length B.bounds) B.bounds (omega arith))

  pub axioms_fit : 3 * (f - 1 - B.bools) + length B.bounds < 2 ^ 63
  axioms_fit = omega (arith, first_is, places-sum B.bounds, K-sum B g.admitted.bounds, K_fits B g)

  axioms_clauses_are : f - 1 - B.bools + length B.bounds ≡ sum (map length (axioms B))
  axioms_clauses_are = omega (arith, first_is, counts_sum B.bounds, axioms-clauses B g.admitted.bounds)

  axioms_places_are : 3 * (f - 1 - B.bools) + length B.bounds ≡ sum (map places (axioms B))
  axioms_places_are = omega (arith, first_is, places-sum B.bounds, axioms-length B g.admitted.bounds)

  pub kinds_are : ◌≡◌ {A = Kinds} (record {
    booleans = B.bools;
    orders = f - 1 - B.bools;
    selectors = r.selectors;
    axioms = record { clauses = f - 1 - B.bools + length B.bounds; places = 3 * (f - 1 - B.bools) + length B.bounds };
    rules = record { clauses = r.clauses; places = r.places };
  }) (kinds_of B)
  kinds_are =
      let orders : f - 1 - B.bools ≡ widths = omega (arith, first_is) in
      let selectors : r.selectors ≡ sum (map (λ C. length (selected C)) B.clauses) = omega (arith, a.selectors, selectors-sum B) in
      let rule-clauses : r.clauses ≡ sum (map length (rules B)) = omega (arith, a.clauses, rules-clauses B) in
      let rule-places : r.places ≡ sum (map places (rules B)) = omega (arith, a.places, rules-length B) in
      rw (axioms_clauses_are, axioms_places_are, orders, selectors, rule-clauses, rule-places)

-- ---- N, M and K
module _ (B : Board) (g : Recorded B) (k : Kinds) (e : k ≡ kinds_of B) where
  n_is : k.booleans + k.orders + k.selectors ≡ N B
  unfolding N
  n_is = ap (λ z. z.booleans + z.orders + z.selectors) e

  m_is : k.axioms.clauses + k.rules.clauses ≡ M B
  unfolding M
  m_is = ap (λ z. z.axioms.clauses + z.rules.clauses) e

  k_is : k.axioms.places + k.rules.places ≡ K B
  unfolding K
  k_is = ap (λ z. z.axioms.places + z.rules.places) e

  pub n_fits : k.booleans + k.orders + k.selectors < 2 ^ 63
  n_fits = omega (arith, n_is, N_fits B g.admitted)

  pub m_fits : k.axioms.clauses + k.rules.clauses < 2 ^ 63
  m_fits = omega (arith, m_is, M_fits B g)

  pub k_fits : k.axioms.places + k.rules.places < 2 ^ 63
  k_fits = omega (arith, k_is, K_fits B g)

  pub totals_are : ◌≡◌ {A = Sizes} (record { n = k.booleans + k.orders + k.selectors; m = k.axioms.clauses + k.rules.clauses; k = k.axioms.places + k.rules.places }) (totals_of B)
  totals_are = rw (n_is, m_is, k_is)
