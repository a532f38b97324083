-- The first entry that a search finds is the first whose test fails.
use Rattle.std.proofs.Common.{◌≡◌, if◌then◌else◌, ℕ, suc, Bool, true, false, not, cond, List, [], ◌∷◌, map, refl, ap, ◌∙◌, Option, Some, add-one}
use Rattle.std.specs.List.{position, position_from}
use Rattle.std.proofs.lemmas.Iterator.Adapters.{position_from-zero}
use Rattle.definitions.specs.Result.{Result, refused, each}
use Rattle.lent.specs.Said.{said_found}

module _ {A : Type 0} (n : ℕ) (test : A → Bool) where
  step : (b : Bool) (i : ℕ) (r : Option ℕ) (q : Result (Unit {0})) → said_found n r ≡ q
      → said_found n (cond (not b) (Some i) r) ≡ (if b then q else refused n i)
  step true i r q e = e
  step false i r q e = refl

  from : (i : ℕ) (l : List A) → said_found n (position_from (λ x. not (test x)) i l) ≡ each n i (map test l)
  from i [] = refl
  from i (x ∷ l) = step (test x) i _ _ (ap (λ k. said_found n (position_from (λ x. not (test x)) k l)) (add-one i) ∙ from (suc i) l)

  pub found_is_each : (l : List A) → said_found n (position (λ x. not (test x)) l) ≡ each n 0 (map test l)
  found_is_each l = ap (said_found n) (position_from-zero (λ x. not (test x)) l) ∙ from 0 l
