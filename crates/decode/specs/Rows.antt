-- The tests of a run's clauses. Assumes nothing.
use Rattle.std.specs.Prelude.{◌≡◌, refl, true, false, ◌||◌, List, ◌∷◌, [], ◌++◌, map, ℤ, Ok}
use Rattle.std.proofs.Common.{ap, ◌∙◌, arith}
use Prim.Native.Nat.{ℕ, zero, suc, ◌+◌, ◌<◌}
use Rattle.std.proofs.Math.ListN.{length}
use Rattle.definitions.specs.Tools.{All}
use Rattle.laws.specs.Some.{any_append}
use Rattle.laws.specs.Lists.{append-all}
use Rattle.laws.specs.Mentions.{InList}
use Rattle.walk.specs.declared.Run.{Run}
use Rattle.walk.specs.declared.Spot.{Spot}
use Rattle.walk.specs.Rows.{front_of, raised, lowered, row_from, in_run}
use Rattle.decode.specs.Truth.{true_number, true_tail}
use Rattle.decode.specs.Goes.{Sought}

-- no literal that stays holds: the others decide
pub fixed_open : (model : List ℕ) (fixed : List ℤ) → true_tail model fixed ≡ false → (ls : List ℤ) → true_tail model (fixed ++ ls) ≡ true_tail model ls
fixed_open model fixed h ls = any_append (true_number model) fixed ls ∙ ap (λ b. b || true_tail model ls) h

module _ (run : Run) where
  abbrev fixed : List ℤ
  fixed = front_of run.front

  -- one holds: so does each clause
  pub run-held : (model : List ℕ) → true_tail model fixed ≡ true → (i : ℕ) → Sought i (map (true_tail model) (in_run run)) (Ok (i + run.count))
  unfolding in_run row_from
  run-held model h i = go i run.y run.z run.count
    where
      go : (i : ℕ) (y z : Spot) (n : ℕ) → Sought i (map (true_tail model) (row_from fixed y z n)) (Ok (i + n))
      go i y z zero = (refl, refl)
      go i y z (suc n) =
          let k = go (suc i) (raised y) (lowered z) n in
          rw (any_append (true_number model) fixed (y.literal ∷ z.literal ∷ []), h) (k.0, omega (arith, k.1))

  -- they are numbered where all of the run are
  pub front_numbered : (m : ℕ) → 0 < length (in_run run) → All (All (InList m)) (in_run run) → All (InList m) fixed
  unfolding in_run row_from
  front_numbered m = go run.count
    where
      go : (n : ℕ) → 0 < length (row_from fixed run.y run.z n) → All (All (InList m)) (row_from fixed run.y run.z n) → All (InList m) fixed
      go zero h a = absurd (omega arith)
      go (suc n) h a = (append-all (InList m) fixed _ a.0).0
