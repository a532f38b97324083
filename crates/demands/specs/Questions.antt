-- P9, a question 'x is at most h?': the board with that clause added, and what its solutions are. Assumes nothing.
use Rattle.std.specs.Prelude.{◌≡◌, ◌↔◌, ◌⊎◌, List, [], ◌∷◌, ◌++◌, ℕ, ℤ, ◌+ℤ◌, ◌*ℤ◌, ◌≤ℤ◌}
use Rattle.std.proofs.Common.{inl, inr}
use Rattle.std.proofs.Math.Dec.{T}
use Rattle.std.proofs.Math.ListN.{get_or}
use Rattle.std.proofs.Math.IntN.{pos}
use Rattle.std.specs.Int.Signed.{le_z}
use Rattle.definitions.specs.Tools.{Any}
use Rattle.definitions.specs.Board.{Clause, Board, at_most, bounds_of, variables}
use Rattle.definitions.specs.Meaning.{assigned, in_bounds, compares, holds, Solution}
use Rattle.laws.specs.Whole.{whole, add_law, mul_law}
use Rattle.laws.specs.Lists.{all_append, append-all}

-- the clause, and the board with it
abbrev pub says_at_most : ℕ → ℤ → Clause
says_at_most x h = at_most (record { terms = record { coef = pos 1; var = x } ∷ []; constant = h }) ∷ []

abbrev pub adding : Board → ℕ → ℤ → Board
adding B x h = record { bounds = B.bounds; bools = B.bools; clauses = B.clauses ++ (says_at_most x h ∷ []) }

pub record Solved (B : Board) : Type 0 where
  pub values : List ℤ
  pub bools : List ℕ
  pub solution : Solution B values bools

-- a solution with x at most h
pub record SolvedBy (B : Board) (x : ℕ) (h : ℤ) : Type 0 where
  pub values : List ℤ
  pub bools : List ℕ
  pub solution : Solution B values bools
  pub early : get_or values x (pos 0) ≤ℤ h

-- v is the least value of x over all solutions
pub record Least (B : Board) (x : ℕ) (v : ℤ) : Type 0 where
  pub values : List ℤ
  pub bools : List ℕ
  pub solution : Solution B values bools
  pub here : get_or values x (pos 0) ≡ v
  pub least : (values : List ℤ) (bools : List ℕ) → Solution B values bools → v ≤ℤ get_or values x (pos 0)

once : (v : ℤ) → (pos 1 *ℤ v) +ℤ pos 0 ≡ v
once v = omega (whole, mul_law (pos 1) v, add_law (pos 1 *ℤ v) (pos 0))

module _ (B : Board) (x : ℕ) (h : ℤ) where
  -- its solutions are the board's with x at most h
  pub added_means : (values : List ℤ) (bools : List ℕ) → Solution (adding B x h) values bools ↔ (Solution B values bools × (get_or values x (pos 0) ≤ℤ h))
  unfolding Solution assigned in_bounds bounds_of variables holds compares
  added_means values bools =
      let P : Clause → Type 0 = Any (λ l. T (holds (assigned values bools) l)) in
      let e = once (get_or values x (pos 0)) in (
        λ s. (let c = append-all P B.clauses (says_at_most x h ∷ []) s.4 in
            ((s.0, s.1, s.2, s.3, c.0), rw e at (said {t = (pos 1 *ℤ get_or values x (pos 0)) +ℤ pos 0} c.1.0))),
        λ s. (s.0.0, s.0.1, s.0.2, s.0.3, all_append P B.clauses (says_at_most x h ∷ []) s.0.4 (inl (rw e s.1.le), tt)),
      )
    where
      said : {t : ℤ} → T (le_z t h) ⊎ ⊥ → t ≤ℤ h
      said (inl k) = record { le = k }
      said (inr k) = absurd k

  pub a_question_means : Solved (adding B x h) ↔ SolvedBy B x h
  a_question_means = (
    λ s. (let k = (added_means s.values s.bools).0 s.solution in record { values = s.values; bools = s.bools; solution = k.0; early = k.1 }),
    λ s. record { values = s.values; bools = s.bools; solution = (added_means s.values s.bools).1 (s.solution, s.early) },
  )
