-- Whether a literal holds in a model, told by its number. Assumes nothing.
use Rattle.std.specs.Prelude.{◌≡◌, Bool, ◌||◌, List, [], ◌∷◌, map, length, ℤ, pos, negsuc, nat_abs, ◌≤ℤ◌, ◌<ℤ◌}
use Rattle.std.proofs.Math.Path.{refl}
use Rattle.std.proofs.Common.{ap₂, arith}
use Rattle.std.proofs.Math.Bool.{not}
use Prim.Native.Nat.{ℕ, zero, suc, ◌+◌, ◌≤◌}
use Rattle.definitions.specs.Tools.{All, any, neg}
use Rattle.definitions.specs.Board.{Board}
use Rattle.definitions.specs.Encoding.{SatLiteral, SatClause, plus, minus, first, number, literal_number}
use Rattle.definitions.specs.Meaning.{on, satisfies, in_model}
use Rattle.laws.specs.Whole.{whole}
use Rattle.laws.specs.Mentions.{atom_of}

-- the number of the selector j
abbrev pub selector_number : Board → ℕ → ℕ
selector_number B j = first B (length B.bounds) + j

abbrev pub true_number : List ℕ → ℤ → Bool
true_number model (pos v) = on model v
true_number model (negsuc v) = not (on model (suc v))

module _ (model : List ℕ) where
  pub true_above : (z : ℤ) → pos 0 ≤ℤ z → true_number model z ≡ on model (nat_abs z)
  true_above (pos v) h = refl
  true_above (negsuc v) h = absurd (omega whole)

  pub true_below : (z : ℤ) → z <ℤ pos 0 → true_number model z ≡ not (on model (nat_abs z))
  true_below (pos v) h = absurd (omega whole)
  true_below (negsuc v) h = refl

-- whether some literal behind a lead holds
abbrev pub true_tail : List ℕ → List ℤ → Bool
true_tail model zs = any (true_number model) zs

-- its number is from 1 on
abbrev pub Numbered : Board → SatLiteral → Type 0
Numbered B l = 1 ≤ number B (atom_of l)

module _ (B : Board) (model : List ℕ) where
  abbrev pub true_clause : SatClause → Bool
  true_clause c = any (satisfies (in_model B model)) c

  -- the tests of clauses
  abbrev pub tests : List SatClause → List Bool
  tests cs = map true_clause cs

  pub literal_true : (l : SatLiteral) → Numbered B l → satisfies (in_model B model) l ≡ true_number model (literal_number B l)
  unfolding satisfies in_model literal_number
  literal_true (plus a) h = refl
  literal_true (minus a) h = go (number B a) h
    where
      go : (v : ℕ) → 1 ≤ v → not (on model v) ≡ true_number model (neg v)
      go zero h = absurd (omega arith)
      go (suc v) h = refl

  pub clause_true : (c : SatClause) → All (Numbered B) c → true_clause c ≡ any (true_number model) (map (literal_number B) c)
  clause_true [] h = refl
  clause_true (l ∷ c) h = ap₂ ◌||◌ (literal_true l h.0) (clause_true c h.1)
