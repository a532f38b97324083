-- No clause twice (02, P4): of a comparison's clauses the first of equal ones stays, in the order of the first. Assumes nothing.
use Rattle.std.specs.Prelude.{Bool, true, false, not, ◌&&◌, List, [], ◌∷◌, ℕ, eqb, if◌then◌else◌}
use Rattle.definitions.specs.Tools.{eq_z}
use Rattle.definitions.specs.Board.{Bounds, Comparison}
use Rattle.definitions.specs.Encoding.{Atom, SatLiteral, SatClause, plus, minus, bool, order, selector, clauses_under}

module _ {A : Type 0} where
  -- the entries that pass a test
  abbrev pub keep : (A → Bool) → List A → List A
  keep f [] = []
  keep f (x ∷ xs) = if f x then x ∷ keep f xs else keep f xs

  -- of equal entries the first, `same` being the test of equality
  unfoldable pub once : (A → A → Bool) → List A → List A
  once same [] = []
  once same (x ∷ xs) = x ∷ keep (λ y. not (same x y)) (once same xs)

  -- lists equal entry by entry
  abbrev pub same_list : (A → A → Bool) → List A → List A → Bool
  same_list same [] [] = true
  same_list same [] (y ∷ ys) = false
  same_list same (x ∷ xs) [] = false
  same_list same (x ∷ xs) (y ∷ ys) = same x y && same_list same xs ys

-- ---- equal clauses: the same literals in the same order
abbrev pub same_atom : Atom → Atom → Bool
same_atom (bool i) (bool j) = eqb i j
same_atom (bool i) (order y d) = false
same_atom (bool i) (selector j) = false
same_atom (order x c) (bool j) = false
same_atom (order x c) (order y d) = eqb x y && eq_z c d
same_atom (order x c) (selector j) = false
same_atom (selector i) (bool j) = false
same_atom (selector i) (order y d) = false
same_atom (selector i) (selector j) = eqb i j

abbrev pub same_literal : SatLiteral → SatLiteral → Bool
same_literal (plus a) (plus b) = same_atom a b
same_literal (plus a) (minus b) = false
same_literal (minus a) (plus b) = false
same_literal (minus a) (minus b) = same_atom a b

abbrev pub same_clause : SatClause → SatClause → Bool
same_clause = same_list same_literal

-- ---- a comparison's clauses, each led by the same literals, none of them twice
unfoldable pub clauses_once : SatClause → (ℕ → Bounds) → Comparison → List SatClause
clauses_once lead of q = once same_clause (clauses_under lead of q)
