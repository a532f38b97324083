-- Clauses written once, by computation: case 6 of 01, bounds that do not rise, equal clauses that are no neighbours, and the edges.
use Rattle.std.specs.Prelude.{◌≡◌, refl, List, [], ◌∷◌, ℕ, zero, suc, length, ℤ, pos, negsuc}
use Rattle.definitions.specs.Tools.{All}
use Rattle.definitions.specs.Board.{Bounds, Comparison}
use Rattle.definitions.specs.Encoding.{SatClause, SatLiteral, plus, minus, order, selector, clauses_under}
use Rattle.definitions.specs.Open.{all_open}
use Rattle.next.specs.Once.{once, clauses_once}

-- a comparison under its leading literals, how many clauses it has, and those that are kept
pub record Row : Type 0 where
  pub lead : SatClause
  pub bounds : ℕ → Bounds
  pub comparison : Comparison
  pub all : ℕ
  pub kept : List SatClause

abbrev pub Holds : Row → Type 0
Holds r = (length (clauses_under r.lead r.bounds r.comparison) ≡ r.all) × (clauses_once r.lead r.bounds r.comparison ≡ r.kept)

-- x is from 0 to m, every other variable from 0 to n
abbrev to : ℕ → ℕ → ℕ → Bounds
to m n zero = record { lo = pos 0; hi = pos m }
to m n (suc x) = record { lo = pos 0; hi = pos n }

-- a x + b y ≤ k, and with c z
abbrev two : ℤ → ℤ → ℤ → Comparison
two a b k = record { terms = record { coef = a; var = 0 } ∷ record { coef = b; var = 1 } ∷ []; constant = k }

abbrev three : ℤ → ℤ → ℤ → ℤ → Comparison
three a b c k = record { terms = record { coef = a; var = 0 } ∷ record { coef = b; var = 1 } ∷ record { coef = c; var = 2 } ∷ []; constant = k }

abbrev -1 : ℤ
-1 = negsuc 0

abbrev x : ℤ → SatLiteral
x c = plus (order 0 c)

abbrev y : ℤ → SatLiteral
y c = plus (order 1 c)

abbrev z : ℤ → SatLiteral
z c = plus (order 2 c)

abbrev not-y : ℤ → SatLiteral
not-y c = minus (order 1 c)

abbrev not-s : SatLiteral
not-s = minus (selector 0)

abbrev pub table : List Row
table =
    record {
      lead = [];
      bounds = to 3 3;
      comparison = two (pos 2) (pos 2) (pos 4);
      all = 6;
      kept = (x -1 ∷ y (pos 2) ∷ []) ∷ (x (pos 0) ∷ y (pos 1) ∷ []) ∷ (x (pos 1) ∷ y (pos 0) ∷ []) ∷ (x (pos 2) ∷ y -1 ∷ []) ∷ [];
    }
    ∷ record {
      lead = not-s ∷ [];
      bounds = to 2 3;
      comparison = two (pos 3) (pos 2) (pos 5);
      all = 7;
      kept = (not-s ∷ x -1 ∷ y (pos 2) ∷ []) ∷ (not-s ∷ x (pos 0) ∷ y (pos 2) ∷ []) ∷ (not-s ∷ x (pos 0) ∷ y (pos 1) ∷ []) ∷
          (not-s ∷ x (pos 1) ∷ y (pos 0) ∷ []) ∷ (not-s ∷ x (pos 1) ∷ y -1 ∷ []) ∷ [];
    }
    ∷ record {
      lead = [];
      bounds = to 1 1;
      comparison = two (pos 2) (negsuc 1) (pos 0);
      all = 4;
      kept = (x -1 ∷ not-y -1 ∷ []) ∷ (x (pos 0) ∷ not-y (pos 0) ∷ []) ∷ (x (pos 1) ∷ not-y (pos 1) ∷ []) ∷ [];
    }
    ∷ record {
      lead = [];
      bounds = to 1 1;
      comparison = three (pos 2) (pos 2) (pos 2) (pos 2);
      all = 10;
      kept = (x -1 ∷ y -1 ∷ z (pos 1) ∷ []) ∷ (x -1 ∷ y (pos 0) ∷ z (pos 0) ∷ []) ∷ (x -1 ∷ y (pos 1) ∷ z -1 ∷ []) ∷
          (x (pos 0) ∷ y -1 ∷ z (pos 0) ∷ []) ∷ (x (pos 0) ∷ y (pos 0) ∷ z (pos 0) ∷ []) ∷ (x (pos 0) ∷ y (pos 0) ∷ z -1 ∷ []) ∷
          (x (pos 1) ∷ y -1 ∷ z -1 ∷ []) ∷ [];
    }
    ∷ record { lead = not-s ∷ []; bounds = to 3 3; comparison = two (pos 2) (pos 2) -1; all = 1; kept = (not-s ∷ []) ∷ [] }
    ∷ record { lead = []; bounds = to 3 3; comparison = two (pos 2) (pos 2) (pos 14); all = 0; kept = [] }
    ∷ []

pub rows_hold : All Holds table
unfolding all_open once clauses_once
rows_hold = ((refl, refl), ((refl, refl), ((refl, refl), ((refl, refl), ((refl, refl), ((refl, refl), tt))))))
