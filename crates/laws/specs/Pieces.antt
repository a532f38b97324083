-- The rules' clauses in pieces: a clause's line, and each comparison's clauses under their lead. Assumes nothing.
use Rattle.std.specs.Prelude.{◌≡◌, Bool, true, false, not, ℕ, suc, ◌+◌}
use Rattle.std.proofs.Math.Path.{refl, sym, ap, ap₂}
use Rattle.std.proofs.Common.{◌∙◌, add-zero, arith}
use mathlib.Core.List.{List, [], ◌∷◌, ◌++◌, map, flatten, zip_with, append-nil, append_assoc, map-append, map-map}
use Rattle.std.proofs.Math.ListN.{length}
use Rattle.definitions.specs.Tools.{count_up, sum}
use Rattle.definitions.specs.Board.{Bounds, Comparison, Literal, Clause, is_true, is_false, at_most}
use Rattle.definitions.specs.Encoding.{SatClause, bool, selector, plus, minus, clauses_under, comparisons, selected, clauses_of, rules_from, places}
use Rattle.definitions.specs.Encoding as encoding
use Rattle.laws.specs.Lists.{flatten-append, length-flatten, sum-flatten}

-- the line of literals whose first selector is j
unfoldable pub line_from : ℕ → Clause → SatClause
line_from j [] = []
line_from j (is_true b ∷ C) = plus (bool b) ∷ line_from j C
line_from j (is_false b ∷ C) = minus (bool b) ∷ line_from j C
line_from j (at_most q ∷ C) = plus (selector j) ∷ line_from (suc j) C

pub line-length : (j : ℕ) (C : Clause) → length (line_from j C) ≡ length C
unfolding line_from
line-length j [] = refl
line-length j (is_true b ∷ C) = ap suc (line-length j C)
line-length j (is_false b ∷ C) = ap suc (line-length j C)
line-length j (at_most q ∷ C) = ap suc (line-length (suc j) C)

-- a clause of the record and its line's first selector, or a comparison under its lead
pub data Piece : Type 0 where
  line : ℕ → Clause → Piece
  under : SatClause → Comparison → Piece

unfoldable pub piece_clauses : (ℕ → Bounds) → Piece → List SatClause
piece_clauses of (line j C) = line_from j C ∷ []
piece_clauses of (under lead q) = clauses_under lead of q

-- comparisons, each under its negated selector, of which the first is j; or under nothing
unfoldable pub compared : Bool → ℕ → List Comparison → List Piece
compared led j [] = []
compared true j (q ∷ qs) = under (minus (selector j) ∷ []) q ∷ compared true (suc j) qs
compared false j (q ∷ qs) = under [] q ∷ compared false j qs

-- how many selectors n comparisons take
abbrev pub used : Bool → ℕ → ℕ
used true n = n
used false n = 0

-- a comparison that is its clause's only literal: it has no selector and its clause no line
unfoldable pub lone : Clause → Bool
lone [] = false
lone (is_true b ∷ C) = false
lone (is_false b ∷ C) = false
lone (at_most q ∷ []) = true
lone (at_most q ∷ l ∷ C) = false

abbrev pub opening : Bool → ℕ → Clause → List Piece
opening true j C = []
opening false j C = line j C ∷ []

unfoldable pub pieces_from : ℕ → List Clause → List Piece
pieces_from j [] = []
pieces_from j (C ∷ Cs) =
    opening (lone C) j C ++
    (compared (not (lone C)) j (comparisons C) ++ pieces_from (j + used (not (lone C)) (length (comparisons C))) Cs)

-- what is left of the rules within a clause: literals L, of which the comparisons have selectors from j or none, then clauses
unfoldable pub remaining : Bool → ℕ → Clause → List Clause → List Piece
remaining led j L Cs = compared led j (comparisons L) ++ pieces_from (j + used led (length (comparisons L))) Cs

abbrev pub clauses_in : (ℕ → Bounds) → List Piece → List SatClause
clauses_in of ps = flatten (map (piece_clauses of) ps)

-- ---- a step within a clause, to the next clause, and the end
pub remaining_bool : (led : Bool) (j b : ℕ) (L : Clause) (Cs : List Clause) → remaining led j (is_true b ∷ L) Cs ≡ remaining led j L Cs
unfolding remaining comparisons
remaining_bool led j b L Cs = refl

pub remaining_negated : (led : Bool) (j b : ℕ) (L : Clause) (Cs : List Clause) → remaining led j (is_false b ∷ L) Cs ≡ remaining led j L Cs
unfolding remaining comparisons
remaining_negated led j b L Cs = refl

pub remaining-selected : (j : ℕ) (q : Comparison) (L : Clause) (Cs : List Clause)
    → remaining true j (at_most q ∷ L) Cs ≡ under (minus (selector j) ∷ []) q ∷ remaining true (suc j) L Cs
unfolding remaining comparisons compared
remaining-selected j q L Cs =
    let e : j + suc (length (comparisons L)) ≡ suc j + length (comparisons L) = omega arith in
    ap (λ n. under (minus (selector j) ∷ []) q ∷ (compared true (suc j) (comparisons L) ++ pieces_from n Cs)) e

pub remaining-lone : (j : ℕ) (q : Comparison) (L : Clause) (Cs : List Clause) → remaining false j (at_most q ∷ L) Cs ≡ under [] q ∷ remaining false j L Cs
unfolding remaining comparisons compared
remaining-lone j q L Cs = refl

pub remaining-clause : (led : Bool) (j : ℕ) (C : Clause) (Cs : List Clause)
    → remaining led j [] (C ∷ Cs) ≡ opening (lone C) j C ++ remaining (not (lone C)) j C Cs
unfolding remaining comparisons compared pieces_from
remaining-clause true j C Cs = ap (λ n. pieces_from n (C ∷ Cs)) (add-zero j)
remaining-clause false j C Cs = ap (λ n. pieces_from n (C ∷ Cs)) (add-zero j)

pub remaining_none : (led : Bool) (j : ℕ) → remaining led j [] [] ≡ []
unfolding remaining comparisons compared pieces_from
remaining_none led j = refl

pub remaining-start : (led : Bool) (Cs : List Clause) → remaining led 0 [] Cs ≡ pieces_from 0 Cs
unfolding remaining comparisons compared
remaining-start true Cs = refl
remaining-start false Cs = refl

-- ---- the record's clauses: each has a line, or is a lone comparison
unfoldable pub clauses_recorded : List Piece → List Clause
clauses_recorded [] = []
clauses_recorded (line j C ∷ ps) = C ∷ clauses_recorded ps
clauses_recorded (under [] q ∷ ps) = (at_most q ∷ []) ∷ clauses_recorded ps
clauses_recorded (under (l ∷ lead) q ∷ ps) = clauses_recorded ps

recorded_led : (j : ℕ) (qs : List Comparison) (ps : List Piece) → clauses_recorded (compared true j qs ++ ps) ≡ clauses_recorded ps
unfolding clauses_recorded compared
recorded_led j [] ps = refl
recorded_led j (q ∷ qs) ps = recorded_led (suc j) qs ps

recorded_clause : (j : ℕ) (C : Clause) (ps : List Piece) → clauses_recorded (opening (lone C) j C ++ (compared (not (lone C)) j (comparisons C) ++ ps)) ≡ C ∷ clauses_recorded ps
unfolding clauses_recorded compared lone comparisons
recorded_clause j [] ps = refl
recorded_clause j (is_true b ∷ C) ps = ap (λ Cs. (is_true b ∷ C) ∷ Cs) (recorded_led j (comparisons C) ps)
recorded_clause j (is_false b ∷ C) ps = ap (λ Cs. (is_false b ∷ C) ∷ Cs) (recorded_led j (comparisons C) ps)
recorded_clause j (at_most q ∷ []) ps = refl
recorded_clause j (at_most q ∷ l ∷ C) ps = ap (λ Cs. (at_most q ∷ l ∷ C) ∷ Cs) (recorded_led (suc j) (comparisons (l ∷ C)) ps)

pub recorded_all : (j : ℕ) (Cs : List Clause) → clauses_recorded (pieces_from j Cs) ≡ Cs
unfolding clauses_recorded pieces_from
recorded_all j [] = refl
recorded_all j (C ∷ Cs) = recorded_clause j C _ ∙ ap (λ z. C ∷ z) (recorded_all (j + used (not (lone C)) (length (comparisons C))) Cs)

-- ---- they are the definition's
pub selected-count : (C : Clause) → length (selected C) ≡ used (not (lone C)) (length (comparisons C))
unfolding selected comparisons lone
selected-count [] = refl
selected-count (is_true b ∷ []) = refl
selected-count (is_false b ∷ []) = refl
selected-count (at_most q ∷ []) = refl
selected-count (is_true b ∷ l ∷ C) = refl
selected-count (is_false b ∷ l ∷ C) = refl
selected-count (at_most q ∷ l ∷ C) = refl

module _ (of : ℕ → Bounds) where
  pub clauses_in-append : (ps qs : List Piece) → clauses_in of (ps ++ qs) ≡ clauses_in of ps ++ clauses_in of qs
  clauses_in-append ps qs =
      ap flatten (map-append (piece_clauses of) ps qs) ∙ flatten-append (map (piece_clauses of) ps) (map (piece_clauses of) qs)

  led-clauses : (j : ℕ) (qs : List Comparison)
      → flatten (zip_with (λ i q. clauses_under (minus i ∷ []) of q) (map selector (count_up j (length qs))) qs) ≡ clauses_in of (compared true j qs)
  unfolding compared flatten zip_with piece_clauses
  led-clauses j [] = refl
  led-clauses j (q ∷ qs) = ap (λ z. clauses_under (minus (selector j) ∷ []) of q ++ z) (led-clauses (suc j) qs)

  line_is : (j : ℕ) (C : Clause) → encoding.line (map selector (count_up j (length (comparisons C)))) C ≡ line_from j C
  unfolding line_from encoding.line comparisons
  line_is j [] = refl
  line_is j (is_true b ∷ C) = ap (λ z. plus (bool b) ∷ z) (line_is j C)
  line_is j (is_false b ∷ C) = ap (λ z. minus (bool b) ∷ z) (line_is j C)
  line_is j (at_most q ∷ C) = ap (λ z. plus (selector j) ∷ z) (line_is (suc j) C)

  longer : (j : ℕ) (l l' : Literal) (C : Clause)
      → clauses_of of (map selector (count_up j (length (comparisons (l ∷ l' ∷ C))))) (l ∷ l' ∷ C)
      ≡ line_from j (l ∷ l' ∷ C) ∷ clauses_in of (compared true j (comparisons (l ∷ l' ∷ C)))
  unfolding clauses_of selected
  longer j l l' C = ap₂ ◌∷◌ (line_is j (l ∷ l' ∷ C)) (led-clauses j (comparisons (l ∷ l' ∷ C)))

  clause-pieces : (j : ℕ) (C : Clause)
      → clauses_of of (map selector (count_up j (length (selected C)))) C
      ≡ clauses_in of (opening (lone C) j C ++ compared (not (lone C)) j (comparisons C))
  unfolding clauses_of selected flatten piece_clauses lone compared comparisons line_from
  clause-pieces j [] = refl
  clause-pieces j (is_true b ∷ []) = refl
  clause-pieces j (is_false b ∷ []) = refl
  clause-pieces j (at_most q ∷ []) = sym (append-nil (clauses_under [] of q))
  clause-pieces j (is_true b ∷ l ∷ C) = longer j (is_true b) l C
  clause-pieces j (is_false b ∷ l ∷ C) = longer j (is_false b) l C
  clause-pieces j (at_most q ∷ l ∷ C) = longer j (at_most q) l C

  pub rules-pieces : (j : ℕ) (Cs : List Clause) → flatten (rules_from of j Cs) ≡ clauses_in of (pieces_from j Cs)
  unfolding rules_from pieces_from flatten
  rules-pieces j [] = refl
  rules-pieces j (C ∷ Cs) =
      ap (λ n. clauses_of of (map selector (count_up j (length (selected C)))) C ++ flatten (rules_from of (j + n) Cs)) (selected-count C)
      ∙ ap₂ ◌++◌ (clause-pieces j C) (rules-pieces (j + used (not (lone C)) (length (comparisons C))) Cs)
      ∙ sym (clauses_in-append (opening (lone C) j C ++ compared (not (lone C)) j (comparisons C)) (pieces_from (j + used (not (lone C)) (length (comparisons C))) Cs))
      ∙ ap (clauses_in of) (append_assoc (opening (lone C) j C) (compared (not (lone C)) j (comparisons C)) (pieces_from (j + used (not (lone C)) (length (comparisons C))) Cs))

  -- clauses and places, piece by piece
  pub rules-count : (j : ℕ) (Cs : List Clause)
      → sum (map length (rules_from of j Cs)) ≡ sum (map (λ p. length (piece_clauses of p)) (pieces_from j Cs))
  rules-count j Cs =
      sym (length-flatten (rules_from of j Cs))
      ∙ ap length (rules-pieces j Cs)
      ∙ length-flatten (map (piece_clauses of) (pieces_from j Cs))
      ∙ ap sum (map-map length (piece_clauses of) (pieces_from j Cs))

  pub rules-places : (j : ℕ) (Cs : List Clause)
      → sum (map places (rules_from of j Cs)) ≡ sum (map (λ p. places (piece_clauses of p)) (pieces_from j Cs))
  unfolding places
  rules-places j Cs =
      sym (sum-flatten (λ c. length c + 1) (rules_from of j Cs))
      ∙ ap (λ cs. sum (map (λ c. length c + 1) cs)) (rules-pieces j Cs)
      ∙ sum-flatten (λ c. length c + 1) (map (piece_clauses of) (pieces_from j Cs))
      ∙ ap sum (map-map (λ cs. sum (map (λ c. length c + 1) cs)) (piece_clauses of) (pieces_from j Cs))
