-- A board's clauses, those of each comparison kept once: axioms, lines and equal comparisons stay; satisfied alike; M and K as sums. Assumes nothing.
use Rattle.std.specs.Prelude.{◌≡◌, ◌↔◌, Bool, ℤ, ◌≤ℤ◌, ◌<ℤ◌}
use Rattle.std.proofs.Math.Path.{refl, ap}
use Rattle.std.proofs.Common.{◌∙◌}
use mathlib.Core.List.{List, [], ◌∷◌, ◌++◌, map, flatten, zip_with, map-map}
use Prim.Native.Nat.{ℕ, suc, ◌+◌, ◌*◌, ◌≤◌}
use native.Mathlib.Omega.{arith}
use Rattle.std.proofs.Math.ListN.{length, length-append}
use Rattle.std.specs.Int.Signed.{le_z}
use Rattle.definitions.specs.Tools.{All, sum}
use Rattle.definitions.specs.Board.{Board, Bounds, Term, Comparison, bounds_of}
use Rattle.definitions.specs.Encoding.{SatClause, Atom, least, tuples_of, sharp, clauses_under, axioms, rules, clauses, width, places, N}
use Rattle.definitions.specs.Meaning.{Model, in_model}
use Rattle.laws.specs.Lists.{all_append, append-all, all-flatten, flatten-all, all_map, map-all, all_impl, length-flatten, sum-append, sum-flatten, sum_same}
use Rattle.laws.specs.Terms.{ranges, Within, tuples-within}
use Rattle.laws.specs.Admitted.{GoodBounds}
use Rattle.laws.specs.Pieces.{Piece, line, under, line_from, piece_clauses, pieces_from, clauses_in, rules-pieces}
use Rattle.laws.specs.Sizes.{axioms-clauses, axioms-length}
use Rattle.demands.specs.Truth.{Satisfied, Holds}
use Rattle.next.specs.Bools.{passes}
use Rattle.next.specs.Once.{clauses_once}
use Rattle.next.specs.OnceTheorems.{same_every}
use Rattle.next.specs.Kept.{kept_below}

unfoldable pub piece_once : (ℕ → Bounds) → Piece → List SatClause
piece_once of (line j C) = line_from j C ∷ []
piece_once of (under lead q) = clauses_once lead of q

unfoldable pub board_once : Board → List SatClause
board_once B = flatten (axioms B) ++ flatten (map (piece_once (bounds_of B)) (pieces_from 0 B.clauses))

-- ---- the same clauses
module _ (P : SatClause → Type 0) where
  piece_every : (of : ℕ → Bounds) (p : Piece) → All P (piece_once of p) ↔ All P (piece_clauses of p)
  unfolding piece_once piece_clauses
  piece_every of (line j C) = (λ a. a, λ a. a)
  piece_every of (under lead q) = same_every P lead of q

  pieces_every : (of : ℕ → Bounds) (ps : List Piece) → All P (flatten (map (piece_once of) ps)) ↔ All P (clauses_in of ps)
  pieces_every of ps = (
    λ a. all-flatten P (map (piece_clauses of) ps) (all_map (All P) (piece_clauses of) ps
        (all_impl (λ p. All P (piece_once of p)) (λ p. All P (piece_clauses of p)) (λ p. (piece_every of p).0) ps
        (map-all (All P) (piece_once of) ps (flatten-all P (map (piece_once of) ps) a)))),
    λ a. all-flatten P (map (piece_once of) ps) (all_map (All P) (piece_once of) ps
        (all_impl (λ p. All P (piece_clauses of p)) (λ p. All P (piece_once of p)) (λ p. (piece_every of p).1) ps
        (map-all (All P) (piece_clauses of) ps (flatten-all P (map (piece_clauses of) ps) a)))),
  )

  pub board_every : (B : Board) → All P (board_once B) ↔ All P (clauses B)
  unfolding board_once clauses rules
  board_every B =
      let ps = pieces_from 0 B.clauses in
      let r = pieces_every (bounds_of B) ps in
      let once = flatten (map (piece_once (bounds_of B)) ps) in
      rw (rules-pieces (bounds_of B) 0 B.clauses) (
        λ a. (let h = append-all P (flatten (axioms B)) once a in all_append P (flatten (axioms B)) (clauses_in (bounds_of B) ps) h.0 (r.0 h.1)),
        λ a. (let h = append-all P (flatten (axioms B)) (clauses_in (bounds_of B) ps) a in all_append P (flatten (axioms B)) once h.0 (r.1 h.1)),
      )

pub board_satisfied : (B : Board) (v : Atom → Bool) → Satisfied v (board_once B) ↔ Satisfied v (clauses B)
board_satisfied B v = board_every (Holds v) B

-- so the models of the new list are those of the old
pub models-alike : (B : Board) (model : List ℕ)
    → Model B model ↔ ((length model ≡ N B) × All (λ b. b ≤ 1) model × Satisfied (in_model B model) (board_once B))
unfolding Model
models-alike B model =
    let r = board_satisfied B (in_model B model) in
    (λ m. (m.0, m.1, r.1 m.2), λ m. (m.0, m.1, r.0 m.2))

-- ---- M, as a sum over variables and pieces
module _ (B : Board) (good : All GoodBounds B.bounds) where
  abbrev of : ℕ → Bounds
  of = bounds_of B

  abbrev pieces : List Piece
  pieces = pieces_from 0 B.clauses

  pub M-once : length (board_once B) ≡ sum (map (λ b. width b + 1) B.bounds) + sum (map (λ p. length (piece_once of p)) pieces)
  unfolding board_once
  M-once =
      let once = map (piece_once of) pieces in
      omega (arith, length-append (flatten (axioms B)) (flatten once), length-flatten (axioms B), axioms-clauses B good, length-flatten once, ap sum (map-map length (piece_once of) pieces))

  pub K-once : places (board_once B) ≡ sum (map (λ b. 3 * width b + 1) B.bounds) + sum (map (λ p. places (piece_once of p)) pieces)
  unfolding board_once places
  K-once =
      let once = map (piece_once of) pieces in
      let weight : SatClause → ℕ = λ c. length c + 1 in
      let sums : List SatClause → ℕ = λ cs. sum (map weight cs) in
      let a : sum (map sums (axioms B)) ≡ sum (map (λ b. 3 * width b + 1) B.bounds) = axioms-length B good in
      omega (arith, sum-append weight (flatten (axioms B)) (flatten once), sum-flatten weight (axioms B), a, sum-flatten weight once, ap sum (map-map sums (piece_once of) pieces))

-- ---- the places of a comparison's kept clauses: all are equally long
module _ (lead : SatClause) (of : ℕ → Bounds) (q : Comparison) where
  length_zip : (ts : List Term) (bs : List ℤ) → Within (ranges of ts) bs → length (zip_with sharp ts bs) ≡ length ts
  unfolding zip_with
  length_zip [] [] w = refl
  length_zip [] (b ∷ bs) w = elim w [ ]
  length_zip (t ∷ ts) [] w = elim w [ ]
  length_zip (t ∷ ts) (b ∷ bs) w = ap suc (length_zip ts bs w.2)

  abbrev m : ℕ
  m = length lead + length q.terms + 1

  weighs : least of q.terms ≤ℤ q.constant → All (λ c. length c + 1 ≡ m) (clauses_under lead of q)
  unfolding clauses_under tuples_of
  weighs h = rw (passes (le_z (least of q.terms) q.constant) h.le) (all_map (λ c. length c + 1 ≡ m) (λ bs. lead ++ zip_with sharp q.terms bs) (tuples_of of q)
      (all_impl (Within (ranges of q.terms)) (λ bs. length (lead ++ zip_with sharp q.terms bs) + 1 ≡ m)
      (λ bs w. omega (arith, length-append lead (zip_with sharp q.terms bs), length_zip q.terms bs w)) (tuples_of of q) (tuples-within (ranges of q.terms) _)))

  pub once_places_are : least of q.terms ≤ℤ q.constant → places (clauses_once lead of q) ≡ length (clauses_once lead of q) * (length lead + length q.terms + 1)
  unfolding places
  once_places_are h = sum_same (λ c. length c + 1) m (clauses_once lead of q) ((same_every (λ c. length c + 1 ≡ m) lead of q).1 (weighs h))

  pub once-places-below : q.constant <ℤ least of q.terms → places (clauses_once lead of q) ≡ length lead + 1
  unfolding places
  once-places-below h = ap (λ cs. sum (map (λ c. length c + 1) cs)) (kept_below lead of q h) ∙ add (length lead)
    where
      add : (n : ℕ) → n + 1 + 0 ≡ n + 1
      add n = omega arith
