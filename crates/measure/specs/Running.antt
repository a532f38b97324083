-- The total of a pass over the rules, wherever it stands between two record clauses: the places of those behind it. Assumes nothing.
use Rattle.std.specs.Prelude.{◌≡◌, Bool, take, drop}
use Rattle.std.proofs.Math.Path.{refl, ap}
use Rattle.std.proofs.Common.{◌∙◌}
use Rattle.std.proofs.Math.Bool.{true, false, not}
use mathlib.Core.List.{List, [], ◌∷◌, ◌++◌, map}
use Prim.Native.Nat.{ℕ, zero, suc, ◌+◌}
use native.Mathlib.Omega.{arith}
use Rattle.std.proofs.Math.ListN.{length}
use Rattle.definitions.specs.Tools.{sum}
use Rattle.definitions.specs.Board.{Board, Bounds, Comparison, Clause, bounds_of}
use Rattle.definitions.specs.Encoding.{selector, minus, comparisons, selected, rules_from, rules, places}
use Rattle.laws.specs.Lists.{sum-append}
use Rattle.laws.specs.Pieces.{Piece, under, line-length, lone, opening, compared, used, pieces_from, remaining, rules-places}
use Rattle.laws.specs.Sizes.{piece_places, piece-places}
use Rattle.measure.specs.declared.Share.{Share}
use Rattle.measure.specs.Shares.{Adding}

module _ (of : ℕ → Bounds) where
  abbrev weight : List Piece → ℕ
  weight ps = sum (map (piece_places of) ps)

  -- ---- the places of pieces are the same whatever number their first selector has
  compared_same : (led : Bool) (i j : ℕ) (qs : List Comparison) → weight (compared led i qs) ≡ weight (compared led j qs)
  unfolding compared piece_places
  compared_same true i j [] = refl
  compared_same false i j [] = refl
  compared_same true i j (q ∷ qs) = ap (λ n. piece_places of (under (minus (selector i) ∷ []) q) + n) (compared_same true (suc i) (suc j) qs)
  compared_same false i j (q ∷ qs) = ap (λ n. piece_places of (under [] q) + n) (compared_same false i j qs)

  opening-same : (alone : Bool) (i j : ℕ) (C : Clause) → weight (opening alone i C) ≡ weight (opening alone j C)
  unfolding piece_places
  opening-same true i j C = refl
  opening-same false i j C = omega (arith, line-length i C, line-length j C)

  pieces-same : (i j : ℕ) (Cs : List Clause) → weight (pieces_from i Cs) ≡ weight (pieces_from j Cs)
  unfolding pieces_from
  pieces-same i j [] = refl
  pieces-same i j (C ∷ Cs) =
      let led = not (lone C) in
      let qs = comparisons C in
      let n = used led (length qs) in
      let ps = pieces_from (i + n) Cs in
      let rs = pieces_from (j + n) Cs in
      omega (
        arith,
        sum-append (piece_places of) (opening (lone C) i C) (compared led i qs ++ ps),
        sum-append (piece_places of) (compared led i qs) ps,
        sum-append (piece_places of) (opening (lone C) j C) (compared led j qs ++ rs),
        sum-append (piece_places of) (compared led j qs) rs,
        opening-same (lone C) i j C,
        compared_same led i j qs,
        pieces-same (i + n) (j + n) Cs,
      )

  -- ---- those of the first k record clauses, and of the others
  abbrev places_from : ℕ → List Clause → List ℕ
  places_from j Cs = map places (rules_from of j Cs)

  pub pieces-places : (j : ℕ) (Cs : List Clause) → sum (places_from j Cs) ≡ weight (pieces_from j Cs)
  pieces-places j Cs = rules-places of j Cs ∙ simp (piece-places of)

  parted : (k i j : ℕ) (Cs : List Clause) → sum (places_from i Cs) ≡ sum (take k (places_from i Cs)) + sum (places_from j (drop k Cs))
  unfolding rules_from
  parted zero i j Cs = omega (arith, pieces-places i Cs, pieces-same i j Cs, pieces-places j Cs)
  parted (suc k) i j [] = refl
  parted (suc k) i j (C ∷ Cs) = omega (arith, parted k (i + length (selected C)) j Cs)

-- behind the first k record clauses the total is their places
pub running_total : (B : Board) (k : ℕ) (led : Bool) (j : ℕ) (total : Share)
    → Adding (bounds_of B) (pieces_from 0 B.clauses) (remaining led j [] (drop k B.clauses)) total
    → total.places ≡ sum (take k (map places (rules B)))
unfolding rules remaining comparisons compared
running_total B k led j total a =
    let of = bounds_of B in
    let n = j + used led 0 in
    omega (
      arith,
      a.places,
      pieces-places of 0 B.clauses,
      pieces-places of n (drop k B.clauses),
      parted of k 0 n B.clauses,
    )
