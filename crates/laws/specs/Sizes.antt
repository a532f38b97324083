-- N, M and K (01, "Five operations"): M and K are the lists' lengths, and sums over variables and clauses as they are added up.
use Rattle.std.specs.Prelude.{◌≡◌, Bool, not, ℤ, ◌-ℤ◌, ◌≤ℤ◌, if◌then◌else◌}
use Rattle.std.proofs.Math.Path.{refl, sym, ap, ap₂}
use Rattle.std.proofs.Common.{◌∙◌, length-append}
use Rattle.std.proofs.Math.Bool.{true, false}
use mathlib.Core.List.{List, [], ◌∷◌, ◌++◌, map, flatten, zip_with, map-map}
use Prim.Native.Nat.{ℕ, suc, ◌+◌, ◌*◌}
use native.Mathlib.Omega.{arith}
use Rattle.std.proofs.Math.ListN.{length, length-map}
use Rattle.std.proofs.Math.IntN.{pos}
use Rattle.std.specs.Int.Signed.{le_z}
use Rattle.definitions.specs.Tools.{All, count_up, sum, range}
use Rattle.definitions.specs.Board.{Board, Bounds, Term, Comparison, Clause, bounds_of, variables}
use Rattle.definitions.specs.Encoding.{SatClause, order, plus, minus, least, tuples_of, sharp, clauses_under, axioms_of, comparisons, selected, axioms, rules, clauses, width, literal_number, clause_list, N, M, places, K}
use Rattle.laws.specs.Lists.{all_impl, all_map, all_every, all-count_up, map_same, map_at, length-flatten, length-flat-map, sum-append, sum-flatten, sum_same}
use Rattle.laws.specs.Ranges.{length-range}
use Rattle.laws.specs.Layout.{width-range}
use Rattle.laws.specs.Admitted.{GoodBounds}
use Rattle.laws.specs.Terms.{good_bounds, ranges, Within, tuples-within}
use Rattle.laws.specs.Pieces.{Piece, line, under, piece_clauses, line-length, compared, lone, opening, pieces_from, used, selected-count, rules-count, rules-places}

-- ---- the lists' lengths
pub M_is : (B : Board) → M B ≡ length (clauses B)
unfolding M clauses
M_is B = omega (arith, length-append (flatten (axioms B)) (flatten (rules B)), length-flatten (axioms B), length-flatten (rules B))

pub K_is : (B : Board) → K B ≡ length (clause_list B)
unfolding K places clauses clause_list
K_is B =
    omega (
      arith,
      length-flat-map ended weight ended-length (clauses B),
      sum-append weight (flatten (axioms B)) (flatten (rules B)),
      sum-flatten weight (axioms B),
      sum-flatten weight (rules B),
    )
  where
    weight : SatClause → ℕ
    weight c = length c + 1

    ended : SatClause → List ℤ
    ended c = map (literal_number B) c ++ (pos 0 ∷ [])

    ended-length : (c : SatClause) → length (ended c) ≡ weight c
    ended-length c = omega (arith, length-append (map (literal_number B) c) (pos 0 ∷ []), length-map c (literal_number B))

-- ---- a variable's axioms
module _ (of : ℕ → Bounds) (x : ℕ) (h : (of x).lo ≤ℤ (of x).hi) where
  abbrev step : ℤ → SatClause
  step c = minus (order x (c -ℤ pos 1)) ∷ plus (order x c) ∷ []

  pub axioms-count : length (axioms_of of x) ≡ width (of x) + 1
  unfolding axioms_of
  axioms-count = omega (arith, width-range (of x) h, length-map (range (of x).lo (of x).hi) step, length-range (of x).lo (of x).hi)

  pub axioms-places : places (axioms_of of x) ≡ 3 * width (of x) + 1
  unfolding axioms_of places
  axioms-places =
      let cs = range (of x).lo (of x).hi in
      let three = all_map (λ c. length c + 1 ≡ 3) step cs (all_every (λ c. length (step c) + 1 ≡ 3) (λ c. refl) cs) in
      omega (arith, width-range (of x) h, sum_same (λ c. length c + 1) 3 (map step cs) three, length-map cs step, length-range (of x).lo (of x).hi)

-- ---- a piece of the rules: a clause's line, or a comparison's clauses
unfoldable pub piece_count : (ℕ → Bounds) → Piece → ℕ
piece_count of (line j C) = 1
piece_count of (under lead q) = if le_z (least of q.terms) q.constant then length (tuples_of of q) else 1

unfoldable pub piece_places : (ℕ → Bounds) → Piece → ℕ
piece_places of (line j C) = length C + 1
piece_places of (under lead q) =
    if le_z (least of q.terms) q.constant
    then length (tuples_of of q) * (length lead + length q.terms + 1)
    else length lead + 1

length_zip : (of : ℕ → Bounds) (ts : List Term) (bs : List ℤ) → Within (ranges of ts) bs → length (zip_with sharp ts bs) ≡ length ts
unfolding zip_with
length_zip of [] [] w = refl
length_zip of [] (b ∷ bs) w = elim w [ ]
length_zip of (t ∷ ts) [] w = elim w [ ]
length_zip of (t ∷ ts) (b ∷ bs) w = ap suc (length_zip of ts bs w.2)

module _ (of : ℕ → Bounds) (lead : SatClause) (q : Comparison) where
  abbrev ts : List (List ℤ)
  ts = tuples_of of q

  abbrev clause : List ℤ → SatClause
  clause bs = lead ++ zip_with sharp q.terms bs

  abbrev weight : SatClause → ℕ
  weight c = length c + 1

  abbrev m : ℕ
  m = length lead + length q.terms + 1

  under-count : length (clauses_under lead of q) ≡ piece_count of (under lead q)
  unfolding clauses_under piece_count
  under-count = go (le_z (least of q.terms) q.constant)
    where
      go : (b : Bool) → length (if b then map clause ts else lead ∷ []) ≡ (if b then length ts else 1)
      go true = length-map ts clause
      go false = refl

  weighs : (bs : List ℤ) → Within (ranges of q.terms) bs → weight (clause bs) ≡ m
  weighs bs w = omega (arith, length-append lead (zip_with sharp q.terms bs), length_zip of q.terms bs w)

  under-places : places (clauses_under lead of q) ≡ piece_places of (under lead q)
  unfolding clauses_under piece_places places tuples_of
  under-places = go (le_z (least of q.terms) q.constant)
    where
      go : (b : Bool) → sum (map weight (if b then map clause ts else lead ∷ [])) ≡ (if b then length ts * m else length lead + 1)
      go true =
          sum_same weight m (map clause ts)
          (all_map (λ c. weight c ≡ m) clause ts
          (all_impl (Within (ranges of q.terms)) (λ bs. weight (clause bs) ≡ m) weighs ts (tuples-within (ranges of q.terms) _)))
          ∙ ap (λ n. n * m) (length-map ts clause)
      go false = omega arith

pub piece-count : (of : ℕ → Bounds) (p : Piece) → length (piece_clauses of p) ≡ piece_count of p
unfolding piece_clauses piece_count
piece-count of (line j C) = refl
piece-count of (under lead q) = under-count of lead q

pub piece-places : (of : ℕ → Bounds) (p : Piece) → places (piece_clauses of p) ≡ piece_places of p
unfolding piece_clauses piece_places places
piece-places of (line j C) = omega (arith, line-length j C)
piece-places of (under lead q) = under-places of lead q

-- the selectors that it brings
unfoldable pub piece_selectors : Piece → ℕ
piece_selectors (line j C) = 0
piece_selectors (under lead q) = length lead

compared-selectors : (led : Bool) (j : ℕ) (qs : List Comparison) → sum (map piece_selectors (compared led j qs)) ≡ used led (length qs)
unfolding compared piece_selectors
compared-selectors true j [] = refl
compared-selectors false j [] = refl
compared-selectors true j (q ∷ qs) = omega (arith, compared-selectors true (suc j) qs)
compared-selectors false j (q ∷ qs) = omega (arith, compared-selectors false j qs)

opening-selectors : (alone : Bool) (j : ℕ) (C : Clause) → sum (map piece_selectors (opening alone j C)) ≡ 0
unfolding piece_selectors
opening-selectors true j C = refl
opening-selectors false j C = refl

pieces-selectors : (j : ℕ) (Cs : List Clause) → sum (map (λ C. length (selected C)) Cs) ≡ sum (map piece_selectors (pieces_from j Cs))
unfolding pieces_from
pieces-selectors j [] = refl
pieces-selectors j (C ∷ Cs) =
    let o = opening (lone C) j C in
    let qs = compared (not (lone C)) j (comparisons C) in
    let n = used (not (lone C)) (length (comparisons C)) in
    let rest = pieces_from (j + n) Cs in
    omega (
      arith,
      sum-append piece_selectors o (qs ++ rest),
      sum-append piece_selectors qs rest,
      opening-selectors (lone C) j C,
      compared-selectors (not (lone C)) j (comparisons C),
      selected-count C,
      pieces-selectors (j + n) Cs,
    )

-- ---- the sums
module _ (B : Board) where
  abbrev pieces : List Piece
  pieces = pieces_from 0 B.clauses

  axioms-sum : (g : List SatClause → ℕ) (f : Bounds → ℕ)
      → ((x : ℕ) → (bounds_of B x).lo ≤ℤ (bounds_of B x).hi → g (axioms_of (bounds_of B) x) ≡ f (bounds_of B x))
      → All GoodBounds B.bounds → sum (map g (axioms B)) ≡ sum (map f B.bounds)
  unfolding axioms variables bounds_of
  axioms-sum g f e h =
      let n = length B.bounds in
      let xs = count_up 0 n in
      ap sum
      (map-map g (axioms_of (bounds_of B)) xs
      ∙ map_same (λ x. g (axioms_of (bounds_of B) x)) (λ x. f (bounds_of B x)) xs
      (all-count_up (λ x. g (axioms_of (bounds_of B) x) ≡ f (bounds_of B x)) 0 n (λ x l u. e x (good_bounds B h x (omega arith)).ordered))
      ∙ sym (map-map f (bounds_of B) xs)
      ∙ ap (map f) (map_at (record { lo = pos 0; hi = pos 0 }) B.bounds))

  -- by kind: selectors, the axioms' clauses and places, the rules'
  pub selectors-sum : sum (map (λ C. length (selected C)) B.clauses) ≡ sum (map piece_selectors pieces)
  selectors-sum = pieces-selectors 0 B.clauses

  pub axioms-clauses : All GoodBounds B.bounds → sum (map length (axioms B)) ≡ sum (map (λ b. width b + 1) B.bounds)
  axioms-clauses = axioms-sum length (λ b. width b + 1) (λ x o. axioms-count (bounds_of B) x o)

  pub axioms-length : All GoodBounds B.bounds → sum (map places (axioms B)) ≡ sum (map (λ b. 3 * width b + 1) B.bounds)
  axioms-length = axioms-sum places (λ b. 3 * width b + 1) (λ x o. axioms-places (bounds_of B) x o)

  pub rules-clauses : sum (map length (rules B)) ≡ sum (map (piece_count (bounds_of B)) pieces)
  unfolding rules
  rules-clauses = rules-count (bounds_of B) 0 B.clauses ∙ simp (piece-count (bounds_of B))

  pub rules-length : sum (map places (rules B)) ≡ sum (map (piece_places (bounds_of B)) pieces)
  unfolding rules
  rules-length = rules-places (bounds_of B) 0 B.clauses ∙ simp (piece-places (bounds_of B))

  pub N-sum : N B ≡ B.bools + sum (map width B.bounds) + sum (map piece_selectors pieces)
  unfolding N
  N-sum = omega (arith, selectors-sum)

  pub M-sum : All GoodBounds B.bounds → M B ≡ sum (map (λ b. width b + 1) B.bounds) + sum (map (piece_count (bounds_of B)) pieces)
  unfolding M
  M-sum h = ap₂ ◌+◌ (axioms-clauses h) rules-clauses

  pub K-sum : All GoodBounds B.bounds → K B ≡ sum (map (λ b. 3 * width b + 1) B.bounds) + sum (map (piece_places (bounds_of B)) pieces)
  unfolding K
  K-sum h = ap₂ ◌+◌ (axioms-length h) rules-length
