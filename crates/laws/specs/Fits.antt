-- How great the numbers of an admitted board can be: generous bounds, so that what is counted fits its width.
use Rattle.std.specs.Prelude.{◌≡◌, Bool, true, false, not, take, drop, pos, nat_abs, ◌+ℤ◌, ◌-ℤ◌, ◌≤ℤ◌, if◌then◌else◌}
use Rattle.std.proofs.Math.Path.{refl}
use Rattle.std.proofs.Common.{ap, mul-le-mul, length-append, take-append-drop, SFits}
use mathlib.Core.List.{List, [], ◌∷◌, ◌++◌, map, flatten}
use Prim.Native.Nat.{ℕ, suc, ◌+◌, ◌*◌, ◌^◌, ◌≤◌, ◌<◌}
use native.Mathlib.Omega.{arith}
use Rattle.std.proofs.Math.ListN.{length}
use Rattle.std.specs.Int.Signed.{le_z}
use Rattle.std.specs.Int.{w32}
use Rattle.definitions.specs.Tools.{All, sum}
use Rattle.definitions.specs.Board.{Board, Bounds, Term, Comparison, Clause, is_true, is_false, at_most, bounds_of}
use Rattle.definitions.specs.Encoding.{term_bounds, least, tuples_of, comparisons, selected, axioms, rules, SatClause, places, width, first, N, M, K}
use Rattle.laws.specs.Limits.{sums_limit, tuples_limit, firsts_limit}
use Rattle.laws.specs.Whole.{whole, add_law, sub_law, part_law, abs_law, abs_le, abs_add, abs_fits}
use Rattle.laws.specs.Lists.{all_impl, sum-append, sum-most}
use Rattle.laws.specs.Admitted.{Admitted, GoodBounds, GoodTerm, GoodComparison, GoodClause}
use Rattle.laws.specs.Terms.{good_bounds, ranges, term-size}
use Rattle.laws.specs.Tuples.{widths}
use Rattle.laws.specs.Counting.{above, ways-most, tri_fits, tuples-count}
use Rattle.laws.specs.Pieces.{Piece, line, under, compared, lone, opening, pieces_from, used}
use Rattle.laws.specs.Mentions.{Sound, pieces_sound}
use Rattle.laws.specs.Sizes.{piece_places, K-sum}
use Rattle.laws.specs.Spelling.{span, span-append, several, literals-span, clause_fields, bounds_fields}
use Rattle.laws.specs.Reread.{Recorded}

pub width-most : (b : Bounds) → GoodBounds b → width b ≤ 8193
unfolding width
width-most b g =
    let d = b.hi -ℤ b.lo in
    omega (whole, g.lowest, g.ordered, g.highest, add_law d (pos 2), sub_law b.hi b.lo, part_law (d +ℤ pos 2))

pub width-least : (b : Bounds) → GoodBounds b → 2 ≤ width b
unfolding width
width-least b g =
    let d = b.hi -ℤ b.lo in
    omega (whole, g.ordered, add_law d (pos 2), sub_law b.hi b.lo, part_law (d +ℤ pos 2))

pub good-constant : {ints : ℕ} {q : Comparison} → GoodComparison ints q → SFits w32 q.constant
good-constant {q = q} g = abs_fits (omega (whole, abs_le q.constant {k = 1000000} (omega (whole, g.least, g.most))))

widths-length : (of : ℕ → Bounds) (ts : List Term) → length (widths (ranges of ts)) ≡ length ts
widths-length of [] = refl
widths-length of (t ∷ ts) = ap suc (widths-length of ts)

module _ (B : Board) (g : Admitted B) where
  abbrev of : ℕ → Bounds
  of = bounds_of B

  abbrev ints : ℕ
  ints = length B.bounds

  least_size : (ts : List Term) → All (GoodTerm ints) ts → nat_abs (least of ts) ≤ length ts * 262144
  unfolding least
  least_size [] h = omega arith
  least_size (t ∷ ts) h =
      let s = term-size of ints t h.0 (good_bounds B g.bounds t.var h.0.known) in
      omega (arith, s.0, least_size ts h.1, abs_add (term_bounds of t).lo (least of ts))

  -- ---- a comparison's tuples
  pub above_fits : (q : Comparison) → GoodComparison ints q → suc (above of q) < sums_limit
  above_fits q h =
      let L = least of q.terms in
      let k = q.constant in
      let s = least_size q.terms h.terms in
      omega (whole, s, abs_law L, h.few, h.most, add_law (k -ℤ L) (pos 1), sub_law k L, part_law (k -ℤ L +ℤ pos 1))

  pub tuples_fit : (q : Comparison) → GoodComparison ints q → least of q.terms ≤ℤ q.constant → length (tuples_of of q) < tuples_limit
  tuples_fit q h l =
      let ws = widths (ranges of q.terms) in
      let few : length ws ≤ 3 = omega (arith, h.few, widths-length of q.terms) in
      let ordered =
      all_impl (GoodTerm ints) (λ t. (of t.var).lo ≤ℤ (of t.var).hi)
      (λ t k. (good_bounds B g.bounds t.var k.known).ordered) q.terms h.terms
      in
      omega (arith, tuples-count of q ordered l, ways-most ws (above of q) few, tri_fits (suc (above of q)) (above_fits q h))

  -- ---- the list
  piece-most : (p : Piece) → Sound B p → piece_places of p ≤ tuples_limit * 5
  unfolding piece_places
  piece-most (line j C) h = omega (arith, h.0)
  piece-most (under lead q) h = go (le_z (least of q.terms) q.constant) refl
    where
      n : ℕ
      n = length lead + length q.terms + 1

      go : (b : Bool) → le_z (least of q.terms) q.constant ≡ b → (if b then length (tuples_of of q) * n else length lead + 1) ≤ tuples_limit * 5
      go true e =
          let t = tuples_fit q h.2 (omega whole) in
          let most : length (tuples_of of q) ≤ tuples_limit = omega arith in
          let few : n ≤ 5 = omega (arith, h.0, h.2.few) in
          mul-le-mul most few
      go false e = omega (arith, h.0)

comparisons_few : (C : Clause) → length (comparisons C) ≤ length C
unfolding comparisons
comparisons_few [] = omega arith
comparisons_few (is_true b ∷ C) = omega (arith, comparisons_few C)
comparisons_few (is_false b ∷ C) = omega (arith, comparisons_few C)
comparisons_few (at_most q ∷ C) = omega (arith, comparisons_few C)

compared-length : (led : Bool) (j : ℕ) (qs : List Comparison) → length (compared led j qs) ≡ length qs
unfolding compared
compared-length led j [] = refl
compared-length true j (q ∷ qs) = ap suc (compared-length true (suc j) qs)
compared-length false j (q ∷ qs) = ap suc (compared-length false j qs)

opening_few : (alone : Bool) (j : ℕ) (C : Clause) → length (opening alone j C) ≤ 1
opening_few true j C = omega arith
opening_few false j C = omega arith

-- a line has its clause's count for a byte, a comparison those of its literal
pieces_few : (j : ℕ) (Cs : List Clause) → length (pieces_from j Cs) ≤ span (several clause_fields Cs)
unfolding pieces_from flatten
pieces_few j [] = omega arith
pieces_few j (C ∷ Cs) =
    let qs = compared (not (lone C)) j (comparisons C) in
    let n = used (not (lone C)) (length (comparisons C)) in
    let rest = pieces_from (j + n) Cs in
    omega (
      arith,
      length-append (opening (lone C) j C) (qs ++ rest),
      length-append qs rest,
      opening_few (lone C) j C,
      compared-length (not (lone C)) j (comparisons C),
      comparisons_few C,
      literals-span C,
      span-append (clause_fields C) (several clause_fields Cs),
      pieces_few (j + n) Cs,
    )

-- by the bytes of the record, whatever its counts are
pub K_fits : (B : Board) → Recorded B → K B < 2 ^ 63
K_fits B r =
    let g = r.admitted in
    let ps = pieces_from 0 B.clauses in
    omega (
      arith,
      K-sum B g.bounds,
      g.ints,
      r.short,
      span-append (several bounds_fields B.bounds) (several clause_fields B.clauses),
      sum-most (λ b. 3 * width b + 1) GoodBounds 24580 (λ b h. omega (arith, width-most b h)) B.bounds g.bounds,
      sum-most (piece_places (bounds_of B)) (Sound B) (tuples_limit * 5) (piece-most B g) ps (pieces_sound B g),
      pieces_few 0 B.clauses,
    )

-- a clause has a place for its end
places-most : (cs : List SatClause) → length cs ≤ places cs
unfolding places
places-most [] = omega arith
places-most (c ∷ cs) = omega (arith, places-most cs)

pub M_fits : (B : Board) → Recorded B → M B < 2 ^ 63
unfolding M K
M_fits B r = omega (arith, most (axioms B), most (rules B), K_fits B r)
  where
    most : (ls : List (List SatClause)) → sum (map length ls) ≤ sum (map places ls)
    most [] = omega arith
    most (l ∷ ls) = omega (arith, places-most l, most ls)

-- ---- the numbers
pub first-most : (B : Board) → Admitted B → (x : ℕ) → first B x ≤ firsts_limit
unfolding first
first-most B g x =
    let bs = B.bounds in
    omega (
      arith,
      g.ints,
      g.bools,
      sum-most width GoodBounds 8193 width-most bs g.bounds,
      sum-append width (take x bs) (drop x bs),
      ap (λ l. sum (map width l)) (take-append-drop x bs),
    )

selected_few : (C : Clause) → length (selected C) ≤ length C
unfolding selected
selected_few [] = omega arith
selected_few (l ∷ []) = omega arith
selected_few (l ∷ l' ∷ C) = comparisons_few (l ∷ l' ∷ C)

pub N_fits : (B : Board) → Admitted B → N B < 2 ^ 31
unfolding N
N_fits B g =
    omega (
      arith,
      g.ints,
      g.bools,
      g.rules,
      sum-most width GoodBounds 8193 width-most B.bounds g.bounds,
      sum-most (λ C. length (selected C)) (GoodClause (length B.bounds) B.bools) 64 (λ C h. omega (arith, selected_few C, h.few)) B.clauses g.clauses,
    )
