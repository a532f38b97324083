-- The clauses of an admitted board speak of the board's own atoms, so that each literal's number is from 1 to N.
use Rattle.std.specs.Prelude.{◌≡◌, Bool, not, ℕ, suc, ◌+◌, ◌≤◌, ◌<◌, length, nat_abs, ◌-ℤ◌, ◌*ℤ◌, ◌≤ℤ◌, if◌then◌else◌}
use Rattle.std.proofs.Math.Path.{refl}
use Rattle.std.proofs.Math.Bool.{true, false}
use mathlib.Core.List.{List, [], ◌∷◌, ◌++◌, map, flatten, zip_with}
use native.Mathlib.Omega.{arith}
use Rattle.std.proofs.Math.ListN.{length-append}
use Rattle.std.proofs.Math.IntN.{ℤ, pos}
use Rattle.std.specs.Int.Signed.{le_z, lt_z}
use Rattle.definitions.specs.Tools.{All, floor, ceil, count_up, range}
use Rattle.definitions.specs.Board.{Board, Bounds, Term, Comparison, Clause, is_true, is_false, at_most, bounds_of, variables}
use Rattle.definitions.specs.Encoding.{Atom, order, SatLiteral, SatClause, plus, minus, term_bounds, least, tuples_of, sharp, clauses_under, axioms_of, comparisons, selected, axioms, rules, clauses, selections, number, literal_number, N}
use Rattle.laws.specs.Whole.{whole, sub_law, abs_neg, ne_in}
use Rattle.laws.specs.Lists.{all_append, all-flatten, all_impl, all_map, all-count_up}
use Rattle.laws.specs.Ranges.{all-range}
use Rattle.laws.specs.Division.{floor-within, ceil-within}
use Rattle.laws.specs.Admitted.{Admitted, GoodTerm, GoodLiteral, GoodComparison, GoodClause}
use Rattle.laws.specs.Terms.{good_bounds, ranges, Within, tuples-within}
use Rattle.laws.specs.Pieces.{Piece, line, under, piece_clauses, compared, line_from, lone, opening, pieces_from, used, selected-count, rules-pieces}
use Rattle.laws.specs.Layout.{Has, number-range}

abbrev pub atom_of : SatLiteral → Atom
atom_of (plus a) = a
atom_of (minus a) = a

module _ (B : Board) where
  abbrev pub Mentions : SatLiteral → Type 0
  Mentions l = Has B (atom_of l)

  sharp_mentions : (t : Term) (b : ℤ) → GoodTerm (length B.bounds) t → ((term_bounds (bounds_of B) t).lo -ℤ pos 1) ≤ℤ b
      → b ≤ℤ (term_bounds (bounds_of B) t).hi → Mentions (sharp t b)
  unfolding term_bounds sharp
  sharp_mentions t b g = go (lt_z (pos 0) t.coef) refl
    where
      r : Bounds
      r = bounds_of B t.var

      ends : Bool → Bounds
      ends q = if q then record { lo = t.coef *ℤ r.lo; hi = t.coef *ℤ r.hi } else record { lo = t.coef *ℤ r.hi; hi = t.coef *ℤ r.lo }

      go : (q : Bool) → lt_z (pos 0) t.coef ≡ q → ((ends q).lo -ℤ pos 1) ≤ℤ b → b ≤ℤ (ends q).hi →
          Mentions (if q then plus (order t.var (floor b t.coef)) else minus (order t.var (ceil b t.coef -ℤ pos 1)))
      go true e l u = let w = floor-within t.coef r.lo r.hi b (omega whole) l u in (g.known, w.0, w.1)
      go false e l u =
          let w = ceil-within t.coef r.lo r.hi b (omega (whole, ne_in t.coef (pos 0) g.some)) l u in
          (g.known, w.0, w.1)

  tuple_mentions : (ts : List Term) (bs : List ℤ) → All (GoodTerm (length B.bounds)) ts → Within (ranges (bounds_of B) ts) bs
      → All Mentions (zip_with sharp ts bs)
  unfolding zip_with
  tuple_mentions [] bs g w = tt
  tuple_mentions (t ∷ ts) [] g w = tt
  tuple_mentions (t ∷ ts) (b ∷ bs) g w = (sharp_mentions t b g.0 w.0 w.1, tuple_mentions ts bs g.1 w.2)

  under_mentions : (lead : SatClause) (q : Comparison) → All Mentions lead → GoodComparison (length B.bounds) q
      → All (All Mentions) (clauses_under lead (bounds_of B) q)
  unfolding clauses_under tuples_of
  under_mentions lead q a g = go (le_z (least (bounds_of B) q.terms) q.constant)
    where
      clause : List ℤ → SatClause
      clause bs = lead ++ zip_with sharp q.terms bs

      go : (b : Bool) → All (All Mentions) (if b then map clause (tuples_of (bounds_of B) q) else lead ∷ [])
      go true =
          all_map (All Mentions) clause (tuples_of (bounds_of B) q)
          (all_impl (Within (ranges (bounds_of B) q.terms)) (λ bs. All Mentions (clause bs))
          (λ bs w. all_append Mentions lead (zip_with sharp q.terms bs) a (tuple_mentions q.terms bs g.terms w))
          (tuples_of (bounds_of B) q) (tuples-within (ranges (bounds_of B) q.terms) _))
      go false = (a, tt)

  -- ---- the pieces of the record's clauses, whose selectors are those from j
  abbrev pub Sound : Piece → Type 0
  Sound (line j C) = (length C ≤ 64) × All Mentions (line_from j C)
  Sound (under lead q) = (length lead ≤ 1) × All Mentions lead × GoodComparison (length B.bounds) q

  abbrev Good : Clause → Type 0
  Good C = All (GoodLiteral (length B.bounds) B.bools) C

  abbrev Fits : ℕ → ℕ → Type 0
  Fits j n = j + n ≤ length (selections B)

  line_mentions : (j : ℕ) (C : Clause) → Good C → Fits j (length (comparisons C)) → All Mentions (line_from j C)
  unfolding line_from comparisons
  line_mentions j [] g h = tt
  line_mentions j (is_true b ∷ C) g h = (g.0, line_mentions j C g.1 h)
  line_mentions j (is_false b ∷ C) g h = (g.0, line_mentions j C g.1 h)
  line_mentions j (at_most q ∷ C) g h = (omega arith, line_mentions (suc j) C g.1 (omega arith))

  compared_sound : (led : Bool) (j : ℕ) (C : Clause) → Good C → Fits j (used led (length (comparisons C)))
      → All Sound (compared led j (comparisons C))
  unfolding compared comparisons
  compared_sound led j [] g h = tt
  compared_sound led j (is_true b ∷ C) g h = compared_sound led j C g.1 h
  compared_sound led j (is_false b ∷ C) g h = compared_sound led j C g.1 h
  compared_sound true j (at_most q ∷ C) g h =
      ((omega arith, (omega arith, tt), g.0), compared_sound true (suc j) C g.1 (omega arith))
  compared_sound false j (at_most q ∷ C) g h = ((omega arith, tt, g.0), compared_sound false j C g.1 h)

  opening_sound : (alone : Bool) (j : ℕ) (C : Clause) → GoodClause (length B.bounds) B.bools C
      → Fits j (used (not alone) (length (comparisons C))) → All Sound (opening alone j C)
  opening_sound true j C g h = tt
  opening_sound false j C g h = ((g.few, line_mentions j C g.literals h), tt)

  sound_from : (j : ℕ) (Cs : List Clause) → All (GoodClause (length B.bounds) B.bools) Cs
      → Fits j (length (flatten (map selected Cs))) → All Sound (pieces_from j Cs)
  unfolding pieces_from flatten
  sound_from j [] g h = tt
  sound_from j (C ∷ Cs) g h =
      let n = used (not (lone C)) (length (comparisons C)) in
      let e = length-append (selected C) (flatten (map selected Cs)) in
      let s = selected-count C in
      let f : Fits j n = omega arith in
      all_append Sound (opening (lone C) j C) (compared (not (lone C)) j (comparisons C) ++ pieces_from (j + n) Cs)
      (opening_sound (lone C) j C g.0 f)
      (all_append Sound (compared (not (lone C)) j (comparisons C)) (pieces_from (j + n) Cs)
      (compared_sound (not (lone C)) j C g.0.literals f)
      (sound_from (j + n) Cs g.1 (omega arith)))

  pub pieces_sound : Admitted B → All Sound (pieces_from 0 B.clauses)
  unfolding selections
  pieces_sound g = sound_from 0 B.clauses g.clauses (omega arith)

  pub piece_mentions : (p : Piece) → Sound p → All (All Mentions) (piece_clauses (bounds_of B) p)
  unfolding piece_clauses
  piece_mentions (line j C) h = (h.1, tt)
  piece_mentions (under lead q) h = under_mentions lead q h.1 h.2

  -- ---- the axioms
  axioms_mention : (x : ℕ) → x < length B.bounds → (bounds_of B x).lo ≤ℤ (bounds_of B x).hi → All (All Mentions) (axioms_of (bounds_of B) x)
  unfolding axioms_of
  axioms_mention x h o =
      let r = bounds_of B x in
      let low = sub_law r.lo (pos 1) in (
        ((h, omega whole, omega whole), tt),
        (
          ((h, omega whole, omega whole), tt),
          all_map (All Mentions) (λ c. minus (order x (c -ℤ pos 1)) ∷ plus (order x c) ∷ []) (range r.lo r.hi)
              (all-range (λ c. All Mentions (minus (order x (c -ℤ pos 1)) ∷ plus (order x c) ∷ [])) r.lo r.hi (λ c l u.
              ((h, omega (whole, sub_law c (pos 1)), omega (whole, sub_law c (pos 1))), ((h, omega whole, u), tt)))),
        ),
      )

-- ---- all of them
pub clauses_mention : (B : Board) → Admitted B → All (All (Mentions B)) (clauses B)
unfolding clauses axioms rules variables
clauses_mention B g =
    let n = length B.bounds in
    let ps = pieces_from 0 B.clauses in
    all_append (All (Mentions B)) (flatten (axioms B)) (flatten (rules B))
    (all-flatten (All (Mentions B)) (axioms B) (all_map (All (All (Mentions B))) (axioms_of (bounds_of B)) (count_up 0 n)
    (all-count_up (λ x. All (All (Mentions B)) (axioms_of (bounds_of B) x)) 0 n (λ x l u.
    axioms_mention B x (omega arith) (good_bounds B g.bounds x (omega arith)).ordered))))
    (rw (rules-pieces (bounds_of B) 0 B.clauses)
    (all-flatten (All (Mentions B)) (map (piece_clauses (bounds_of B)) ps)
    (all_map (All (All (Mentions B))) (piece_clauses (bounds_of B)) ps
    (all_impl (Sound B) (λ p. All (All (Mentions B)) (piece_clauses (bounds_of B) p)) (piece_mentions B) ps (pieces_sound B g)))))

-- a number of the clause list that is no clause's end
abbrev pub InList : ℕ → ℤ → Type 0
InList n z = (1 ≤ nat_abs z) × (nat_abs z ≤ n)

pub literal_size : (B : Board) (l : SatLiteral) → nat_abs (literal_number B l) ≡ number B (atom_of l)
unfolding literal_number
literal_size B (plus a) = refl
literal_size B (minus a) = abs_neg (pos (number B a))

pub literals-numbered : (B : Board) → Admitted B → All (All (λ l. InList (N B) (literal_number B l))) (clauses B)
literals-numbered B g =
    all_impl (All (Mentions B)) (All (λ l. InList (N B) (literal_number B l)))
    (all_impl (Mentions B) (λ l. InList (N B) (literal_number B l)) (λ l h. rw (literal_size B l) (number-range B (atom_of l) h)))
    (clauses B) (clauses_mention B g)
