-- The share of each piece, and shares added up. Assumes nothing.
use mathlib.Core.Path.{◌≡◌, refl, sym, ap₂, subst, ◌∙◌}
use mathlib.Core.Bool.{true, false}
use mathlib.Core.List.{List, ◌∷◌}
use Prim.Native.Nat.{ℕ, ◌+◌, ◌*◌, ◌≤◌, ◌<◌, ◌^◌}
use native.Mathlib.Nat.{mul-le-mul}
use native.Mathlib.Omega.{arith}
use lib.ListN.{length}
use mir.Syntax.{w64}
use mir.Val.{Fits}
use lib.Signed.{le_z, ◌≤ℤ◌, ◌<ℤ◌}
use Rattle.definitions.specs.Board.{Board, bounds_of}
use Rattle.definitions.specs.Board as board
use Rattle.definitions.specs.Encoding.{least}
use Rattle.laws.specs.Whole.{le_test, gt_test}
use Rattle.laws.specs.Admitted.{Admitted, GoodComparison}
use Rattle.laws.specs.Reread.{Recorded}
use Rattle.laws.specs.Pieces.{Piece, line, pieces_from}
use Rattle.laws.specs.Again.{parts-length, literal_at, literals_at}
use Rattle.laws.specs.Sizes.{piece_count, piece_places, piece_selectors, N-sum, M-sum, K-sum}
use Rattle.laws.specs.Fits.{tuples_fit, N_fits, M_fits, K_fits}
use Rattle.walk.specs.declared.Comparison.{Comparison}
use Rattle.walk.specs.Comparisons.{least_of, literals_of, shows_least, shows_count}
use Rattle.slots.specs.Ready.{ReadyBy}
use Rattle.measure.specs.declared.Share.{Share}
use Rattle.measure.specs.Shares.{ShareOf, ShareUnder, Adding, Fit, plus}

-- ---- a line
module _ (of : ℕ → board.Bounds) (t : List ℕ) (n place j : ℕ) where
  abbrev piece : Piece
  piece = line j (literals_at t n place).value

  line-places : n + 1 ≡ piece_places of piece
  unfolding piece_places
  line-places = omega (arith, parts-length literal_at t n place)

  pub line_fits : piece_places of piece < 2 ^ 63 → Fits w64 (n + 1)
  line_fits l = record { fits = omega (arith, line-places) }

  pub line_share : ShareOf of piece (record { clauses = 1; places = n + 1; selectors = 0 })
  unfolding piece_count piece_selectors
  line_share = record { clauses = refl; places = line-places; selectors = refl }

-- ---- a comparison
module _ (B : Board) (g : Admitted B) {f : ℕ → ℕ} (q : board.Comparison) (good : GoodComparison (length B.bounds) q) (c : Comparison) (r : ReadyBy B f q c) where
  abbrev of : ℕ → board.Bounds
  of = bounds_of B

  pub share_below : c.constant <ℤ least_of c → (n : ℕ) → ShareUnder of n q (record { clauses = 1; places = n + 1; selectors = n })
  unfolding piece_count piece_places piece_selectors
  share_below h n lead e =
      let test : le_z (least of q.terms) q.constant ≡ false = gt_test (least of q.terms) q.constant (rw (← shows_least B q c r.shows, ← r.shows.constant) h) in
      record { clauses = rw test; places = rw test (omega arith); selectors = sym e }

  module _ (h : least_of c ≤ℤ c.constant) where
    inside : least of q.terms ≤ℤ q.constant
    inside = rw (← shows_least B q c r.shows, ← r.shows.constant) h

    pub share_reached : (n t : ℕ) → t ≡ length (literals_of c) → ShareUnder of n q (record { clauses = t; places = t * (n + c.n + 1); selectors = n })
    unfolding piece_count piece_places piece_selectors
    share_reached n t u lead e =
        let test : le_z (least of q.terms) q.constant ≡ true = le_test (least of q.terms) q.constant inside in
        record { clauses = rw test (u ∙ shows_count B q c r.shows); places = rw (test, e) (ap₂ (λ a b. a * (n + b + 1)) (u ∙ shows_count B q c r.shows) r.shows.counted); selectors = sym e }

    pub share_fits : (n t : ℕ) → n ≤ 1 → t ≡ length (literals_of c) → t * (n + c.n + 1) < 2 ^ 63
    share_fits n t l u =
        let most : t ≤ 2 ^ 41 = omega (arith, shows_count B q c r.shows, tuples_fit B g q good inside) in
        let few : n + c.n + 1 ≤ 5 = omega (arith, r.fair.few) in
        omega (arith, mul-le-mul most few)

-- ---- shares added up
module _ (of : ℕ → board.Bounds) (all : List Piece) where
  pub none_added : {coming : List Piece} → coming ≡ all → Adding of all coming (record { clauses = 0; places = 0; selectors = 0 })
  none_added e = rw e (record { clauses = omega arith; places = omega arith; selectors = omega arith })

  pub still_adding : {coming coming' : List Piece} {total : Share} → coming ≡ coming' → Adding of all coming total → Adding of all coming' total
  still_adding {total = total} e a = subst (λ l. Adding of all l total) e a

module _ (of : ℕ → board.Bounds) (all ps : List Piece) (total : Share) where
  pub adding-more : (p : Piece) (r : Share) → Adding of all (p ∷ ps) total → ShareOf of p r → Adding of all ps (plus total r)
  adding-more p r a s =
      record {
        clauses = omega (arith, a.clauses, s.clauses);
        places = omega (arith, a.places, s.places);
        selectors = omega (arith, a.selectors, s.selectors);
      }

module _ (B : Board) (g : Recorded B) (p : Piece) (ps : List Piece) (total : Share) (a : Adding (bounds_of B) (pieces_from 0 B.clauses) (p ∷ ps) total) where
  pub next_fits : piece_places (bounds_of B) p < 2 ^ 63
  next_fits = omega (arith, a.places, K-sum B g.admitted.bounds, K_fits B g)

  pub plus_fits : (r : Share) → ShareOf (bounds_of B) p r → Fit (plus total r)
  plus_fits r s =
      record {
        clauses = omega (arith, a.clauses, s.clauses, M-sum B g.admitted.bounds, M_fits B g);
        places = omega (arith, a.places, s.places, K-sum B g.admitted.bounds, K_fits B g);
        selectors = omega (arith, a.selectors, s.selectors, N-sum B, N_fits B g.admitted);
      }
