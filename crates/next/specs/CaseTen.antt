-- Case 10 of 01 with no clause twice: its list is counted, not written. It fits now; its clause ten times over does not. Assumes nothing.
use Rattle.std.specs.Prelude.{true, leb, ◌+◌, ◌-◌, ◌≡◌, ◌≢◌, [], ◌∷◌, map, ℕ, zero, suc, ◌%◌, ◌≤◌, ◌<◌, length, replicate, pos, ◌≤ℤ◌}
use Rattle.std.proofs.Math.Path.{refl}
use Rattle.std.proofs.Common.{ap, ◌∙◌, mod-eq_of_lt, arith, lit<, lit≤, leb→le}
use Rattle.definitions.specs.Tools.{All, neg}
use Rattle.definitions.specs.Board.{Bounds, Term, Comparison, Board, at_most, bounds_of}
use Rattle.definitions.specs.Result.{done}
use Rattle.definitions.specs.Encoding.{term_bounds, least, comparisons, selected, width, N, places}
use Rattle.definitions.specs.Operations.{read_board}
use Rattle.definitions.specs.Examples.{hex}
use Rattle.definitions.specs.Open.{all_open}
use Rattle.laws.specs.Admitted.{GoodBounds}
use Rattle.laws.specs.Counting.{above}
use Rattle.laws.specs.Pieces.{compared, lone, pieces_from}
use Rattle.demands.specs.TooLarge.{ten}
use Rattle.next.specs.Once.{clauses_once}
use Rattle.next.specs.OnceBoard.{piece_once, board_once, M-once, K-once, once_places_are}
use Rattle.next.specs.Shapes.{step, step_of, filled}
use Rattle.next.specs.Remainders.{Least}
use Rattle.next.specs.Hops.{hops, low_hops, onward, high-hops}
use Rattle.next.specs.Leaps.{leap, leaps}
use Rattle.next.specs.Classes.{is_low, is_high}
use Rattle.next.specs.ClassEnds.{next_low}
use Rattle.next.specs.Windows.{Starts, leaving, lows_in, highs_in, meeting}
use Rattle.next.specs.CountedPairs.{inner_of, mixed_of, first_pairs, full_pairs}
use Rattle.next.specs.Triples.{strip, first_triples, kept_counted}

-- ---- its board, with its clause n times
abbrev wide : Bounds
wide = record { lo = neg 4096; hi = pos 4095 }

abbrev times64 : ℕ → Term
times64 x = record { coef = pos 64; var = x }

abbrev sum : Comparison
sum = record { terms = times64 0 ∷ times64 1 ∷ times64 2 ∷ []; constant = pos 0 }

abbrev pub board : ℕ → Board
board n = record { bounds = wide ∷ wide ∷ wide ∷ []; bools = 0; clauses = replicate n (at_most sum ∷ []) }

pub ten-read : read_board (hex ten) ≡ done (board 1)
unfolding all_open
ten-read = refl

-- ---- the multiples of 64 that leave a multiple of 64: one start, at 0
abbrev start : ℕ → ℕ
start zero = 0
start (suc r) = 64

period : Least 64 64 64
period = record { some = omega arith; one = refl; two = refl; none = λ r p u e f. (let x = mod-eq_of_lt u in omega arith) }

starts : Starts 64 64 64 start
starts = record { met = met; none = none }
  where
    met : (r : ℕ) → r < 64 → start r < 64 → (start r % 64 ≡ 0) × (start r % 64 ≡ r)
    met zero l u = (refl, refl)
    met (suc r) l u = absurd (omega arith)

    none : (r : ℕ) → r < 64 → 64 ≤ start r → (k : ℕ) → k < 64 → k % 64 ≡ 0 → k % 64 ≡ r → ⊥
    none zero l u k s e f = omega arith
    none (suc r) l u k s e f = omega arith

-- ---- its comparison: three places of 524,225 steps, the sum 786,433 above the least
-- its three loops, by leaps
low_sum : (ℕ → ℕ) → ℕ
low_sum g = (leap (next_low 64) g 524226 14 0).so_far

high_sum : (ℕ → ℕ) → ℕ
high_sum g = (leap (onward 64 524225) g 524226 14 0).so_far

by_leaps : low_sum (λ k. first_pairs 64 524225 64 524225 64 start (786433 - k)) + high_sum (λ k. strip 64 524225 524225 (786433 - k))
    - low_sum (λ k. full_pairs 64 524225 64 524225 64 start (786433 - k)) ≡ 100675584
unfolding low_sum high_sum strip first_pairs full_pairs mixed_of inner_of meeting lows_in highs_in leaving leap
by_leaps = refl

low_reaches : (g : ℕ → ℕ) → leb 524226 (leap (next_low 64) g 524226 14 0).from ≡ true
unfolding leap
low_reaches g = refl

high_reaches : (g : ℕ → ℕ) → leb 524226 (leap (onward 64 524225) g 524226 14 0).from ≡ true
unfolding leap
high_reaches g = refl

low_leaps : (g : ℕ → ℕ) → hops (next_low 64) g 524226 524226 0 ≡ low_sum g
unfolding low_sum
low_leaps g = leaps (is_low (step 64 524225)) (next_low 64) 524226 (low_hops 64 524225 524226 (lit< tt)) g 14 524226 0 (lit≤ tt) (λ u. refl) (leb→le 524226 _ (rw (low_reaches g) tt))

high_leaps : (g : ℕ → ℕ) → hops (onward 64 524225) g 524226 524226 0 ≡ high_sum g
unfolding high_sum
high_leaps g = leaps (is_high (step 64 524225)) (onward 64 524225) 524226 (high-hops 64 524225 524226 (lit< tt) (lit≤ tt)) g 14 524226 0 (lit≤ tt) (λ u. refl) (leb→le 524226 _ (rw (high_reaches g) tt))

counted : first_triples 64 524225 64 524225 64 524225 64 start 786433 ≡ 100675584
unfolding first_triples
counted =
    omega (
      arith,
      low_leaps (λ k. first_pairs 64 524225 64 524225 64 start (786433 - k)),
      high_leaps (λ k. strip 64 524225 524225 (786433 - k)),
      low_leaps (λ k. full_pairs 64 524225 64 524225 64 start (786433 - k)),
      by_leaps,
    )

module _ (n : ℕ) where
  shapes : filled (map (step_of (bounds_of (board n))) sum.terms) ≡ step 64 524225 ∷ step 64 524225 ∷ step 64 524225 ∷ []
  unfolding term_bounds bounds_of
  shapes = refl

  height : above (bounds_of (board n)) sum ≡ 786433
  unfolding term_bounds bounds_of least
  height = refl

  some_sum : least (bounds_of (board n)) sum.terms ≤ℤ pos 0
  unfolding term_bounds bounds_of least
  some_sum = record { le = tt }

  ordered : All (λ t. (bounds_of (board n) t.var).lo ≤ℤ (bounds_of (board n) t.var).hi) sum.terms
  unfolding bounds_of
  ordered = (record { le = tt }, (record { le = tt }, (record { le = tt }, tt)))

  pub kept_clauses : length (clauses_once [] (bounds_of (board n)) sum) ≡ 100675584
  kept_clauses =
      kept_counted (bounds_of (board n)) sum (record { some = (some, (some, (some, tt))); ordered = ordered; reached = some_sum }) [] 64 524225 64 524225 64 524225 64 start
      shapes (omega arith) (omega arith) (omega arith) period starts
      ∙ ap (first_triples 64 524225 64 524225 64 524225 64 start) height
      ∙ counted
    where
      some : pos 64 ≢ pos 0
      some e = let z : ◌≡◌ {A = ℕ} 64 0 = cc in omega arith

  kept_places : places (clauses_once [] (bounds_of (board n)) sum) ≡ 402702336
  kept_places = omega (arith, once_places_are [] (bounds_of (board n)) sum some_sum, kept_clauses)

good : (n : ℕ) → All GoodBounds (board n).bounds
good n = (one, (one, (one, tt)))
  where
    one : GoodBounds wide
    one = record { lowest = record { le = tt }; ordered = record { le = tt }; highest = record { le = tt } }

-- ---- N, M and K
pub case_10_N : N (board 1) ≡ 24579
unfolding N width selected
case_10_N = refl

pub case_10_M : length (board_once (board 1)) ≡ 100700166
unfolding pieces_from compared lone comparisons piece_once width
case_10_M = omega (arith, M-once (board 1) (good 1), kept_clauses 1)

pub case_10_K : places (board_once (board 1)) ≡ 402776076
unfolding pieces_from compared lone comparisons piece_once width
case_10_K = omega (arith, K-once (board 1) (good 1), kept_places 1)

-- the limit of refusal 9 is passed by its clause ten times over
pub ten-times : 2000000000 < places (board_once (board 10))
unfolding pieces_from compared lone comparisons piece_once width
ten-times = omega (arith, K-once (board 10) (good 10), kept_places 10)
