-- A comparison's kept clauses are those of its first tuples in rising order, over any number of terms. Assumes nothing.
use Rattle.std.specs.Prelude.{◌≡◌, refl, ◌≢◌, Bool, true, false, ℕ, T, ℤ, ◌+ℤ◌, ◌-ℤ◌, ◌≤ℤ◌, ◌<ℤ◌, if◌then◌else◌}
use Rattle.std.proofs.Common.{sym, ◌∙◌}
use Rattle.std.proofs.Math.Path.{ap}
use mathlib.Core.List.{List, [], ◌∷◌, ◌++◌, map, zip_with, map-map, map-id}
use Rattle.std.proofs.Math.ListN.{length}
use Rattle.std.proofs.lemmas.List.{length-map}
use Rattle.std.proofs.Math.IntN.{pos}
use Rattle.std.specs.Int.Signed.{le_z}
use Rattle.definitions.specs.Tools.{All, size, sum_z}
use Rattle.definitions.specs.Board.{Board, Bounds, Term, Comparison, bounds_of}
use Rattle.definitions.specs.Encoding.{SatLiteral, SatClause, term_bounds, least, tuples_of, sharp, clauses_under}
use Rattle.laws.specs.Lists.{map_same, all_every, all_impl}
use Rattle.laws.specs.Whole.{whole, add_law, sub_law, part_law}
use Rattle.laws.specs.Tuples.{lows, widths, shift, tuples-offsets}
use Rattle.laws.specs.Admitted.{Admitted, GoodTerm, GoodComparison}
use Rattle.laws.specs.Terms.{good_bounds, ranges, ranges_ordered, ranges-least}
use Rattle.laws.specs.Counting.{above}
use Rattle.laws.specs.Offsets.{offsets}
use Rattle.next.specs.Once.{once, same_literal, same_clause, clauses_once}
use Rattle.next.specs.Equal.{literal_decides}
use Rattle.next.specs.Seen.{once-unseen}
use Rattle.next.specs.Classes.{Place, Parted, pick, literals_at, widths_of}
use Rattle.next.specs.FirstTuples.{firsts, unseen-led}
use Rattle.next.specs.TermClasses.{place_of, parted}

-- ---- literals in front make no difference
led-once : (l : SatLiteral) (cs : List SatClause) → once same_clause (map (λ c. l ∷ c) cs) ≡ map (λ c. l ∷ c) (once same_clause cs)
led-once l cs =
    once-unseen same_clause (map (λ c. l ∷ c) cs)
    ∙ unseen-led same_literal literal_decides l (λ d. false) cs
    ∙ ap (map (λ c. l ∷ c)) (sym (once-unseen same_clause cs))

lead_once : (lead : SatClause) (cs : List SatClause) → once same_clause (map (λ c. lead ++ c) cs) ≡ map (λ c. lead ++ c) (once same_clause cs)
lead_once [] cs = ap (once same_clause) (map-id cs) ∙ sym (map-id (once same_clause cs))
lead_once (l ∷ lead) cs =
    ap (once same_clause) (sym (map-map (λ c. l ∷ c) (λ c. lead ++ c) cs))
    ∙ led-once l (map (λ c. lead ++ c) cs)
    ∙ ap (map (λ c. l ∷ c)) (lead_once lead cs)
    ∙ map-map (λ c. l ∷ c) (λ c. lead ++ c) (once same_clause cs)

-- ---- the tuples that are the first of their clause
abbrev pub places_of : (ℕ → Bounds) → List Term → List (Place SatLiteral)
places_of of ts = map (place_of of) ts

-- as offsets from the least bounds
abbrev pub first_offsets : (ℕ → Bounds) → Comparison → List (List ℕ)
first_offsets of q = pick true (places_of of q.terms) (above of q)

-- as bounds
abbrev pub first_tuples : (ℕ → Bounds) → Comparison → List (List ℤ)
first_tuples of q = map (shift (lows (ranges of q.terms))) (first_offsets of q)

literals-shift : (of : ℕ → Bounds) (ts : List Term) (ks : List ℕ) → zip_with sharp ts (shift (lows (ranges of ts)) ks) ≡ literals_at (places_of of ts) ks
unfolding zip_with
literals-shift of [] ks = refl
literals-shift of (t ∷ ts) [] = refl
literals-shift of (t ∷ ts) (k ∷ ks) = ap (λ z. sharp t (((term_bounds of t).lo -ℤ pos 1) +ℤ pos k) ∷ z) (literals-shift of ts ks)

shifted : (of : ℕ → Bounds) (ts : List Term) (kss : List (List ℕ)) → map (zip_with sharp ts) (map (shift (lows (ranges of ts))) kss) ≡ map (literals_at (places_of of ts)) kss
shifted of ts kss = map-map (zip_with sharp ts) (shift (lows (ranges of ts))) kss ∙ map_same _ _ kss (all_every _ (literals-shift of ts) kss)

widths-of : (of : ℕ → Bounds) (ts : List Term) → widths (ranges of ts) ≡ widths_of (places_of of ts)
widths-of of [] = refl
widths-of of (t ∷ ts) = ap (λ z. size ((term_bounds of t).hi -ℤ ((term_bounds of t).lo -ℤ pos 1)) ∷ z) (widths-of of ts)

all_parted : (of : ℕ → Bounds) (ts : List Term) → All (λ t. t.coef ≢ pos 0) ts → All Parted (places_of of ts)
all_parted of [] a = tt
all_parted of (t ∷ ts) a = (parted of t a.0, all_parted of ts a.1)

-- a comparison whose clauses come from tuples: no coefficient is 0, bounds are ordered, and the constant is not below every sum
pub record FromTuples (of : ℕ → Bounds) (q : Comparison) : Type 0 where
  pub some : All (λ t. t.coef ≢ pos 0) q.terms
  pub ordered : All (λ t. (of t.var).lo ≤ℤ (of t.var).hi) q.terms
  pub reached : least of q.terms ≤ℤ q.constant

-- so it is in an admitted board
pub admitted_tuples : (B : Board) → Admitted B → (q : Comparison) → GoodComparison (length B.bounds) q → least (bounds_of B) q.terms ≤ℤ q.constant
    → FromTuples (bounds_of B) q
admitted_tuples B g q k h = record {
  some = all_impl (GoodTerm (length B.bounds)) _ (λ t w. w.some) q.terms k.terms;
  ordered = all_impl (GoodTerm (length B.bounds)) _ (λ t w. (good_bounds B g.bounds t.var w.known).ordered) q.terms k.terms;
  reached = h;
}

module _ (of : ℕ → Bounds) (q : Comparison) (h : FromTuples of q) where
  -- the sum of a tuple's offsets
  tuples_are : tuples_of of q ≡ map (shift (lows (ranges of q.terms))) (offsets (widths (ranges of q.terms)) (above of q))
  unfolding tuples_of
  tuples_are =
      let k = q.constant in
      let m = length q.terms in
      let rs = ranges of q.terms in
      let t = above of q in
      let L = least of q.terms in
      let r = ranges-least of q.terms in
      let reached = h.reached in
      tuples-offsets rs (ranges_ordered of q.terms h.ordered) (k -ℤ pos m +ℤ pos 1) t
      (omega (whole, add_law (k -ℤ pos m) (pos 1), sub_law k (pos m), add_law (sum_z (lows rs)) (pos t), sub_law L (pos m), add_law (k -ℤ L) (pos 1), sub_law k L, part_law (k -ℤ L +ℤ pos 1)))

  firsts_kept : once same_clause (map (zip_with sharp q.terms) (tuples_of of q)) ≡ map (zip_with sharp q.terms) (first_tuples of q)
  firsts_kept =
      let ts = q.terms in
      let kss = offsets (widths (ranges of ts)) (above of q) in
      ap (λ l. once same_clause (map (zip_with sharp ts) l)) tuples_are
      ∙ ap (once same_clause) (shifted of ts kss ∙ ap (λ ws. map (literals_at (places_of of ts)) (offsets ws (above of q))) (widths-of of ts))
      ∙ firsts same_literal literal_decides (places_of of ts) (all_parted of ts h.some) (above of q)
      ∙ sym (shifted of ts (first_offsets of q))

  -- the clauses kept: `clauses_under` with the first tuples in place of all
  pub kept : (lead : SatClause) → clauses_once lead of q ≡ map (λ bs. lead ++ zip_with sharp q.terms bs) (first_tuples of q)
  unfolding clauses_once clauses_under
  kept lead = go (le_z (least of q.terms) q.constant) h.reached.le
    where
      some : once same_clause (map (λ bs. lead ++ zip_with sharp q.terms bs) (tuples_of of q)) ≡ map (λ bs. lead ++ zip_with sharp q.terms bs) (first_tuples of q)
      some =
          ap (once same_clause) (sym (map-map (λ c. lead ++ c) (zip_with sharp q.terms) (tuples_of of q)))
          ∙ lead_once lead (map (zip_with sharp q.terms) (tuples_of of q))
          ∙ ap (map (λ c. lead ++ c)) firsts_kept
          ∙ map-map (λ c. lead ++ c) (zip_with sharp q.terms) (first_tuples of q)

      go : (b : Bool) → T b → once same_clause (if b then map (λ bs. lead ++ zip_with sharp q.terms bs) (tuples_of of q) else lead ∷ [])
          ≡ map (λ bs. lead ++ zip_with sharp q.terms bs) (first_tuples of q)
      go true t = some
      go false t = absurd t

  pub kept_count : (lead : SatClause) → length (clauses_once lead of q) ≡ length (first_offsets of q)
  kept_count lead =
      ap length (kept lead)
      ∙ length-map (first_tuples of q) (λ bs. lead ++ zip_with sharp q.terms bs)
      ∙ length-map (first_offsets of q) (shift (lows (ranges of q.terms)))

-- where the constant is below every sum: the leading literals alone
pub kept_below : (lead : SatClause) (of : ℕ → Bounds) (q : Comparison) → q.constant <ℤ least of q.terms → clauses_once lead of q ≡ lead ∷ []
unfolding clauses_once clauses_under once
kept_below lead of q h = go (le_z (least of q.terms) q.constant) refl
  where
    go : (b : Bool) → le_z (least of q.terms) q.constant ≡ b
        → once same_clause (if b then map (λ bs. lead ++ zip_with sharp q.terms bs) (tuples_of of q) else lead ∷ []) ≡ lead ∷ []
    go true e = absurd (omega whole)
    go false e = refl
