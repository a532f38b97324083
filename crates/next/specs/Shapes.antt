-- The first tuples depend on steps and widths alone: a comparison's kept clauses are counted by numbers, and where all |a| are 1 all are kept. Assumes nothing.
use Rattle.std.specs.Prelude.{◌≡◌, Bool, ◌||◌, ℕ, zero, suc, min, ◌-◌, ◌%◌, length, pos, nat_abs, ◌-ℤ◌, if◌then◌else◌}
use Rattle.std.proofs.Math.Path.{refl, ap}
use Rattle.std.proofs.Common.{◌∙◌}
use Rattle.std.proofs.Math.Bool.{true, false}
use mathlib.Core.List.{List, [], ◌∷◌, map}
use Rattle.std.proofs.Math.Nat.{mod-one}
use Rattle.std.proofs.Math.Dec.{eqb}
use Rattle.std.proofs.lemmas.List.{length-map}
use Rattle.definitions.specs.Tools.{All, size}
use Rattle.definitions.specs.Board.{Bounds, Term, Comparison}
use Rattle.definitions.specs.Encoding.{SatClause, term_bounds}
use Rattle.laws.specs.Runs.{over-same}
use Rattle.laws.specs.Offsets.{offsets}
use Rattle.laws.specs.Counting.{above, ways}
use Rattle.laws.specs.Tuples.{widths}
use Rattle.laws.specs.Terms.{ranges}
use Rattle.next.specs.Once.{clauses_once}
use Rattle.next.specs.Bools.{eqb_yes}
use Rattle.next.specs.Classes.{Place, is_low, is_high, pick, widths_of}
use Rattle.next.specs.FirstCounts.{first_count}
use Rattle.next.specs.PairTests.{pick_padded}
use Rattle.next.specs.Kept.{places_of, FromTuples, kept_count}

-- a class ends at each multiple of a
abbrev pub step : ℕ → ℕ → Place ℕ
step a w = record { width = w; cut = λ k. eqb (k % a) 0; lit = λ k. k }

abbrev shape : {L : Type 0} → Place L → Place ℕ
shape p = record { width = p.width; cut = p.cut; lit = λ k. k }

module _ {L : Type 0} where
  low_same : (p : Place L) (k : ℕ) → is_low p k ≡ is_low (shape p) k
  low_same p zero = refl
  low_same p (suc k) = refl

  pick-shape : (f : Bool) (ps : List (Place L)) (t : ℕ) → pick f ps t ≡ pick f (map shape ps) t
  unfolding pick
  pick-shape f [] t = refl
  pick-shape true (p ∷ ps) t =
      over-same _ _ 0 (suc (min p.width t)) (λ k l u. ap (map (λ ks. k ∷ ks)) (pick-shape (is_low p k) ps (t - k) ∙ ap (λ b. pick b (map shape ps) (t - k)) (low_same p k)))
  pick-shape false (p ∷ ps) t =
      over-same _ _ 0 (suc (min p.width t)) (λ k l u. ap (λ x. if is_high p k then map (λ ks. k ∷ ks) x else []) (pick-shape false ps (t - k)))

  -- ---- classes of one offset each: every tuple is the first of its class
  abbrev Single : Place L → Type 0
  Single p = (k : ℕ) → p.cut k ≡ true

  pick_all : (f : Bool) (ps : List (Place L)) → All Single ps → (t : ℕ) → pick f ps t ≡ offsets (widths_of ps) t
  unfolding pick offsets
  pick_all f [] a t = refl
  pick_all true (p ∷ ps) a t = over-same _ _ 0 (suc (min p.width t)) (λ k l u. ap (map (λ ks. k ∷ ks)) (pick_all (is_low p k) ps a.1 (t - k)))
  pick_all false (p ∷ ps) a t = over-same _ _ 0 (suc (min p.width t)) (λ k l u.
      ap (λ b. if b || eqb k p.width then map (λ ks. k ∷ ks) (pick false ps (t - k)) else []) (a.0 k)
      ∙ ap (map (λ ks. k ∷ ks)) (pick_all false ps a.1 (t - k)))

-- ---- a term's step and width
abbrev pub step_of : (ℕ → Bounds) → Term → Place ℕ
step_of of t = step (nat_abs t.coef) (size ((term_bounds of t).hi -ℤ ((term_bounds of t).lo -ℤ pos 1)))

shapes : (of : ℕ → Bounds) (ts : List Term) → map shape (places_of of ts) ≡ map (step_of of) ts
shapes of [] = refl
shapes of (t ∷ ts) = ap (λ z. step_of of t ∷ z) (shapes of ts)

all-single : (of : ℕ → Bounds) (ts : List Term) → All (λ t. nat_abs t.coef ≡ 1) ts → All (λ p. (k : ℕ) → p.cut k ≡ true) (map (step_of of) ts)
all-single of [] a = tt
all-single of (t ∷ ts) a = (λ k. eqb_yes _ 0 (ap (λ n. k % n) a.0 ∙ mod-one k), all-single of ts a.1)

step-widths : (of : ℕ → Bounds) (ts : List Term) → widths_of (map (step_of of) ts) ≡ widths (ranges of ts)
step-widths of [] = refl
step-widths of (t ∷ ts) = ap (λ z. size ((term_bounds of t).hi -ℤ ((term_bounds of t).lo -ℤ pos 1)) ∷ z) (step-widths of ts)

module _ (of : ℕ → Bounds) (q : Comparison) (h : FromTuples of q) where
  -- how many clauses of a comparison are kept
  pub kept_by_steps : (lead : SatClause) → length (clauses_once lead of q) ≡ first_count (map (step_of of) q.terms) (above of q)
  kept_by_steps lead =
      kept_count of q h lead
      ∙ ap length (pick-shape true (places_of of q.terms) (above of q) ∙ ap (λ ps. pick true ps (above of q)) (shapes of q.terms))

  -- where all |a| are 1: as many as there are tuples
  pub kept_by_ones : (lead : SatClause) → All (λ t. nat_abs t.coef ≡ 1) q.terms → length (clauses_once lead of q) ≡ ways (widths (ranges of q.terms)) (above of q)
  kept_by_ones lead a =
      kept_by_steps lead
      ∙ ap length (pick_all true (map (step_of of) q.terms) (all-single of q.terms a) (above of q))
      ∙ ap (λ ws. ways ws (above of q)) (step-widths of q.terms)

-- ---- three places: those given, and in front as many of no width as are missing
abbrev pub absent : Place ℕ
absent = step 1 0

abbrev pub filled : List (Place ℕ) → List (Place ℕ)
filled [] = absent ∷ absent ∷ absent ∷ []
filled (c ∷ []) = absent ∷ absent ∷ c ∷ []
filled (b ∷ c ∷ []) = absent ∷ b ∷ c ∷ []
filled (a ∷ b ∷ c ∷ ps) = a ∷ b ∷ c ∷ ps

one-absent : (ps : List (Place ℕ)) (t : ℕ) → first_count (absent ∷ ps) t ≡ first_count ps t
one-absent ps t = ap length (pick_padded absent ps t refl) ∙ length-map (pick true ps t) (λ ks. 0 ∷ ks)

pub filled-count : (ps : List (Place ℕ)) (t : ℕ) → first_count (filled ps) t ≡ first_count ps t
filled-count [] t = one-absent (absent ∷ absent ∷ []) t ∙ one-absent (absent ∷ []) t ∙ one-absent [] t
filled-count (c ∷ []) t = one-absent (absent ∷ c ∷ []) t ∙ one-absent (c ∷ []) t
filled-count (b ∷ c ∷ []) t = one-absent (b ∷ c ∷ []) t
filled-count (a ∷ b ∷ c ∷ ps) t = refl
