-- The first tuples of three places counted in two loops: over the least ones of the first and over the greatest ones of the second. Assumes nothing.
use Rattle.std.specs.Prelude.{◌≡◌, refl, Bool, true, false, not, ◌||◌, [], ◌∷◌, map, ℕ, suc, min, ◌+◌, ◌-◌, ◌%◌, ◌≤◌, ◌<◌, T, eqb, leb, length, if◌then◌else◌}
use Rattle.std.proofs.Common.{sym, ap, ◌∙◌, leb→le}
use Rattle.std.proofs.Math.Nat.{zero-mod}
use native.Mathlib.Omega.{arith}
use Rattle.std.proofs.Math.Dec.{nleb→lt}
use Rattle.definitions.specs.Board.{Bounds, Comparison}
use Rattle.definitions.specs.Encoding.{SatClause, least}
use Rattle.laws.specs.Counting.{above}
use Rattle.next.specs.Once.{clauses_once}
use Rattle.next.specs.Bools.{eqb_yes}
use Rattle.next.specs.RunSums.{total, total-same, total-append, total_none, total-cut, total-plus, hits}
use Rattle.next.specs.Classes.{Place, is_low, is_high}
use Rattle.next.specs.FirstCounts.{below, below_none, first_count, full_count, highs_below, highs_of, highs_more}
use Rattle.next.specs.Pairs.{one_in_front}
use Rattle.next.specs.Kept.{FromTuples}
use Rattle.next.specs.Shapes.{step, step_of, kept_by_steps, filled, filled-count}
use Rattle.next.specs.Remainders.{Least}
use Rattle.next.specs.ClassEnds.{next_low}
use Rattle.next.specs.Hops.{hops, hops-total, low_hops, onward, high-hops}
use Rattle.next.specs.Windows.{Starts, highs_in, highs_in_is}
use Rattle.next.specs.CountedPairs.{first_pairs, first_pairs_is, full_pairs, full_pairs_is}

-- ---- greatest ones of the last place
highs_one : {L : Type 0} (c : Place L) (u : ℕ) → highs_below (c ∷ []) u ≡ hits (is_high c) 0 (min u (suc c.width))
unfolding below
highs_one c u =
    let w = suc c.width in
    let m = min u w in
    let e : w ≡ m + (w - m) = omega arith in
    let f : ℕ → ℕ = λ k. if is_high c k then below [] (u - k) else 0 in
    highs_more c [] u
    ∙ ap (total f 0) e
    ∙ (let s = total-append f 0 m (w - m) in
    let z : total f (0 + m) (w - m) ≡ 0 = total_none f (0 + m) (w - m) (λ k p q. none (is_high c k) k (omega arith)) in
    let g : total f 0 m ≡ hits (is_high c) 0 m = total-same f _ 0 m (λ k p q. one (is_high c k) k (omega arith)) in
    omega (arith, s, z, g))
  where
    none : (b : Bool) (k : ℕ) → u ≤ k → (if b then below [] (u - k) else 0) ≡ 0
    none true k h = omega arith
    none false k h = refl

    one : (b : Bool) (k : ℕ) → k < u → (if b then below [] (u - k) else 0) ≡ (if b then 1 else 0)
    one true k h = omega arith
    one false k h = refl

-- what lies within w below t
highs_strip : {L : Type 0} (c : Place L) (w t : ℕ) → (let lo = min (t - w) (suc c.width) in
    highs_below (c ∷ []) (suc t) ≡ highs_below (c ∷ []) (t - w) + hits (is_high c) lo (min (suc t) (suc c.width) - lo))
highs_strip c w t =
    let lo = min (t - w) (suc c.width) in
    let hi = min (suc t) (suc c.width) in
    let e : hi ≡ lo + (hi - lo) = omega arith in
    let z : 0 + lo ≡ lo = omega arith in
    omega (arith, highs_one c (suc t), highs_one c (t - w), ap (hits (is_high c) 0) e, total-append (λ k. if is_high c k then 1 else 0) 0 lo (hi - lo), ap (λ b. hits (is_high c) b (hi - lo)) z)

-- ---- three places
first_three : {L : Type 0} (a b c : Place L) (t : ℕ) → (let n = suc (min a.width t) in
    first_count (a ∷ b ∷ c ∷ []) t
    + total (λ k. if is_low a k then full_count (b ∷ c ∷ []) (t - k) else 0) 0 n
    + total (λ k. if is_high b k then highs_below (c ∷ []) ((t - a.width) - k) else 0) 0 (suc b.width)
    ≡ total (λ k. if is_low a k then first_count (b ∷ c ∷ []) (t - k) else 0) 0 n + total (λ k. if is_high b k then highs_below (c ∷ []) (suc t - k) else 0) 0 (suc b.width))
first_three a b c t = omega (arith, one_in_front a (b ∷ c ∷ []) t, highs_more b (c ∷ []) (t - a.width), highs_more b (c ∷ []) (suc t))

-- ---- the greatest ones of the last place, whose step is c and width x, within w below u
unfoldable pub strip : ℕ → ℕ → ℕ → ℕ → ℕ
strip c x w u = if leb (min (suc u) (suc x)) (min (u - w) (suc x)) then 0 else highs_in c x (min (u - w) (suc x)) (min (suc u) (suc x))

strip_is : (c x w u : ℕ) → 0 < c → (let lo = min (u - w) (suc x) in strip c x w u ≡ hits (is_high (step c x)) lo (min (suc u) (suc x) - lo))
unfolding strip total
strip_is c x w u h = go (leb hi lo) (leb→le hi lo) (nleb→lt hi lo)
  where
    lo : ℕ
    lo = min (u - w) (suc x)

    hi : ℕ
    hi = min (suc u) (suc x)

    go : (t : Bool) → (T t → hi ≤ lo) → (T (not t) → lo < hi) → (if t then 0 else highs_in c x lo hi) ≡ hits (is_high (step c x)) lo (hi - lo)
    go true y z = let q = y tt in let e : hi - lo ≡ 0 = omega arith in sym (ap (hits (is_high (step c x)) lo) e)
    go false y z = highs_in_is c x lo hi h (z tt) (omega arith)

-- ---- steps a, b, c and widths w, v, x
module _ (a w b v c x P : ℕ) (start : ℕ → ℕ) where
  unfoldable pub first_triples : ℕ → ℕ
  first_triples s =
      hops (next_low a) (λ k. first_pairs b v c x P start (s - k)) (suc (min w s)) (suc (min w s)) 0
      + hops (onward b v) (λ k. strip c x w (s - k)) (suc (min v s)) (suc (min v s)) 0
      - hops (next_low a) (λ k. full_pairs b v c x P start (s - k)) (suc (min w s)) (suc (min w s)) 0

  module _ (ha : 0 < a) (hb : 0 < b) (hc : 0 < c) (least : Least b c P) (starts : Starts b c P start) (s : ℕ) where
    abbrev one : Place ℕ
    one = step a w

    abbrev two : Place ℕ
    two = step b v

    abbrev last : Place ℕ
    last = step c x

    abbrev over_lows : (ℕ → ℕ) → ℕ
    over_lows g = total (λ k. if is_low one k then g k else 0) 0 (suc (min w s))

    from_none : (f : ℕ → ℕ) (end : ℕ) → total f 0 (end - 0) ≡ total f 0 end
    from_none f end = let e : end - 0 ≡ end = omega arith in ap (total f 0) e

    low_loop : (g h : ℕ → ℕ) → ((k : ℕ) → g k ≡ h k) → hops (next_low a) g (suc (min w s)) (suc (min w s)) 0 ≡ over_lows h
    low_loop g h e =
        hops-total (is_low one) (next_low a) (suc (min w s)) (low_hops a w (suc (min w s)) ha) g (suc (min w s)) 0 (omega arith) (λ u. refl)
        ∙ from_none _ (suc (min w s))
        ∙ total-same _ _ 0 (suc (min w s)) (λ k l u. ap (λ n. if is_low one k then n else 0) (e k))

    high_loop : (g : ℕ → ℕ) → hops (onward b v) g (suc (min v s)) (suc (min v s)) 0 ≡ total (λ k. if is_high two k then g k else 0) 0 (suc (min v s))
    high_loop g =
        hops-total (is_high two) (onward b v) (suc (min v s)) (high-hops b v (suc (min v s)) hb (omega arith)) g (suc (min v s)) 0 (omega arith)
        (λ u. ap (λ t. t || eqb 0 v) (eqb_yes (0 % b) 0 (zero-mod b)))
        ∙ from_none _ (suc (min v s))

    -- what the second loop adds: from the greatest ones below s - w to those up to s
    each : (t : Bool) (k : ℕ) → k ≤ s
        → (if t then highs_below (last ∷ []) (suc s - k) else 0) ≡ (if t then highs_below (last ∷ []) ((s - w) - k) else 0) + (if t then strip c x w (s - k) else 0)
    each true k h =
        let e : suc s - k ≡ suc (s - k) = omega arith in
        let e' : (s - k) - w ≡ (s - w) - k = omega arith in
        omega (arith, highs_strip last w (s - k), strip_is c x w (s - k) hc, ap (highs_below (last ∷ [])) e, ap (highs_below (last ∷ [])) e')
    each false k h = refl

    none : (t : Bool) (u : ℕ) → u ≡ 0 → (if t then highs_below (last ∷ []) u else 0) ≡ 0
    none true u e = ap (highs_below (last ∷ [])) e ∙ below_none (highs_of last ∷ [])
    none false u e = refl

    strips : total (λ k. if is_high two k then highs_below (last ∷ []) (suc s - k) else 0) 0 (suc v)
        ≡ total (λ k. if is_high two k then highs_below (last ∷ []) ((s - w) - k) else 0) 0 (suc v) + total (λ k. if is_high two k then strip c x w (s - k) else 0) 0 (suc (min v s))
    strips =
        let n = suc (min v s) in
        let f : ℕ → ℕ = λ k. if is_high two k then highs_below (last ∷ []) (suc s - k) else 0 in
        let g : ℕ → ℕ = λ k. if is_high two k then highs_below (last ∷ []) ((s - w) - k) else 0 in
        let h : ℕ → ℕ = λ k. if is_high two k then strip c x w (s - k) else 0 in
        omega (
          arith,
          total-cut f 0 n (suc v) (omega arith) (λ k l u. none (is_high two k) (suc s - k) (omega arith)),
          total-cut g 0 n (suc v) (omega arith) (λ k l u. none (is_high two k) ((s - w) - k) (omega arith)),
          total-same f (λ k. g k + h k) 0 n (λ k l u. each (is_high two k) k (omega arith)),
          total-plus g h 0 n,
        )

    -- the law that counts
    pub first_triples_is : first_triples s ≡ first_count (one ∷ two ∷ last ∷ []) s
    unfolding first_triples
    first_triples_is =
        omega (
          arith,
          first_three one two last s,
          strips,
          low_loop (λ k. first_pairs b v c x P start (s - k)) (λ k. first_count (two ∷ last ∷ []) (s - k)) (λ k. first_pairs_is b v c x P start hb hc least starts (s - k)),
          low_loop (λ k. full_pairs b v c x P start (s - k)) (λ k. full_count (two ∷ last ∷ []) (s - k)) (λ k. full_pairs_is b v c x P start hb hc least starts (s - k)),
          high_loop (λ k. strip c x w (s - k)),
        )

-- ---- a comparison's kept clauses, of one to three terms; a missing term is a place of step 1 and width 0 in front
pub kept_counted : (of : ℕ → Bounds) (q : Comparison) → FromTuples of q → (lead : SatClause) (a w b v c x P : ℕ) (start : ℕ → ℕ)
    → filled (map (step_of of) q.terms) ≡ step a w ∷ step b v ∷ step c x ∷ [] → 0 < a → 0 < b → 0 < c → Least b c P → Starts b c P start
    → length (clauses_once lead of q) ≡ first_triples a w b v c x P start (above of q)
kept_counted of q h lead a w b v c x P start e ha hb hc least starts =
    kept_by_steps of q h lead
    ∙ sym (filled-count (map (step_of of) q.terms) (above of q))
    ∙ ap (λ ps. first_count ps (above of q)) e
    ∙ sym (first_triples_is a w b v c x P start ha hb hc least starts (above of q))
