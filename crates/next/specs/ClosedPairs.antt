-- The counts of two places in closed form: windows of multiples, and pairs of multiples by one remainder. Assumes nothing.
use Rattle.std.specs.Prelude.{◌≡◌, refl, Bool, true, ◌&&◌, [], ◌∷◌, eqb}
use Rattle.std.proofs.Common.{sym, ap₂, ◌∙◌}
use Rattle.std.proofs.Math.Path.{ap}
use Rattle.std.proofs.Math.Bool.{or-true, or-false, and-true}
use Prim.Native.Nat.{ℕ, zero, suc, min, ◌+◌, ◌-◌, ◌%◌, ◌≤◌, ◌<◌}
use native.Mathlib.Omega.{arith}
use Rattle.next.specs.RunSums.{total, hits, mark, hits-same, hits-first, hits-last, hits-moved, hits_or, hits-turned}
use Rattle.next.specs.Bools.{eqb_no, eqb_yes}
use Rattle.next.specs.Classes.{Place, is_low, is_high}
use Rattle.next.specs.FirstCounts.{first_count, full_count}
use Rattle.next.specs.Pairs.{first_two, full_two}
use Rattle.next.specs.ClassEnds.{Every}

module _ {L : Type 0} (p : Place L) where
  high_inside : (k : ℕ) → k < p.width → is_high p k ≡ p.cut k
  high_inside k h = rw (eqb_no k p.width (λ e. omega arith)) (or-false (p.cut k))

  high_end : is_high p p.width ≡ true
  high_end = rw (eqb_yes p.width p.width refl) (or-true (p.cut p.width))

  low_before : (k : ℕ) → 0 < k → is_low p k ≡ p.cut (k - 1)
  low_before zero h = absurd (omega arith)
  low_before (suc k) h = let e : suc k - 1 ≡ k = omega arith in ap p.cut (sym e)

  -- the least ones in a window
  pub lows_from_none : (n : ℕ) → hits (is_low p) 0 (suc n) ≡ suc (hits p.cut 0 n)
  lows_from_none n =
      omega (arith, hits-first (is_low p) 0 n, hits-same (is_low p) (λ k. p.cut (k - 1)) 1 n (λ k l u. low_before k l), hits-moved p.cut 0 n)

  pub lows-from : (b n : ℕ) → hits (is_low p) (suc b) n ≡ hits p.cut b n
  lows-from b n = hits-same (is_low p) (λ k. p.cut (k - 1)) (suc b) n (λ k l u. low_before k (omega arith)) ∙ hits-moved p.cut b n

  -- the greatest ones
  pub highs_inside : (b n : ℕ) → b + n ≤ p.width → hits (is_high p) b n ≡ hits p.cut b n
  highs_inside b n h = hits-same (is_high p) p.cut b n (λ k l u. high_inside k (omega arith))

  pub highs_to_end : (b n : ℕ) → b + n ≡ p.width → hits (is_high p) b (suc n) ≡ suc (hits p.cut b n)
  highs_to_end b n h = omega (arith, hits-last (is_high p) b n, highs_inside b n (omega arith), ap {B = ℕ} (λ k. mark (is_high p k)) h, ap mark high_end)

-- ---- pairs: the first place at a multiple below its width, the second at a greatest one
module _ {L : Type 0} (b c : Place L) where
  abbrev pub inner : ℕ → ℕ
  inner s = hits (λ k. b.cut k && is_high c (s - k)) (s - c.width) (min b.width (suc s) - (s - c.width))

  -- both at their greatest
  pub full_below : (s : ℕ) → s < b.width → full_count (b ∷ c ∷ []) s ≡ inner s
  full_below s h =
      let e : suc (min b.width s) - (s - c.width) ≡ min b.width (suc s) - (s - c.width) = omega arith in
      full_two b c s (omega arith)
      ∙ ap (hits (λ k. is_high b k && is_high c (s - k)) (s - c.width)) e
      ∙ hits-same _ _ (s - c.width) _ (λ k l u. ap (λ x. x && is_high c (s - k)) (high_inside b k (omega arith)))

  pub full_above : (s : ℕ) → b.width ≤ s → s ≤ b.width + c.width → full_count (b ∷ c ∷ []) s ≡ inner s + mark (is_high c (s - b.width))
  full_above s h l =
      let e : suc (min b.width s) - (s - c.width) ≡ suc (b.width - (s - c.width)) = omega arith in
      let e' : min b.width (suc s) - (s - c.width) ≡ b.width - (s - c.width) = omega arith in
      let e'' : (s - c.width) + (b.width - (s - c.width)) ≡ b.width = omega arith in
      let f : ℕ → Bool = λ k. is_high b k && is_high c (s - k) in
      full_two b c s (omega arith)
      ∙ ap (hits f (s - c.width)) e
      ∙ hits-last f (s - c.width) (b.width - (s - c.width))
      ∙ ap₂ (λ x y. x + y)
      (hits-same f (λ k. b.cut k && is_high c (s - k)) (s - c.width) (b.width - (s - c.width)) (λ k l u. ap (λ x. x && is_high c (s - k)) (high_inside b k (omega arith)))
      ∙ ap (hits (λ k. b.cut k && is_high c (s - k)) (s - c.width)) (sym e'))
      (ap (λ k. mark (is_high b k && is_high c (s - k))) e'' ∙ ap (λ x. mark (x && is_high c (s - b.width))) (high_end b))

  -- the first at its least, the second at its greatest
  abbrev pub mixed : ℕ → ℕ
  mixed s = hits (λ k. is_low b k && is_high c (s - k)) (s - c.width) (suc (min b.width s) - (s - c.width))

  mixed-moved : (s d n : ℕ) → hits (λ k. is_low b k && is_high c (suc s - k)) (suc d) n ≡ hits (λ k. b.cut k && is_high c (s - k)) d n
  mixed-moved s d n =
      hits-same _ (λ k. b.cut (k - 1) && is_high c (s - (k - 1))) (suc d) n
      (λ k l u. (let e : suc s - k ≡ s - (k - 1) = omega arith in ap₂ (λ x y. x && is_high c y) (low_before b k (omega arith)) e))
      ∙ hits-moved (λ k. b.cut k && is_high c (s - k)) d n

  pub mixed_low : (s : ℕ) → suc s ≤ c.width → mixed (suc s) ≡ mark (is_high c (suc s)) + inner s
  mixed_low s h =
      let z : suc s - c.width ≡ 0 = omega arith in
      let z' : s - c.width ≡ 0 = omega arith in
      let n : suc (min b.width (suc s)) - 0 ≡ suc (min b.width (suc s)) = omega arith in
      let n' : min b.width (suc s) - 0 ≡ min b.width (suc s) = omega arith in
      let y : suc s - 0 ≡ suc s = omega arith in
      let f : ℕ → Bool = λ k. is_low b k && is_high c (suc s - k) in
      ap (λ d. hits f d (suc (min b.width (suc s)) - d)) z
      ∙ ap (hits f 0) n
      ∙ hits-first f 0 (min b.width (suc s))
      ∙ ap₂ (λ p q. mark (is_high c p) + q) y
      (mixed-moved s 0 (min b.width (suc s))
      ∙ ap (hits (λ k. b.cut k && is_high c (s - k)) 0) (sym n')
      ∙ ap (λ d. hits (λ k. b.cut k && is_high c (s - k)) d (min b.width (suc s) - d)) (sym z'))

  pub mixed-high : (s : ℕ) → c.width < suc s → mixed (suc s) ≡ inner s
  mixed-high s h =
      let z : suc s - c.width ≡ suc (s - c.width) = omega arith in
      let n : suc (min b.width (suc s)) - suc (s - c.width) ≡ min b.width (suc s) - (s - c.width) = omega arith in
      ap (λ d. hits (λ k. is_low b k && is_high c (suc s - k)) d (suc (min b.width (suc s)) - d)) z
      ∙ ap (hits (λ k. is_low b k && is_high c (suc s - k)) (suc (s - c.width))) n
      ∙ mixed-moved s (s - c.width) (min b.width (suc s) - (s - c.width))

  -- first tuples: least ones of the first place, greatest ones of the second, less those that are both
  pub first-two-closed : (s : ℕ) → s - c.width ≤ suc (min b.width s) → (let n = suc (min b.width s) - (s - c.width) in
      first_count (b ∷ c ∷ []) s + mixed s ≡ hits (is_low b) (s - c.width) n + hits (is_high c) (s - min b.width s) n)
  first-two-closed s h =
      let n = suc (min b.width s) - (s - c.width) in
      let e : suc s - ((s - c.width) + (suc (min b.width s) - (s - c.width))) ≡ s - min b.width s = omega arith in
      omega (arith, first_two b c s h, hits_or (is_low b) (λ k. is_high c (s - k)) (s - c.width) n, hits-turned (is_high c) s (s - c.width) n (omega arith), ap (λ d. hits (is_high c) d n) e)

  -- ---- inner pairs by remainders
  module _ (A B : ℕ) (hb : Every A b) (hc : Every B c) where
    pub inner_low : (s : ℕ) → s < c.width → inner s ≡ hits (λ k. eqb (k % A) 0 && eqb ((s - k) % B) 0) 0 (min b.width (suc s))
    inner_low s h =
        let z : s - c.width ≡ 0 = omega arith in
        let n : min b.width (suc s) - 0 ≡ min b.width (suc s) = omega arith in
        ap (λ d. hits (λ k. b.cut k && is_high c (s - k)) d (min b.width (suc s) - d)) z
        ∙ ap (hits (λ k. b.cut k && is_high c (s - k)) 0) n
        ∙ hits-same _ _ 0 (min b.width (suc s)) (λ k l u. ap₂ (λ x y. x && y) (hb k) (high_inside c (s - k) (omega arith) ∙ hc (s - k)))

    pub inner-high : (s : ℕ) → c.width ≤ s → s - c.width < b.width
        → inner s ≡ mark (eqb ((s - c.width) % A) 0) + hits (λ k. eqb (k % A) 0 && eqb ((s - k) % B) 0) (suc (s - c.width)) (min b.width (suc s) - suc (s - c.width))
    inner-high s h l =
        let n : min b.width (suc s) - (s - c.width) ≡ suc (min b.width (suc s) - suc (s - c.width)) = omega arith in
        let z : s - (s - c.width) ≡ c.width = omega arith in
        ap (hits (λ k. b.cut k && is_high c (s - k)) (s - c.width)) n
        ∙ hits-first (λ k. b.cut k && is_high c (s - k)) (s - c.width) (min b.width (suc s) - suc (s - c.width))
        ∙ ap₂ (λ x y. mark x + y)
        (ap₂ (λ x y. x && y) (hb (s - c.width)) (ap (is_high c) z ∙ high_end c) ∙ and-true (eqb ((s - c.width) % A) 0))
        (hits-same _ _ (suc (s - c.width)) _ (λ k v u. ap₂ (λ x y. x && y) (hb k) (high_inside c (s - k) (omega arith) ∙ hc (s - k))))

    pub inner_none : (s : ℕ) → b.width ≤ s - c.width → inner s ≡ 0
    unfolding total
    inner_none s h = let n : min b.width (suc s) - (s - c.width) ≡ 0 = omega arith in ap (hits (λ k. b.cut k && is_high c (s - k)) (s - c.width)) n
