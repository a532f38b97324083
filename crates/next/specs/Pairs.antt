-- Counts of first tuples in closed windows: one place in front of others, and two places. Assumes nothing.
use Rattle.std.specs.Prelude.{◌≡◌, refl, Bool, true, false, ◌&&◌, ◌||◌, List, [], ◌∷◌, length, if◌then◌else◌}
use Rattle.std.proofs.Math.Path.{ap}
use Rattle.std.proofs.Common.{◌∙◌}
use Prim.Native.Nat.{ℕ, zero, suc, min, ◌+◌, ◌-◌, ◌≤◌, ◌<◌}
use native.Mathlib.Omega.{arith}
use Rattle.laws.specs.Offsets.{offsets}
use Rattle.next.specs.RunSums.{total, total-same, total_none, total-plus, total-last, total_window, hits}
use Rattle.next.specs.Classes.{Place, is_low, is_high, pick}
use Rattle.next.specs.FirstCounts.{first_count, full_count, highs_below, first_more, full_more, full_count_lem}

module _ {L : Type 0} where
  -- ---- one place in front: greatest ones whose sum is within the width below t
  strip-from : (ps : List (Place L)) (t b n : ℕ) → b + n ≤ suc t → total (λ k. full_count ps (t - k)) b n + highs_below ps (suc t - (b + n)) ≡ highs_below ps (suc t - b)
  unfolding total
  strip-from ps t b zero h = let e : suc t - (b + 0) ≡ suc t - b = omega arith in omega (arith, ap (highs_below ps) e)
  strip-from ps t b (suc n) h =
      let e : suc t - (b + suc n) ≡ suc t - (suc b + n) = omega arith in
      let e' : suc t - suc b ≡ t - b = omega arith in
      let e'' : suc t - b ≡ suc (t - b) = omega arith in
      omega (arith, strip-from ps t (suc b) n (omega arith), full_count_lem ps (t - b), ap (highs_below ps) e, ap (highs_below ps) e', ap (highs_below ps) e'')

  pub strip : (ps : List (Place L)) (w t : ℕ) → total (λ k. full_count ps (t - k)) 0 (suc (min w t)) + highs_below ps (t - w) ≡ highs_below ps (suc t)
  strip ps w t =
      let e : suc t - (0 + suc (min w t)) ≡ t - w = omega arith in
      let e' : suc t - 0 ≡ suc t = omega arith in
      omega (arith, strip-from ps t 0 (suc (min w t)) (omega arith), ap (highs_below ps) e, ap (highs_below ps) e')

  -- at each least one: first tuples of the rest in place of full ones
  pub one_in_front : (p : Place L) (ps : List (Place L)) (t : ℕ) → (let n = suc (min p.width t) in
      first_count (p ∷ ps) t + total (λ k. if is_low p k then full_count ps (t - k) else 0) 0 n + highs_below ps (t - p.width)
      ≡ total (λ k. if is_low p k then first_count ps (t - k) else 0) 0 n + highs_below ps (suc t))
  one_in_front p ps t =
      let n = suc (min p.width t) in
      omega (
        arith,
        first_more p ps t,
        strip ps p.width t,
        total-plus (λ k. if is_low p k then first_count ps (t - k) else full_count ps (t - k)) (λ k. if is_low p k then full_count ps (t - k) else 0) 0 n,
        total-plus (λ k. if is_low p k then first_count ps (t - k) else 0) (λ k. full_count ps (t - k)) 0 n,
        total-same (λ k. (if is_low p k then first_count ps (t - k) else full_count ps (t - k)) + (if is_low p k then full_count ps (t - k) else 0))
            (λ k. (if is_low p k then first_count ps (t - k) else 0) + full_count ps (t - k)) 0 n
            (λ k l u. go (is_low p k) (first_count ps (t - k)) (full_count ps (t - k))),
      )
    where
      go : (b : Bool) (f g : ℕ) → (if b then f else g) + (if b then g else 0) ≡ (if b then f else 0) + g
      go true f g = omega arith
      go false f g = omega arith

-- ---- the last place takes what is left
rest-one : (L : Type 0) (f : Bool) (s : ℕ) → length (pick {L = L} f [] s) ≡ 1 - s
unfolding pick offsets
rest-one L f zero = refl
rest-one L f (suc s) = omega arith

choose : (b : Bool) (m n k : ℕ) → m ≡ k → n ≡ k → (if b then m else n) ≡ k
choose true m n k p q = p
choose false m n k p q = q

module _ {L : Type 0} (c : Place L) (s : ℕ) where
  first_one : s ≤ c.width → first_count (c ∷ []) s ≡ 1
  first_one h =
      let e : min c.width s ≡ s = omega arith in
      let z : s - s ≡ 0 = omega arith in
      first_more c [] s
      ∙ ap (λ m. total (λ k. if is_low c k then first_count {L = L} [] (s - k) else full_count {L = L} [] (s - k)) 0 (suc m)) e
      ∙ total-last _ s (λ k l. choose (is_low c k) _ _ 0 (omega (arith, rest-one L true (s - k))) (omega (arith, rest-one L false (s - k))))
      ∙ choose (is_low c s) _ _ 1 (omega (arith, z, rest-one L true (s - s))) (omega (arith, z, rest-one L false (s - s)))

  first_none : c.width < s → first_count (c ∷ []) s ≡ 0
  first_none h =
      first_more c [] s
      ∙ total_none _ 0 (suc (min c.width s)) (λ k l u. choose (is_low c k) _ _ 0 (omega (arith, rest-one L true (s - k))) (omega (arith, rest-one L false (s - k))))

  full_one : s ≤ c.width → full_count (c ∷ []) s ≡ (if is_high c s then 1 else 0)
  full_one h =
      let e : min c.width s ≡ s = omega arith in
      let z : s - s ≡ 0 = omega arith in
      full_more c [] s
      ∙ ap (λ m. total (λ k. if is_high c k then full_count {L = L} [] (s - k) else 0) 0 (suc m)) e
      ∙ total-last _ s (λ k l. choose (is_high c k) _ _ 0 (omega (arith, rest-one L false (s - k))) refl)
      ∙ ap (λ m. if is_high c s then m else 0) (omega (arith, z, rest-one L false (s - s)))

  full_none : c.width < s → full_count (c ∷ []) s ≡ 0
  full_none h =
      full_more c [] s ∙ total_none _ 0 (suc (min c.width s)) (λ k l u. choose (is_high c k) _ _ 0 (omega (arith, rest-one L false (s - k))) refl)

-- ---- two places: the first one's offsets from s less the second's width, to its own width or s
module _ {L : Type 0} (b c : Place L) (s : ℕ) (h : s - c.width ≤ suc (min b.width s)) where
  pub first_two : first_count (b ∷ c ∷ []) s ≡ hits (λ k. is_low b k || is_high c (s - k)) (s - c.width) (suc (min b.width s) - (s - c.width))
  first_two =
      first_more b (c ∷ []) s
      ∙ total_window _ (λ k. if is_low b k || is_high c (s - k) then 1 else 0) (suc (min b.width s)) (s - c.width) h
      (λ k l. choose (is_low b k) _ _ 0 (first_none c (s - k) (omega arith)) (full_none c (s - k) (omega arith)))
      (λ k l u. go (is_low b k) k (first_one c (s - k) (omega arith)) (full_one c (s - k) (omega arith)))
    where
      go : (t : Bool) (k : ℕ) → first_count (c ∷ []) (s - k) ≡ 1 → full_count (c ∷ []) (s - k) ≡ (if is_high c (s - k) then 1 else 0)
          → (if t then first_count (c ∷ []) (s - k) else full_count (c ∷ []) (s - k)) ≡ (if t || is_high c (s - k) then 1 else 0)
      go true k p q = p
      go false k p q = q

  pub full_two : full_count (b ∷ c ∷ []) s ≡ hits (λ k. is_high b k && is_high c (s - k)) (s - c.width) (suc (min b.width s) - (s - c.width))
  full_two =
      full_more b (c ∷ []) s
      ∙ total_window _ (λ k. if is_high b k && is_high c (s - k) then 1 else 0) (suc (min b.width s)) (s - c.width) h
      (λ k l. choose (is_high b k) _ _ 0 (full_none c (s - k) (omega arith)) refl)
      (λ k l u. go (is_high b k) k (full_one c (s - k) (omega arith)))
    where
      go : (t : Bool) (k : ℕ) → full_count (c ∷ []) (s - k) ≡ (if is_high c (s - k) then 1 else 0)
          → (if t then full_count (c ∷ []) (s - k) else 0) ≡ (if t && is_high c (s - k) then 1 else 0)
      go true k q = q
      go false k q = refl
