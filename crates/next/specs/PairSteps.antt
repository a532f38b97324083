-- The steps of a walk over the first tuples of two places: from one straight to the next. Assumes nothing.
use Rattle.std.specs.Prelude.{◌≡◌, refl, ◌≢◌, Bool, true, false, not, ◌&&◌, ◌||◌, [], ◌∷◌, ℕ, suc, min, ◌+◌, ◌*◌, ◌-◌, ◌/◌, ◌%◌, ◌≤◌, ◌<◌, T, eqb, leb, if◌then◌else◌}
use Rattle.std.proofs.Common.{ap, ◌∙◌, mod-lt, arith, leb→le}
use Rattle.std.proofs.Math.Bool.{or-true, or-false, and-true}
use Rattle.std.proofs.Math.Nat.{div-add-mod}
use Rattle.std.proofs.Math.Decide.{dec_le}
use Rattle.std.proofs.Math.Dec.{nleb→lt}
use Rattle.definitions.specs.Tools.{count_up}
use Rattle.next.specs.Once.{keep}
use Rattle.next.specs.Bools.{eqb_no, eqb_yes}
use Rattle.next.specs.Classes.{Place, is_low, is_high}
use Rattle.next.specs.Remainders.{remainder, Least, both_multiples, pair-test, pair_none}
use Rattle.next.specs.PairTests.{good, keep_skip, keep_next, keep-end}
use Rattle.next.specs.ClassEnds.{Every, next_low, last_high, next_low_lem, next_low_above, low_gap, last-high, last-high-below, high_gap}

or_no : (x y : Bool) → x ≡ false → y ≡ false → (x || y) ≡ false
or_no x y p q = rw (p, q) refl

or_left : (x y : Bool) → x ≡ true → (x || y) ≡ true
or_left x y p = rw p refl

or_right : (x y : Bool) → y ≡ true → (x || y) ≡ true
or_right true y p = refl
or_right false y p = p

-- ---- two places, all before at their least: from k straight to the next
module _ {L : Type 0} (A B : ℕ) (b c : Place L) (hb : Every A b) (hc : Every B c) (pa : 0 < A) (pb : 0 < B) (s : ℕ) where
  abbrev pub step_to : ℕ → ℕ
  step_to k = min (next_low A k) (s - last_high B (s - k))

  pub step-above : (k : ℕ) → k < s → k < step_to k
  step-above k l = let x = next_low_above A b hb pa k in let y = last-high-below B c hc pb (s - k) (omega arith) in omega arith

  pub step_gap : (k j : ℕ) → k < s → s - k ≤ c.width → k < j → j < step_to k → good true b c s j ≡ false
  step_gap k j l w p q =
      or_no (is_low b j) (is_high c (s - j)) (low_gap A b hb pa k j p (omega arith)) (high_gap B c hc pb (s - k) (s - j) w (omega arith) (omega arith))

  pub step-good : (k : ℕ) → k < s → good true b c s (step_to k) ≡ true
  step-good k l = elim (dec_le (next_low A k) (s - last_high B (s - k))) [ yes y ↦ first (omega arith) | no n ↦ second (omega arith) ]
    where
      first : step_to k ≡ next_low A k → good true b c s (step_to k) ≡ true
      first e = or_left (is_low b (step_to k)) (is_high c (s - step_to k)) (ap (is_low b) e ∙ next_low_lem A b hb pa k)

      second : step_to k ≡ s - last_high B (s - k) → good true b c s (step_to k) ≡ true
      second e =
          let y = last-high-below B c hc pb (s - k) (omega arith) in
          let q : s - step_to k ≡ last_high B (s - k) = omega arith in
          or_right (is_low b (step_to k)) (is_high c (s - step_to k)) (ap (is_high c) q ∙ last-high B c hc pb (s - k))

  -- what is left after k: the next and what is left after it, or nothing
  pub fresh_step : (k end : ℕ) → k < s → s - k ≤ c.width → step_to k < end
      → keep (good true b c s) (count_up (suc k) (end - suc k)) ≡ step_to k ∷ keep (good true b c s) (count_up (suc (step_to k)) (end - suc (step_to k)))
  fresh_step k end l w u =
      let x = step-above k l in
      keep_next (good true b c s) (suc k) (step_to k) end (omega arith) u (λ j p q. step_gap k j l w (omega arith) q) (step-good k l)

  pub fresh-end : (k end : ℕ) → k < s → s - k ≤ c.width → end ≤ step_to k → keep (good true b c s) (count_up (suc k) (end - suc k)) ≡ []
  fresh-end k end l w u = keep-end (good true b c s) (suc k) end (λ j p q. step_gap k j l w (omega arith) (omega arith))

  -- the first is at the window's beginning
  pub fresh_start : good true b c s (s - c.width) ≡ true
  fresh_start = elim (dec_le c.width s) [ yes y ↦ full (omega arith) | no n ↦ none (omega arith) ]
    where
      full : s - (s - c.width) ≡ c.width → good true b c s (s - c.width) ≡ true
      full e = or_right (is_low b (s - c.width)) _ (or_right (c.cut (s - (s - c.width))) _ (eqb_yes _ _ e))

      none : s - c.width ≡ 0 → good true b c s (s - c.width) ≡ true
      none e = or_left (is_low b (s - c.width)) _ (ap (is_low b) e)

-- ---- the next number from b on that leaves the remainder r
abbrev pub ahead : ℕ → ℕ → ℕ → ℕ
ahead P r b = if leb (b % P) r then b + (r - b % P) else b + ((r + P) - b % P)

pub record Ahead (P r b j : ℕ) : Type 0 where
  pub reached : b ≤ j
  pub leaves : j % P ≡ r
  pub gap : (k : ℕ) → b ≤ k → k < j → k % P ≢ r

pub ahead_is : (P r b : ℕ) → r < P → Ahead P r b (ahead P r b)
ahead_is P r b h = go (leb (b % P) r) (leb→le (b % P) r) (nleb→lt (b % P) r)
  where
    q : ℕ
    q = b / P

    d : P * (b / P) + b % P ≡ b
    d = div-add-mod b P

    m : b % P < P
    m = mod-lt b (omega arith)

    go : (t : Bool) → (T t → b % P ≤ r) → (T (not t) → r < b % P) → Ahead P r b (if t then b + (r - b % P) else b + ((r + P) - b % P))
    go true f g =
        let l = f tt in
        let d' = d in
        record {
          reached = omega arith;
          leaves = remainder P (b + (r - b % P)) q r h (omega arith);
          gap = λ k u v e. (let x = remainder P k q (k - P * q) (omega arith) (omega arith) in omega (arith, x, e));
        }
    go false f g =
        let l = g tt in
        let d' = d in
        let m' = m in
        record {
          reached = omega arith;
          leaves = remainder P (b + ((r + P) - b % P)) (suc q) r h (omega arith);
          gap = λ k u v e. elim (dec_le (suc k) (P * suc q)) [
            | yes y ↦ (let x = remainder P k q (k - P * q) (omega arith) (omega arith) in omega (arith, x, e))
            | no n ↦ (let x = remainder P k (suc q) (k - P * suc q) (omega arith) (omega arith) in omega (arith, x, e))
          ];
        }

-- ---- two places, some before not at its least: both at their greatest
module _ {L : Type 0} (A B : ℕ) (b c : Place L) (hb : Every A b) (hc : Every B c) (s : ℕ) where
  -- where the window begins the second is at its width
  pub full_entry : c.width ≤ s → good false b c s (s - c.width) ≡ is_high b (s - c.width)
  full_entry h =
      let e : s - (s - c.width) ≡ c.width = omega arith in
      rw (e, eqb_yes c.width c.width refl, or-true (c.cut c.width)) (and-true (is_high b (s - c.width)))

  -- inside both widths both are multiples
  inner-good : (k : ℕ) → k < b.width → k ≤ s → s < k + c.width → good false b c s k ≡ both_multiples A B s k
  inner-good k w l v =
      rw (hb k, hc (s - k), eqb_no k b.width (λ e. omega arith), eqb_no (s - k) c.width (λ e. omega arith), or-false (eqb (k % A) 0), or-false (eqb ((s - k) % B) 0)) refl

  -- no more inside, from lo on
  abbrev pub Inside_none : ℕ → Type 0
  Inside_none lo = (k : ℕ) → lo ≤ k → k < min b.width (suc s) → good false b c s k ≡ false

  -- then the first place's width is what is left, if the second is at its greatest
  pub full_last : (lo : ℕ) → Inside_none lo → lo ≤ b.width → b.width ≤ s
      → keep (good false b c s) (count_up lo (suc b.width - lo)) ≡ (if is_high c (s - b.width) then b.width ∷ [] else [])
  full_last lo n v u =
      let e : suc b.width - lo ≡ (b.width - lo) + 1 = omega arith in
      let e' : lo + (b.width - lo) ≡ b.width = omega arith in
      ap (λ n. keep (good false b c s) (count_up lo n)) e
      ∙ keep_skip (good false b c s) lo (b.width - lo) 1 (λ k p q. n k p (omega arith))
      ∙ ap (λ i. keep (good false b c s) (count_up i 1)) e'
      ∙ ap (λ x. if x then b.width ∷ [] else []) (ends (is_high c (s - b.width)))
    where
      ends : (y : Bool) → (is_high b b.width && y) ≡ y
      ends y = rw (eqb_yes b.width b.width refl, or-true (b.cut b.width)) refl

  pub full_end : (lo : ℕ) → Inside_none lo → s < b.width → keep (good false b c s) (count_up lo (suc s - lo)) ≡ []
  full_end lo n u = keep-end (good false b c s) lo (suc s) (λ k p q. n k p (omega arith))

  module _ (P : ℕ) (least : Least A B P) where
    -- where the period has no start there is none
    pub no_start : ((k : ℕ) → k < P → k % A ≡ 0 → k % B ≡ s % B → ⊥) → (lo : ℕ) → s < lo + c.width → Inside_none lo
    no_start f lo l k p q = inner-good k (omega arith) (omega arith) (omega arith) ∙ pair_none A B P least s f k (omega arith)

    -- else they are those with one remainder
    module _ (k0 : ℕ) (small : k0 < P) (first : k0 % A ≡ 0) (second : k0 % B ≡ s % B) where
      inner-test : (k : ℕ) → k < b.width → k ≤ s → s < k + c.width → good false b c s k ≡ eqb (k % P) k0
      inner-test k w l v = inner-good k w l v ∙ pair-test A B P least k0 small first s second k l

      -- straight to the next
      pub full_leap : (lo end : ℕ) → s < lo + c.width → ahead P k0 lo < min b.width (suc s) → ahead P k0 lo < end
          → keep (good false b c s) (count_up lo (end - lo)) ≡ ahead P k0 lo ∷ keep (good false b c s) (count_up (suc (ahead P k0 lo)) (end - suc (ahead P k0 lo)))
      full_leap lo end l w u =
          let r = ahead_is P k0 lo small in
          keep_next (good false b c s) lo (ahead P k0 lo) end r.reached u
          (λ k p q. inner-test k (omega arith) (omega arith) (omega arith) ∙ eqb_no (k % P) k0 (r.gap k p q))
          (inner-test (ahead P k0 lo) (omega arith) (omega arith) (omega (arith, r.reached)) ∙ eqb_yes (ahead P k0 lo % P) k0 r.leaves)

      pub none_ahead : (lo : ℕ) → s < lo + c.width → min b.width (suc s) ≤ ahead P k0 lo → Inside_none lo
      none_ahead lo l w k p q =
          inner-test k (omega arith) (omega arith) (omega arith) ∙ eqb_no (k % P) k0 ((ahead_is P k0 lo small).gap k p (omega arith))
