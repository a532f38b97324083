-- The counts of two places as they are computed: at once, whatever the widths. Assumes nothing.
use Rattle.std.specs.Prelude.{◌≡◌, refl, not, ◌&&◌, ◌||◌, [], ◌∷◌, map, T, leb, ltb, length, if◌then◌else◌}
use Rattle.std.proofs.Math.Path.{sym, ap}
use Rattle.std.proofs.Common.{ap₂, ◌∙◌, leb→le, ltb→lt, nltb→le}
use Rattle.std.proofs.Math.Bool.{Bool, true, false}
use Prim.Native.Nat.{ℕ, zero, suc, min, ◌+◌, ◌-◌, ◌%◌, ◌≤◌, ◌<◌}
use Rattle.std.proofs.Math.Nat.{zero-mod}
use native.Mathlib.Omega.{arith}
use Rattle.std.proofs.Math.Dec.{eqb, nleb→lt}
use Rattle.definitions.specs.Tools.{count_up}
use Rattle.next.specs.Once.{keep}
use Rattle.next.specs.Bools.{eqb_yes}
use Rattle.next.specs.RunSums.{total, hits, mark}
use Rattle.next.specs.Classes.{Place, is_low, is_high, pick}
use Rattle.next.specs.Shapes.{step}
use Rattle.next.specs.Remainders.{Least, both_multiples}
use Rattle.next.specs.FirstCounts.{first_count, full_count}
use Rattle.next.specs.PairTests.{good, pick_two}
use Rattle.next.specs.ClosedPairs.{inner, mixed, inner_low, inner-high, inner_none, mixed_low, mixed-high, first-two-closed, full_below, full_above}
use Rattle.next.specs.Windows.{Starts, lows_in, lows_in_is, highs_in, highs_in_is, meeting, meeting_is}

-- 1 where k is the greatest of its class
abbrev high : ℕ → ℕ → ℕ → ℕ
high b w k = mark (is_high (step b w) k)

-- the places' steps a and b and widths v and w, the period of both steps and where its pairs start
module _ (a v b w P : ℕ) (start : ℕ → ℕ) where
  -- pairs of the sum s: the first at a multiple below its width, the second at the greatest of its class
  unfoldable pub inner_of : ℕ → ℕ
  inner_of s =
      if ltb s w
      then meeting b P start s 0 (min v (suc s))
      else (if leb v (s - w) then 0 else mark (eqb ((s - w) % a) 0) + meeting b P start s (suc (s - w)) (min v (suc s)))

  -- the first at the least of its class, the second at the greatest
  unfoldable pub mixed_of : ℕ → ℕ
  mixed_of zero = 1
  mixed_of (suc s) = (if leb (suc s) w then high b w (suc s) else 0) + inner_of s

  -- first tuples
  unfoldable pub first_pairs : ℕ → ℕ
  first_pairs s = if ltb (v + w) s then 0 else lows_in a (s - w) (suc (min v s)) + highs_in b w (s - min v s) (suc (min w s)) - mixed_of s

  -- both at the greatest of their class
  unfoldable pub full_pairs : ℕ → ℕ
  full_pairs s = if ltb (v + w) s then 0 else inner_of s + (if ltb s v then 0 else high b w (s - v))

  module _ (ha : 0 < a) (hb : 0 < b) (least : Least a b P) (starts : Starts a b P start) where
    abbrev one : Place ℕ
    one = step a v

    abbrev two : Place ℕ
    two = step b w

    met : (s lo hi : ℕ) → lo ≤ hi → hi ≤ suc s → meeting b P start s lo hi ≡ hits (both_multiples a b s) lo (hi - lo)
    met = meeting_is a b P start hb least starts

    inner_of_is : (s : ℕ) → inner_of s ≡ inner one two s
    unfolding inner_of
    inner_of_is s = go (ltb s w) (ltb→lt s w) (nltb→le s w) (leb v (s - w)) (leb→le v (s - w)) (nleb→lt v (s - w))
      where
        go : (c : Bool) → (T c → s < w) → (T (not c) → w ≤ s) → (d : Bool) → (T d → v ≤ s - w) → (T (not d) → s - w < v)
            → (if c then meeting b P start s 0 (min v (suc s)) else (if d then 0 else mark (eqb ((s - w) % a) 0) + meeting b P start s (suc (s - w)) (min v (suc s)))) ≡ inner one two s
        go true y z d y' z' =
            let e : min v (suc s) - 0 ≡ min v (suc s) = omega arith in
            met s 0 (min v (suc s)) (omega arith) (omega arith) ∙ ap (hits (both_multiples a b s) 0) e ∙ sym (inner_low one two a b (λ k. refl) (λ k. refl) s (y tt))
        go false y z true y' z' = sym (inner_none one two a b (λ k. refl) (λ k. refl) s (y' tt))
        go false y z false y' z' =
            let q = z tt in
            let r = z' tt in
            ap (λ n. mark (eqb ((s - w) % a) 0) + n) (met s (suc (s - w)) (min v (suc s)) (omega arith) (omega arith))
            ∙ sym (inner-high one two a b (λ k. refl) (λ k. refl) s q r)

    mixed_of_is : (s : ℕ) → mixed_of s ≡ mixed one two s
    unfolding mixed_of total
    mixed_of_is zero =
        let z : 0 - w ≡ 0 = omega arith in
        let m : suc (min v 0) - 0 ≡ 1 = omega arith in
        let f : ℕ → Bool = λ k. is_low one k && is_high two (0 - k) in
        let h : high b w 0 ≡ 1 = ap (λ c. mark (c || eqb 0 w)) (eqb_yes (0 % b) 0 (zero-mod b)) in
        sym (ap (λ d. hits f d (suc (min v 0) - d)) z ∙ ap (hits f 0) m ∙ ap (λ n. n + 0) h)
    mixed_of_is (suc s) = go (leb (suc s) w) (leb→le (suc s) w) (nleb→lt (suc s) w)
      where
        go : (c : Bool) → (T c → suc s ≤ w) → (T (not c) → w < suc s) → (if c then high b w (suc s) else 0) + inner_of s ≡ mixed one two (suc s)
        go true y z = ap (λ n. high b w (suc s) + n) (inner_of_is s) ∙ sym (mixed_low one two s (y tt))
        go false y z = omega (arith, inner_of_is s, mixed-high one two s (z tt))

    no_pair : (f : Bool) (s : ℕ) → v + w < s → length (pick f (one ∷ two ∷ []) s) ≡ 0
    no_pair f s h =
        let e : suc (min v s) - (s - w) ≡ 0 = omega arith in
        ap length (pick_two one two s f ∙ ap (λ n. map (λ k. k ∷ (s - k) ∷ []) (keep (good f one two s) (count_up (s - w) n))) e)

    pub first_pairs_is : (s : ℕ) → first_pairs s ≡ first_count (one ∷ two ∷ []) s
    unfolding first_pairs
    first_pairs_is s = go (ltb (v + w) s) (ltb→lt (v + w) s) (nltb→le (v + w) s)
      where
        less : (f m x y : ℕ) → f + m ≡ x + y → x + y - m ≡ f
        less f m x y e = omega arith

        go : (c : Bool) → (T c → v + w < s) → (T (not c) → s ≤ v + w)
            → (if c then 0 else lows_in a (s - w) (suc (min v s)) + highs_in b w (s - min v s) (suc (min w s)) - mixed_of s) ≡ first_count (one ∷ two ∷ []) s
        go true y z = sym (no_pair true s (y tt))
        go false y z =
            let q = z tt in
            let e : suc (min w s) - (s - min v s) ≡ suc (min v s) - (s - w) = omega arith in
            let x = lows_in_is a v (s - w) (suc (min v s)) ha (omega arith) in
            let u = highs_in_is b w (s - min v s) (suc (min w s)) hb (omega arith) (omega arith) ∙ ap (hits (is_high two) (s - min v s)) e in
            less (first_count (one ∷ two ∷ []) s) (mixed_of s) (lows_in a (s - w) (suc (min v s))) (highs_in b w (s - min v s) (suc (min w s)))
            (ap (λ n. first_count (one ∷ two ∷ []) s + n) (mixed_of_is s) ∙ first-two-closed one two s (omega arith) ∙ sym (ap₂ ◌+◌ x u))

    pub full_pairs_is : (s : ℕ) → full_pairs s ≡ full_count (one ∷ two ∷ []) s
    unfolding full_pairs
    full_pairs_is s = go (ltb (v + w) s) (ltb→lt (v + w) s) (nltb→le (v + w) s) (ltb s v) (ltb→lt s v) (nltb→le s v)
      where
        go : (c : Bool) → (T c → v + w < s) → (T (not c) → s ≤ v + w) → (d : Bool) → (T d → s < v) → (T (not d) → v ≤ s)
            → (if c then 0 else inner_of s + (if d then 0 else high b w (s - v))) ≡ full_count (one ∷ two ∷ []) s
        go true y z d y' z' = sym (no_pair false s (y tt))
        go false y z true y' z' = omega (arith, inner_of_is s, full_below one two s (y' tt))
        go false y z false y' z' = ap (λ n. n + high b w (s - v)) (inner_of_is s) ∙ sym (full_above one two s (z' tt) (z tt))
