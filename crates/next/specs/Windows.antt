-- How many numbers of a window leave a remainder, end a class, or are multiples in pairs: closed forms as they are computed. Assumes nothing.
use Rattle.std.specs.Prelude.{◌≡◌, Bool, true, false, not, ℕ, zero, suc, ◌+◌, ◌-◌, ◌/◌, ◌%◌, ◌≤◌, ◌<◌, T, eqb, leb, ltb, if◌then◌else◌}
use Rattle.std.proofs.Common.{sym, ap, ◌∙◌, mod-lt, arith, leb→le, ltb→lt, nltb→le}
use Rattle.std.proofs.Math.Dec.{nleb→lt}
use Rattle.next.specs.RunSums.{hits}
use Rattle.next.specs.Classes.{is_low, is_high}
use Rattle.next.specs.Shapes.{step}
use Rattle.next.specs.Remainders.{Least, remainder_within, both_multiples, pairs-within, pairs_none}
use Rattle.next.specs.ClosedPairs.{lows_from_none, lows-from, highs_inside, highs_to_end}

-- those from lo to before hi that leave the remainder r by P
unfoldable pub leaving : ℕ → ℕ → ℕ → ℕ → ℕ
leaving P r lo hi = (hi + (P - suc r)) / P - (lo + (P - suc r)) / P

-- a count in a window by two quotients
by_quotients : (P r lo hi n : ℕ) → lo ≤ hi → n + (lo + (P - suc r)) / P ≡ ((lo + (hi - lo)) + (P - suc r)) / P → leaving P r lo hi ≡ n
unfolding leaving
by_quotients P r lo hi n l e = let z : lo + (hi - lo) ≡ hi = omega arith in omega (arith, e, ap (λ x. (x + (P - suc r)) / P) z)

leaving_is : (P r lo hi : ℕ) → r < P → lo ≤ hi → leaving P r lo hi ≡ hits (λ k. eqb (k % P) r) lo (hi - lo)
leaving_is P r lo hi h l = by_quotients P r lo hi _ l (remainder_within P r lo (hi - lo) h)

-- ---- the least ones of classes of a, and the greatest
unfoldable pub lows_in : ℕ → ℕ → ℕ → ℕ
lows_in a zero hi = suc (leaving a 0 0 (hi - 1))
lows_in a (suc lo) hi = leaving a 0 lo (hi - 1)

pub lows_in_is : (a w lo hi : ℕ) → 0 < a → lo < hi → lows_in a lo hi ≡ hits (is_low (step a w)) lo (hi - lo)
unfolding lows_in
lows_in_is a w zero hi h l =
    let e : hi - 0 ≡ suc (hi - 1 - 0) = omega arith in
    ap suc (leaving_is a 0 0 (hi - 1) h (omega arith)) ∙ sym (lows_from_none (step a w) (hi - 1 - 0)) ∙ ap (hits (is_low (step a w)) 0) (sym e)
lows_in_is a w (suc lo) hi h l =
    let e : hi - suc lo ≡ hi - 1 - lo = omega arith in
    leaving_is a 0 lo (hi - 1) h (omega arith) ∙ sym (lows-from (step a w) lo (hi - 1 - lo)) ∙ ap (hits (is_low (step a w)) (suc lo)) (sym e)

unfoldable pub highs_in : ℕ → ℕ → ℕ → ℕ → ℕ
highs_in a w lo hi = if leb hi w then leaving a 0 lo hi else suc (leaving a 0 lo w)

pub highs_in_is : (a w lo hi : ℕ) → 0 < a → lo < hi → hi ≤ suc w → highs_in a w lo hi ≡ hits (is_high (step a w)) lo (hi - lo)
unfolding highs_in
highs_in_is a w lo hi h l u = go (leb hi w) (leb→le hi w) (nleb→lt hi w)
  where
    go : (b : Bool) → (T b → hi ≤ w) → (T (not b) → w < hi) → (if b then leaving a 0 lo hi else suc (leaving a 0 lo w)) ≡ hits (is_high (step a w)) lo (hi - lo)
    go true y z = let q = y tt in leaving_is a 0 lo hi h (omega arith) ∙ sym (highs_inside (step a w) lo (hi - lo) (omega arith))
    go false y z =
        let q = z tt in
        let e : hi - lo ≡ suc (w - lo) = omega arith in
        ap suc (leaving_is a 0 lo w h (omega arith)) ∙ sym (highs_to_end (step a w) lo (w - lo) (omega arith)) ∙ ap (hits (is_high (step a w)) lo) (sym e)

-- ---- pairs of multiples: `start` gives, for a remainder by b, the multiple of a below the period that leaves it; the period where none does
pub record Starts (a b P : ℕ) (start : ℕ → ℕ) : Type 0 where
  pub met : (r : ℕ) → r < b → start r < P → (start r % a ≡ 0) × (start r % b ≡ r)
  pub none : (r : ℕ) → r < b → P ≤ start r → (k : ℕ) → k < P → k % a ≡ 0 → k % b ≡ r → ⊥

unfoldable pub meeting : ℕ → ℕ → (ℕ → ℕ) → ℕ → ℕ → ℕ → ℕ
meeting b P start s lo hi = if ltb (start (s % b)) P then leaving P (start (s % b)) lo hi else 0

pub meeting_is : (a b P : ℕ) (start : ℕ → ℕ) → 0 < b → Least a b P → Starts a b P start → (s lo hi : ℕ) → lo ≤ hi → hi ≤ suc s
    → meeting b P start s lo hi ≡ hits (both_multiples a b s) lo (hi - lo)
unfolding meeting
meeting_is a b P start g least t s lo hi l u = go (ltb (start (s % b)) P) (ltb→lt (start (s % b)) P) (nltb→le (start (s % b)) P)
  where
    small : s % b < b
    small = mod-lt s g

    go : (c : Bool) → (T c → start (s % b) < P) → (T (not c) → P ≤ start (s % b)) → (if c then leaving P (start (s % b)) lo hi else 0) ≡ hits (both_multiples a b s) lo (hi - lo)
    go true y z =
        let q = y tt in
        let m = t.met (s % b) small q in
        by_quotients P (start (s % b)) lo hi _ l (pairs-within a b P least (start (s % b)) q m.0 s lo (hi - lo) m.1 (omega arith))
    go false y z = sym (pairs_none a b P least s lo (hi - lo) (t.none (s % b) small (z tt)) (omega arith))
